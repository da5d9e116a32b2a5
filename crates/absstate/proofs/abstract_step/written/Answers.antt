use Rattle.std.proofs.Common.{rules}
use Rattle.absstate.proofs.abstract_step.written.Goals as goal

pub returns-in_err-known : goal.returns-in_err-known
returns-in_err-known c = search rules

pub returns : goal.returns
returns c = search rules
