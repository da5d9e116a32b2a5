use Rattle.std.proofs.Common.{rules}
use Rattle.insn.proofs.decoding.has_slots.Goals as goal

pub returns-then-is_second-clause-same : goal.returns-then-is_second-clause-same
returns-then-is_second-clause-same c = search rules
