use Rattle.std.proofs.Common.{rules}
use Rattle.insn.proofs.encoding.push_slot.Goals as goal

pub returns : goal.returns
returns c = search rules
