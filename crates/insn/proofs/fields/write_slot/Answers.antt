use Rattle.std.proofs.lemmas.Grind.{common_steps}
use Rattle.std.proofs.Common.{arith}
use Rattle.insn.proofs.fields.write_slot.Goals as goal

pub returns : goal.returns
returns c = grind (arith, common_steps)
