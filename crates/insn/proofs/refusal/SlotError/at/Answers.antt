use Rattle.std.proofs.Common.{rules}
use Rattle.insn.proofs.refusal.SlotError.at.Goals as goal

pub returns-in-WideCut : goal.returns-in-WideCut
returns-in-WideCut c = search rules
