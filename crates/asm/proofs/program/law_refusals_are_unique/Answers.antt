use Rattle.asm.proofs.Laws.{laws}
use Rattle.asm.proofs.Meanings.{refusals_once}
use Rattle.asm.proofs.program.law_refusals_are_unique.Goals as goal

pub returns : goal.returns
returns c = refusals_once laws
