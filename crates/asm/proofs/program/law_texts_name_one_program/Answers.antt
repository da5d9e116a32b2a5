use Rattle.asm.proofs.Laws.{laws}
use Rattle.asm.proofs.Meanings.{names_once}
use Rattle.asm.proofs.program.law_texts_name_one_program.Goals as goal

pub returns : goal.returns
returns c = names_once laws
