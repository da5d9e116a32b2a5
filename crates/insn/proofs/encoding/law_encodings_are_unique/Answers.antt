use Rattle.insn.proofs.Programs.{encodings-injective}
use Rattle.insn.proofs.encoding.law_encodings_are_unique.Goals as goal

pub returns : goal.returns
returns c = encodings-injective
