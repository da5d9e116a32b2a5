use Rattle.std.proofs.Common.{sym, ◌∙◌}
use Rattle.insn.proofs.Programs.{encodings-injective}
use Rattle.insn.proofs.encoding.law_bytes_encode_one_program.Goals as goal

pub returns : goal.returns
returns c code other bytes a b = encodings-injective code other a.fit b.fit (sym a.spelled ∙ b.spelled)
