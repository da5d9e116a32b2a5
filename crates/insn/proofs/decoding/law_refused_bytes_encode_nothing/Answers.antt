use Rattle.insn.proofs.Programs.{refused_is_no_program}
use Rattle.insn.proofs.decoding.law_refused_bytes_encode_nothing.Goals as goal

pub returns : goal.returns
returns c = refused_is_no_program
