use Rattle.insn.proofs.Programs.{encoding-injective}
use Rattle.insn.proofs.encoding.law_no_encoding_begins_another.Goals as goal

pub returns : goal.returns
returns c i j rest other fits_i fits_j e = (encoding-injective i j rest other fits_i fits_j e).0
