use Rattle.insn.proofs.Programs.{refusal_unique}
use Rattle.insn.proofs.decoding.law_refusals_are_unique.Goals as goal

pub returns : goal.returns
returns c = refusal_unique
