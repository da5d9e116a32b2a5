use Rattle.stun.proofs.Datagrams.{refusal_unique}
use Rattle.stun.proofs.reading.law_refusals_are_unique.Goals as goal

pub returns : goal.returns
returns c = refusal_unique
