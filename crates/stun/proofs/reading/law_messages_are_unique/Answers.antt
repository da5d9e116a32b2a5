use Rattle.stun.proofs.Integrity.{same_message}
use Rattle.stun.proofs.reading.law_messages_are_unique.Goals as goal

pub returns : goal.returns
returns c = same_message
