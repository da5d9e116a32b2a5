use Rattle.stun.proofs.Datagrams.{refused_is_no_message}
use Rattle.stun.proofs.reading.law_refused_is_no_message.Goals as goal

pub returns : goal.returns
returns c = refused_is_no_message
