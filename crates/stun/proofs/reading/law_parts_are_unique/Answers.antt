use Rattle.stun.proofs.Datagrams.{parts_unique}
use Rattle.stun.proofs.reading.law_parts_are_unique.Goals as goal

pub returns : goal.returns
returns c = parts_unique
