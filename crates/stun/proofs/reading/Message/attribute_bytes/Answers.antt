use Rattle.stun.proofs.Readings.{attributes_after}
use Rattle.stun.proofs.reading.Message.attribute_bytes.Goals as goal

pub returns : goal.returns
returns c =
    attributes_after _ _ _ c.self.invariant.encodes c.self.view_is c.split_at.ensures.back
