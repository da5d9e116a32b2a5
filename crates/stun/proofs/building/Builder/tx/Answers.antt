use Rattle.std.proofs.Common.{take, ap, ◌∙◌}
use Rattle.stun.specs.Builders.{parts_of}
use Rattle.stun.proofs.Writing.{id_of}
use Rattle.stun.proofs.building.Builder.tx.Goals as goal

pub returns : goal.returns
returns c =
    c.copy_from_slice.ensures.after ∙ c.split_at-2.ensures.front ∙ ap (take 12) c.split_at.ensures.back ∙ id_of (parts_of c.args.self.now) c.written.result.now c.written.ensures.parts c.written.ensures.bytes
