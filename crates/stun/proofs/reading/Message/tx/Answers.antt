use Rattle.std.proofs.Common.{take, ap, ◌∙◌}
use Rattle.stun.specs.Messages.{Parts}
use Rattle.stun.proofs.reading.Message.tx.Goals as goal

pub returns : goal.returns
returns c =
    c.copy_from_slice.ensures.after ∙ c.split_at-2.ensures.front ∙ ap (take 12) c.split_at.ensures.back ∙ ap (λ (p : Parts). p.tx) c.self.view_is
