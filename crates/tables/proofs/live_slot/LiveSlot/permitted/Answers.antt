use Rattle.std.proofs.Common.{◌≡◌, is_some, ap, ◌∙◌, rules}
use Rattle.tables.specs.Moments.{is_live_at}
use Rattle.tables.specs.Retained.{value_if}
use Rattle.tables.proofs.Found.{permission_of-live}
use Rattle.tables.proofs.live_slot.LiveSlot.permitted.Goals as goal

pub returns-clause-permitted : goal.returns-clause-permitted
returns-clause-permitted g c =
    let live : c.is_some_and.result ≡ is_some (value_if (is_live_at c.self.inside.moment) c.end_of.result) = search rules in
    live ∙ ap (λ end. is_some (value_if (is_live_at c.self.inside.moment) end)) c.end_of.ensures.end
    ∙ permission_of-live c.self.inside.moment c.self.inside.held.now c.args.self.now c.self.view_is c.args.ip
