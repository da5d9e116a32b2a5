use Rattle.std.proofs.Common.{◌≡◌, ℕ, Some, IfSome, subst}
use Rattle.tables.specs.LookUps.{held_in}
use Rattle.tables.specs.Rows.{live_rows}
use Rattle.tables.proofs.storage.Tables.live_of.Goals as goal

pub returns-clause-at_slot : goal.returns-clause-at_slot
returns-clause-at_slot g c =
    let P : ℕ → Type 0 = λ moment. IfSome c.live_by.result (λ l. held_in (live_rows moment c.args.self.now) l.allocation.slot ≡ Some l) in
    subst P c.moment_at.ensures.moment c.live_by.ensures.at_slot
