use Rattle.std.proofs.Common.{subst}
use Rattle.tables.specs.WellFormed.{AreWellFormed}
use Rattle.tables.specs.laws.WellFormed.{live-well_formed}
use Rattle.tables.proofs.storage.Tables.law_are_well_formed.Goals as goal

pub returns : goal.returns
returns c =
    let moment = c.self.inside.moment in
    subst AreWellFormed c.self.view_is (live-well_formed moment (record { moment = moment; slots = c.self.inside.slots.items }) c.self.invariant.rows.latest c.self.invariant.rows)
