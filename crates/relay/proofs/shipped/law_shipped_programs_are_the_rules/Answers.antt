use Rattle.std.proofs.Common.{arith}
use Rattle.control.specs.laws.Config.{within_limits}
use Rattle.tables.specs.laws.WellFormed.{no_rows-well_formed}
use Rattle.rules.specs.Systems.{first}
use Rattle.relay.proofs.ShippedRuns.{alike}
use Rattle.relay.proofs.shipped.law_shipped_programs_are_the_rules.Goals as goal

pub returns : goal.returns
returns c = λ programs are config valid events all.
    alike c.law_client_serves.ensures c.law_peer_serves.ensures programs are config config.slots (first config) events
    (no_rows-well_formed config.slots (omega (arith, (within_limits config valid).slots.1))) all
