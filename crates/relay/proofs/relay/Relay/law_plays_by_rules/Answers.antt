use Rattle.std.proofs.Common.{subst}
use Rattle.tables.specs.WellFormed.{AreWellFormed}
use Rattle.relay.specs.Relays.{state_of}
use Rattle.relay.proofs.ShippedRuns.{alike}
use Rattle.relay.proofs.relay.Relay.law_plays_by_rules.Goals as goal

pub returns : goal.returns
returns c = λ are events all.
    alike c.law_client_serves.ensures c.law_peer_serves.ensures c.args.self.now.programs are c.args.self.now.config c.args.self.now.config.slots (state_of c.args.self.now) events (subst AreWellFormed c.tables.ensures c.law_are_well_formed.ensures) all
