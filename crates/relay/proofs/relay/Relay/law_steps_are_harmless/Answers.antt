use Rattle.std.proofs.Common.{subst}
use Rattle.tables.specs.WellFormed.{AreWellFormed}
use Rattle.relay.specs.Relays.{state_of, datagram_at}
use Rattle.relay.proofs.HarmlessSteps.{harmless}
use Rattle.relay.proofs.relay.Relay.law_steps_are_harmless.Goals as goal

pub returns : goal.returns
returns c =
    harmless c.args.self.now.programs c.args.self.now.config (state_of c.args.self.now) c.args.meta.now (datagram_at c.args.self.now c.args.n)
    (subst AreWellFormed c.tables.ensures c.law_are_well_formed.ensures)
