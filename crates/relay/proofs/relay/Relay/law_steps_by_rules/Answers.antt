use Rattle.std.proofs.Common.{◌<◌, All, ap, subst, ◌∙◌}
use Rattle.machine.specs.Contents.{room_of}
use Rattle.tables.specs.WellFormed.{AreWellFormed}
use Rattle.relay.specs.Relays.{state_of, datagram_at}
use Rattle.relay.proofs.Datagrams.{is_datagram}
use Rattle.relay.proofs.ShippedRuns.{same_datagram}
use Rattle.relay.proofs.relay.Relay.law_steps_by_rules.Goals as goal

pub returns : goal.returns
returns c = λ are.
    let fit = subst (All (λ b. b < 256)) (c.room.ensures.value ∙ ap room_of c.frame.ensures) c.law_all_fit.ensures in
    let datagram = is_datagram c.args.self.now c.args.n c.requires fit in
    same_datagram c.law_client_serves.ensures c.law_peer_serves.ensures c.args.self.now.programs are c.args.self.now.config (state_of c.args.self.now) c.args.meta.now (datagram_at c.args.self.now c.args.n)
    (subst AreWellFormed c.tables.ensures c.law_are_well_formed.ensures) c.law_are_bytes.ensures datagram c.law_is_source.ensures
