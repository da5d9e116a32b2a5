use Rattle.std.proofs.Common.{◌<◌, All, ap, subst, ◌∙◌}
use Rattle.machine.specs.Contents.{room_of}
use Rattle.tables.specs.WellFormed.{AreWellFormed}
use Rattle.relay.specs.Relays.{state_of, datagram_at}
use Rattle.rules.specs.Systems.{outcome_at, with_nonce}
use Rattle.tables.specs.Moments.{moment_of}
use Rattle.relay.proofs.Datagrams.{is_datagram}
use Rattle.relay.proofs.Unconfined.{choice_unconfined, disposition_unconfined, reply_unconfined}
use Rattle.relay.proofs.relay.Relay.law_shipped_are_unconfined.Goals as goal

pub returns : goal.returns
returns c = λ are.
    let fit = subst (All (λ b. b < 256)) (c.room.ensures.value ∙ ap room_of c.frame.ensures) c.law_all_fit.ensures in
    let datagram = is_datagram c.args.self.now c.args.n c.requires fit in
    let r = c.args.self.now in
    let given = c.args.meta.now in
    let formed = subst AreWellFormed c.tables.ensures c.law_are_well_formed.ensures in
    let moment = moment_of r.greatest given.now in
    record {
      outcome = ap (outcome_at moment (state_of r))
          (reply_unconfined c.law_client_serves.ensures c.law_peer_serves.ensures r.programs are (with_nonce r.config r.config.nonce.bytes) moment given.tx r.rows
          (datagram_at r c.args.n) formed c.law_are_bytes.ensures datagram given.from c.law_is_source.ensures);
      disposition =
          disposition_unconfined c.law_client_serves.ensures c.law_peer_serves.ensures r.programs are r.config moment given.tx r.rows
          (datagram_at r c.args.n) formed c.law_are_bytes.ensures datagram given.from c.law_is_source.ensures;
      choice =
          choice_unconfined c.law_client_serves.ensures c.law_peer_serves.ensures r.programs are r.config moment given.tx r.rows
          (datagram_at r c.args.n) formed c.law_are_bytes.ensures datagram given.from c.law_is_source.ensures;
    }
