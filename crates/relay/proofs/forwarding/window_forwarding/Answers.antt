use Rattle.std.proofs.Common.{◌≡◌, true, sym, ap, ◌∙◌}
use Rattle.addresses.specs.Addresses.{is_of_family}
use Rattle.tables.specs.Rows.{rows_at}
use Rattle.tables.specs.WellFormed.{AreWellFormed}
use Rattle.tables.specs.declared.allocation.Allocation.{Allocation}
use Rattle.relay.specs.Forwarding.{asked, held_for}
use Rattle.relay.specs.Relays.{RelayContents}
use Rattle.relay.specs.declared.forwarding.Forwarding.TheVariants as forwarding
use Rattle.relay.proofs.Windows.{IsForwardedAs, client_stopped, client_sends, peer_stopped, peer_sends}
use Rattle.relay.proofs.forwarding.window_forwarding.Goals as goal

-- ---- where the data of a client may not go to the peer

stopped : (g : _) (c : goal.Then-not-may_go g) (r : RelayContents) → AreWellFormed (rows_at r.greatest r.rows)
    → c.args.live.now ≡ held_for c.args.from.now (rows_at r.greatest r.rows) → IsForwardedAs (asked c.args.asks c.args.confinement.now) r c.args.from.now c.args.destination forwarding.Stopped
stopped g c r formed is =
    let family : is_of_family c.in-Some.live.allocation.family c.in-Some-destination.peer ≡ true =
    ap (λ (a : Allocation). is_of_family a.family c.in-Some-destination.peer) (sym c.allocation-allocation.ensures)
    ∙ sym c.is_of_family.ensures ∙ c.if-not-is_of_family.false in
    client_stopped (asked c.args.asks c.args.confinement.now) r c.args.from.now c.args.destination c.args.live.now formed is c.in-Some.live c.in-Some.is
    c.in-Client.field-0 c.in-Client.is c.in-Some-destination.peer c.in-Some-destination.is family
    (sym c.may_go.ensures.may ∙ c.if-not-may_go.true)

pub returns-then-not-may_go-clause-sends : goal.returns-then-not-may_go-clause-sends
returns-then-not-may_go-clause-sends g c = λ r formed is. (stopped g c r formed is).sends

pub returns-then-not-may_go-clause-disposition : goal.returns-then-not-may_go-clause-disposition
returns-then-not-may_go-clause-disposition g c = λ r formed is. (stopped g c r formed is).disposition

-- ---- where it may

sent : (g : _) (c : goal.Else-not-may_go g) (r : RelayContents) → AreWellFormed (rows_at r.greatest r.rows)
    → c.args.live.now ≡ held_for c.args.from.now (rows_at r.greatest r.rows)
    → IsForwardedAs (asked c.args.asks c.args.confinement.now) r c.args.from.now c.args.destination (forwarding.WindowToPeer c.allocation-allocation.result.now.slot c.in-Some-destination.peer)
sent g c r formed is =
    let family : is_of_family c.in-Some.live.allocation.family c.in-Some-destination.peer ≡ true =
    ap (λ (a : Allocation). is_of_family a.family c.in-Some-destination.peer) (sym c.allocation-allocation.ensures)
    ∙ sym c.is_of_family.ensures ∙ c.if-not-is_of_family.false in
    client_sends (asked c.args.asks c.args.confinement.now) r c.args.from.now c.args.destination c.args.live.now formed is c.in-Some.live c.in-Some.is
    c.in-Client.field-0 c.in-Client.is c.in-Some-destination.peer c.in-Some-destination.is family
    c.allocation-allocation.result.now.slot (ap (λ (a : Allocation). a.slot) c.allocation-allocation.ensures)
    (sym c.may_go.ensures.may ∙ c.if-not-may_go.false)

pub returns-else-not-may_go-clause-sends : goal.returns-else-not-may_go-clause-sends
returns-else-not-may_go-clause-sends g c = λ r formed is. (sent g c r formed is).sends

pub returns-else-not-may_go-clause-disposition : goal.returns-else-not-may_go-clause-disposition
returns-else-not-may_go-clause-disposition g c = λ r formed is. (sent g c r formed is).disposition

-- ---- where the data of a peer may not come to the client

kept_out : (g : _) (c : goal.Then-not-may_come g) (r : RelayContents) → AreWellFormed (rows_at r.greatest r.rows)
    → c.args.live.now ≡ held_for c.args.from.now (rows_at r.greatest r.rows) → IsForwardedAs (asked c.args.asks c.args.confinement.now) r c.args.from.now c.args.destination forwarding.Stopped
kept_out g c r formed is =
    peer_stopped (asked c.args.asks c.args.confinement.now) r c.args.from.now c.args.destination c.args.live.now formed is c.in-Some.live c.in-Some.is
    c.in-Peer.slot c.in-Peer.addr c.in-Peer.is (sym c.may_come.ensures.may ∙ c.if-not-may_come.true)

pub returns-then-not-may_come-clause-sends : goal.returns-then-not-may_come-clause-sends
returns-then-not-may_come-clause-sends g c = λ r formed is. (kept_out g c r formed is).sends

pub returns-then-not-may_come-clause-disposition : goal.returns-then-not-may_come-clause-disposition
returns-then-not-may_come-clause-disposition g c = λ r formed is. (kept_out g c r formed is).disposition

-- ---- where it may

pub returns-else-not-may_come-clause-sends : goal.returns-else-not-may_come-clause-sends
returns-else-not-may_come-clause-sends g c = λ r formed is.
    (peer_sends (asked c.args.asks c.args.confinement.now) r c.args.from.now c.args.destination c.args.live.now formed is c.in-Some.live c.in-Some.is
    c.in-Peer.slot c.in-Peer.addr c.in-Peer.is _ (ap (λ (a : Allocation). a.client) c.allocation-allocation.ensures)
    (sym c.may_come.ensures.may ∙ c.if-not-may_come.false)).sends

pub returns-else-not-may_come-clause-disposition : goal.returns-else-not-may_come-clause-disposition
returns-else-not-may_come-clause-disposition g c = λ r formed is.
    (peer_sends (asked c.args.asks c.args.confinement.now) r c.args.from.now c.args.destination c.args.live.now formed is c.in-Some.live c.in-Some.is
    c.in-Peer.slot c.in-Peer.addr c.in-Peer.is _ (ap (λ (a : Allocation). a.client) c.allocation-allocation.ensures)
    (sym c.may_come.ensures.may ∙ c.if-not-may_come.false)).disposition
