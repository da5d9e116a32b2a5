-- What is found of a window that a program would send, by what is live in the slot in which helpers look up.
use Rattle.std.proofs.Common.{◌≡◌, ℕ, List, true, false, refl, sym, ap, subst, ◌∙◌}
use Rattle.std.specs.Prelude.{Option, None, Some, option_map}
use Rattle.addresses.specs.Addresses.{is_of_family}
use Rattle.addresses.specs.declared.address.Addr.{Addr}
use Rattle.tables.specs.LookUps.{allocation_of, held_by, held_in}
use Rattle.tables.specs.Rows.{Rows, rows_at}
use Rattle.tables.specs.WellFormed.{AreWellFormed}
use Rattle.tables.specs.declared.allocation.Allocation.{Allocation}
use Rattle.tables.specs.declared.held.Held.{Held}
use Rattle.events.specs.Events.{Sending, ToPeer, ToClient}
use Rattle.events.specs.declared.meta.Source.{Source}
use Rattle.events.specs.declared.meta.Source.TheVariants.{Client, Peer}
use Rattle.programs.specs.Runs.{planned_sending}
use Rattle.rules.specs.declared.confinement.Confinement.{Confinement}
use Rattle.rules.specs.declared.disposition.Discard.TheVariants.{ByProgram}
use Rattle.relay.specs.ByPrograms.{disposition_of_sent, let_through, relayed_where_sent}
use Rattle.relay.specs.Forwarding.{disposition_of_forwarding, held_for, may_come, may_go, sending_of_forwarding, window_shown}
use Rattle.relay.specs.Relays.{RelayContents}
use Rattle.relay.specs.declared.forwarding.Forwarding.{Forwarding}
use Rattle.relay.specs.declared.forwarding.Forwarding.TheVariants as forwarding
use Rattle.relay.proofs.Confined.{client_at_is, nothing_sent, nothing_through, own_allocation_is, passes, passes_where_may_come, passes_where_may_go, plans_elsewhere, plans_nothing, plans_nowhere, plans_to_client, plans_to_none, plans_to_peer, window_discarded, window_relayed, window_stopped, window_through}

module _ (c : Option Confinement) (r : RelayContents) where
  abbrev live : Rows
  live = rows_at r.greatest r.rows

  abbrev shown : Option (List ℕ)
  shown = window_shown r.frame

  -- the finding of a plan
  pub record IsForwardedAs (from : Source) (destination : Option Addr) (f : Forwarding) : Type 0 where
    pub sends : sending_of_forwarding r from f ≡ let_through c from live (planned_sending from live destination shown)
    pub disposition : disposition_of_forwarding r from f ≡ disposition_of_sent c from live (planned_sending from live destination shown)

  forwards_nothing : (from : Source) (destination : Option Addr) → planned_sending from live destination shown ≡ None → IsForwardedAs from destination (forwarding.Nothing ByProgram)
  forwards_nothing from destination none = record {
    sends = sym (ap (let_through c from live) none ∙ nothing_through from live c);
    disposition = sym (ap (disposition_of_sent c from live) none ∙ nothing_sent from live c);
  }

  -- a window that is sent, and one that is stopped
  module _ (from : Source) (destination : Option Addr) (make : List ℕ → Sending) (plan : planned_sending from live destination shown ≡ option_map make shown) where
    forwards_window : (f : Forwarding) → sending_of_forwarding r from f ≡ option_map make shown → disposition_of_forwarding r from f ≡ relayed_where_sent (option_map make shown)
        → ((bytes : List ℕ) → passes c from live (make bytes) ≡ true) → IsForwardedAs from destination f
    forwards_window f sent done is = record {
      sends = sent ∙ sym (ap (let_through c from live) plan ∙ window_through from live c make is shown);
      disposition = done ∙ sym (ap (disposition_of_sent c from live) plan ∙ window_relayed from live c make is shown);
    }

    forwards_stopped : ((bytes : List ℕ) → passes c from live (make bytes) ≡ false) → IsForwardedAs from destination forwarding.Stopped
    forwards_stopped is = record {
      sends = sym (ap (let_through c from live) plan ∙ window_stopped from live c make is shown);
      disposition = sym (ap (disposition_of_sent c from live) plan ∙ window_discarded from live c make is shown);
    }

  -- where the slot has no live allocation
  pub forwards_unheld : (from : Source) (destination : Option Addr) → None ≡ held_for from live → IsForwardedAs from destination (forwarding.Nothing ByProgram)
  forwards_unheld (Client client) destination none =
      forwards_nothing (Client client) destination (plans_nothing live client (ap (option_map (λ (held : Held). held.allocation)) (sym none)) destination shown)
  forwards_unheld (Peer slot peer) destination none =
      forwards_nothing (Peer slot peer) destination
      (plans_to_none live slot peer destination
      (ap (λ (o : Option Held). option_map (λ (a : Allocation). a.client) (option_map (λ (held : Held). held.allocation) o)) (sym none)) shown)

  module _ (formed : AreWellFormed live) (held : Held) where
    -- of a client
    module _ (client : Addr) (is : Some held ≡ held_by client live) where
      own : allocation_of client live ≡ Some held.allocation
      own = own_allocation_is client live held formed is

      pub forwards_nowhere : IsForwardedAs (Client client) None (forwarding.Nothing ByProgram)
      forwards_nowhere = forwards_nothing (Client client) None (plans_nowhere live client shown)

      module _ (peer : Addr) where
        pub forwards_elsewhere : is_of_family held.allocation.family peer ≡ false → IsForwardedAs (Client client) (Some peer) (forwarding.Nothing ByProgram)
        forwards_elsewhere family = forwards_nothing (Client client) (Some peer) (plans_elsewhere live client held.allocation peer own family shown)

        module _ (family : is_of_family held.allocation.family peer ≡ true) where
          plan : planned_sending (Client client) live (Some peer) shown ≡ option_map (ToPeer held.allocation.slot peer) shown
          plan = plans_to_peer live client held.allocation peer own family shown

          pub forwards_to_peer : may_go c held peer ≡ true → IsForwardedAs (Client client) (Some peer) (forwarding.WindowToPeer held.allocation.slot peer)
          forwards_to_peer may =
              forwards_window (Client client) (Some peer) (ToPeer held.allocation.slot peer) plan (forwarding.WindowToPeer held.allocation.slot peer) refl refl
              (λ bytes. passes_where_may_go client live held formed is c peer bytes ∙ may)

          pub stopped_to_peer : may_go c held peer ≡ false → IsForwardedAs (Client client) (Some peer) forwarding.Stopped
          stopped_to_peer may =
              forwards_stopped (Client client) (Some peer) (ToPeer held.allocation.slot peer) plan
              (λ bytes. passes_where_may_go client live held formed is c peer bytes ∙ may)

    -- of a slot
    module _ (slot : ℕ) (peer : Addr) (is : Some held ≡ held_in live slot) (destination : Option Addr) where
      plan_to_client : planned_sending (Peer slot peer) live destination shown ≡ option_map (ToClient held.allocation.client) shown
      plan_to_client = plans_to_client live slot peer destination held.allocation.client (client_at_is slot live held is) shown

      pub forwards_to_client : may_come c held peer ≡ true → IsForwardedAs (Peer slot peer) destination (forwarding.WindowToClient held.allocation.client)
      forwards_to_client may =
          forwards_window (Peer slot peer) destination (ToClient held.allocation.client) plan_to_client (forwarding.WindowToClient held.allocation.client) refl refl
          (λ bytes. passes_where_may_come slot live held is c peer held.allocation.client bytes ∙ may)

      pub stopped_to_client : may_come c held peer ≡ false → IsForwardedAs (Peer slot peer) destination forwarding.Stopped
      stopped_to_client may =
          forwards_stopped (Peer slot peer) destination (ToClient held.allocation.client) plan_to_client
          (λ bytes. passes_where_may_come slot live held is c peer held.allocation.client bytes ∙ may)

-- ---- with what is matched as equations

module _ (c : Option Confinement) (r : RelayContents) (from : Source) (destination : Option Addr) (o : Option Held)
    (formed : AreWellFormed (rows_at r.greatest r.rows)) (is : o ≡ held_for from (rows_at r.greatest r.rows)) (held : Held) (there : o ≡ Some held) where
  module _ (client : Addr) (from_is : from ≡ Client client) (peer : Addr) (destination_is : destination ≡ Some peer)
      (family : is_of_family held.allocation.family peer ≡ true) where
    held_is : Some held ≡ held_by client (rows_at r.greatest r.rows)
    held_is = sym there ∙ is ∙ ap (λ (s : Source). held_for s (rows_at r.greatest r.rows)) from_is

    with_values : (f : Forwarding) → IsForwardedAs c r (Client client) (Some peer) f → IsForwardedAs c r from destination f
    with_values f found =
        subst (λ (s : Source). IsForwardedAs c r s destination f) (sym from_is)
        (subst (λ (d : Option Addr). IsForwardedAs c r (Client client) d f) (sym destination_is) found)

    pub client_stopped : may_go c held peer ≡ false → IsForwardedAs c r from destination forwarding.Stopped
    client_stopped may = with_values forwarding.Stopped (stopped_to_peer c r formed held client held_is peer family may)

    pub client_sends : (slot : ℕ) → slot ≡ held.allocation.slot → may_go c held peer ≡ true → IsForwardedAs c r from destination (forwarding.WindowToPeer slot peer)
    client_sends slot slot_is may =
        with_values (forwarding.WindowToPeer slot peer)
        (subst (λ (n : ℕ). IsForwardedAs c r (Client client) (Some peer) (forwarding.WindowToPeer n peer)) (sym slot_is)
        (forwards_to_peer c r formed held client held_is peer family may))

  module _ (slot : ℕ) (peer : Addr) (from_is : from ≡ Peer slot peer) where
    slot_held_is : Some held ≡ held_in (rows_at r.greatest r.rows) slot
    slot_held_is = sym there ∙ is ∙ ap (λ (s : Source). held_for s (rows_at r.greatest r.rows)) from_is

    from_peer : (f : Forwarding) → IsForwardedAs c r (Peer slot peer) destination f → IsForwardedAs c r from destination f
    from_peer f found = subst (λ (s : Source). IsForwardedAs c r s destination f) (sym from_is) found

    pub peer_stopped : may_come c held peer ≡ false → IsForwardedAs c r from destination forwarding.Stopped
    peer_stopped may = from_peer forwarding.Stopped (stopped_to_client c r formed held slot peer slot_held_is destination may)

    pub peer_sends : (client : Addr) → client ≡ held.allocation.client → may_come c held peer ≡ true → IsForwardedAs c r from destination (forwarding.WindowToClient client)
    peer_sends client client_is may =
        from_peer (forwarding.WindowToClient client)
        (subst (λ (a : Addr). IsForwardedAs c r (Peer slot peer) destination (forwarding.WindowToClient a)) (sym client_is)
        (forwards_to_client c r formed held slot peer slot_held_is destination may))
