-- Confined programs: what is let through of what they send, and that it is permitted.
use Rattle.std.proofs.Common.{◌≡◌, ℕ, List, [], length, Bool, true, false, refl, sym, ap, subst, ◌∙◌}
use Rattle.std.specs.Prelude.{◌==◌, ◌||◌, Option, None, Some, IfSome, is_some, option_map, if◌then◌else◌}
use Rattle.std.specs.Option.{option_and_then}
use Rattle.std.proofs.lemmas.Bool.{cond-true, cond-false, both_ways}
use Rattle.semantics.specs.Runs.{Run}
use Rattle.addresses.specs.Addresses.{is_of_family}
use Rattle.addresses.specs.declared.address.Addr.{Addr}
use Rattle.control.specs.declared.config.Config.{Config}
use Rattle.tables.specs.LookUps.{allocation_of, bound_channel, has_permission, held_by, held_in, permission_of}
use Rattle.tables.specs.Moments.{moment_of}
use Rattle.tables.specs.Rows.{Rows, rows_at}
use Rattle.tables.specs.WellFormed.{AreWellFormed}
use Rattle.tables.specs.laws.WellFormed.{held_by-at_slot}
use Rattle.tables.specs.declared.allocation.Allocation.{Allocation}
use Rattle.tables.specs.declared.held.Held.{Held}
use Rattle.events.specs.Events.{Event, Datagram, Nonce, Sending, ToPeer, ToClient}
use Rattle.events.specs.declared.meta.Source.{Source}
use Rattle.events.specs.declared.meta.Source.TheVariants.{Client, Peer}
use Rattle.basics.specs.Options.{◌>>=◌, guard}
use Rattle.programs.specs.Runs.{datagram_in, destination_in, planned_sending, run_for, window_in}
use Rattle.programs.specs.declared.verdict.TheConstants.{SENDS}
use Rattle.rules.specs.Permitted.{holds_as, is_permitted, is_permitted_peer, IsPermitted}
use Rattle.rules.specs.Rules.{client_at, to_peer}
use Rattle.rules.specs.laws.Permitted.{from_client_permitted, permitted_more, permitted_passes}
use Rattle.rules.specs.ByRules.{from_client}
use Rattle.rules.specs.declared.confinement.Alias.{Alias}
use Rattle.rules.specs.declared.confinement.Confinement.{Confinement}
use Rattle.rules.specs.Systems.{SystemState, SystemReply, no_answer, is_served, reply_of_relaying, state_after_events, system_step, with_nonce}
use Rattle.rules.specs.declared.disposition.Discard.TheVariants.{ByProgram, Confined}
use Rattle.rules.specs.declared.disposition.Disposition.TheVariants.{Relayed, Discarded}
use Rattle.relay.specs.ByPrograms.{Programs, program_for, by_programs, by_run, disposition_of_sent, is_there, let_through, of_passing, of_run, permitted_only, relayed_where_sent}
use Rattle.relay.proofs.AfterRuns.{after_run}
use Rattle.relay.specs.Confinement.{IsPermittedFor, SendsWhatIsPermitted}
use Rattle.relay.specs.Forwarding.{may_come, may_go, stopped_where_shown}

-- ---- what is let through

-- whether something is let through
abbrev pub passes : Option Confinement → Source → Rows → Sending → Bool
passes None from live sending = true
passes (Some confinement) from live sending = is_permitted confinement.aliases.items from live sending

module _ (from : Source) (live : Rows) where
  pub nothing_through : (c : Option Confinement) → let_through c from live None ≡ None
  nothing_through None = refl
  nothing_through (Some confinement) = refl

  pub nothing_sent : (c : Option Confinement) → disposition_of_sent c from live None ≡ Discarded ByProgram
  nothing_sent None = refl
  nothing_sent (Some confinement) = refl

  pub is_through : (c : Option Confinement) (sending : Sending) → passes c from live sending ≡ true → let_through c from live (Some sending) ≡ Some sending
  is_through None sending is = refl
  is_through (Some confinement) sending is = ap (λ (b : Bool). guard b >>= λ _. Some sending) is

  pub is_relayed : (c : Option Confinement) (sending : Sending) → passes c from live sending ≡ true → disposition_of_sent c from live (Some sending) ≡ Relayed
  is_relayed None sending is = refl
  is_relayed (Some confinement) sending is = cond-true (is_permitted confinement.aliases.items from live sending) Relayed (Discarded Confined) is

  is_stopped : (c : Option Confinement) (sending : Sending) → passes c from live sending ≡ false → let_through c from live (Some sending) ≡ None
  is_stopped None sending is = absurd (both_ways true is refl)
  is_stopped (Some confinement) sending is = ap (λ (b : Bool). guard b >>= λ _. Some sending) is

  is_discarded : (c : Option Confinement) (sending : Sending) → passes c from live sending ≡ false → disposition_of_sent c from live (Some sending) ≡ Discarded Confined
  is_discarded None sending is = absurd (both_ways true is refl)
  is_discarded (Some confinement) sending is = cond-false (is_permitted confinement.aliases.items from live sending) Relayed (Discarded Confined) is

  -- what the rules permit passes
  passes_all : (c : Option Confinement) (sending : Sending) → IsPermitted [] from live sending → passes c from live sending ≡ true
  passes_all None sending is = refl
  passes_all (Some confinement) sending is = permitted_passes confinement.aliases.items from live sending is

  pub all_through : (c : Option Confinement) (sent : Option Sending) → IfSome sent (IsPermitted [] from live) → let_through c from live sent ≡ sent
  all_through c None is = nothing_through c
  all_through c (Some sending) is = is_through c sending (passes_all c sending is)

  pub all_relayed : (c : Option Confinement) (sent : Option Sending) → IfSome sent (IsPermitted [] from live) → disposition_of_sent c from live sent ≡ relayed_where_sent sent
  all_relayed c None is = nothing_sent c
  all_relayed c (Some sending) is = is_relayed c sending (passes_all c sending is)

  -- ---- a window that is sent

  module _ (c : Option Confinement) (make : List ℕ → Sending) where
    pub window_through : ((bytes : List ℕ) → passes c from live (make bytes) ≡ true)
        → (window : Option (List ℕ)) → let_through c from live (option_map make window) ≡ option_map make window
    window_through is None = nothing_through c
    window_through is (Some bytes) = is_through c (make bytes) (is bytes)

    pub window_relayed : ((bytes : List ℕ) → passes c from live (make bytes) ≡ true)
        → (window : Option (List ℕ)) → disposition_of_sent c from live (option_map make window) ≡ relayed_where_sent (option_map make window)
    window_relayed is None = nothing_sent c
    window_relayed is (Some bytes) = is_relayed c (make bytes) (is bytes)

    pub window_stopped : ((bytes : List ℕ) → passes c from live (make bytes) ≡ false)
        → (window : Option (List ℕ)) → let_through c from live (option_map make window) ≡ None
    window_stopped is None = nothing_through c
    window_stopped is (Some bytes) = is_stopped c (make bytes) (is bytes)

    pub window_discarded : ((bytes : List ℕ) → passes c from live (make bytes) ≡ false)
        → (window : Option (List ℕ)) → disposition_of_sent c from live (option_map make window) ≡ stopped_where_shown window
    window_discarded is None = nothing_sent c
    window_discarded is (Some bytes) = is_discarded c (make bytes) (is bytes)

-- ---- what a program would send

module _ (live : Rows) where
  -- of a client's datagram
  module _ (client : Addr) where
    pub plans_to_peer : (a : Allocation) (peer : Addr) → allocation_of client live ≡ Some a → is_of_family a.family peer ≡ true
        → (window : Option (List ℕ)) → planned_sending (Client client) live (Some peer) window ≡ option_map (ToPeer a.slot peer) window
    plans_to_peer a peer own family None = refl
    plans_to_peer a peer own family (Some bytes) =
        ap (λ (o : Option Allocation). o >>= λ a. to_peer a (peer, bytes)) own
        ∙ ap (λ (b : Bool). guard b >>= λ _. Some (ToPeer a.slot peer bytes)) family

    pub plans_nothing : allocation_of client live ≡ None
        → (destination : Option Addr) (window : Option (List ℕ)) → planned_sending (Client client) live destination window ≡ None
    plans_nothing none destination None = refl
    plans_nothing none destination (Some bytes) = ap (λ (o : Option Allocation). o >>= λ a. destination >>= λ peer. to_peer a (peer, bytes)) none

    pub plans_nowhere : (window : Option (List ℕ)) → planned_sending (Client client) live None window ≡ None
    plans_nowhere None = refl
    plans_nowhere (Some bytes) = of (allocation_of client live) where
      of : (o : Option Allocation) → (o >>= λ a. None >>= λ peer. to_peer a (peer, bytes)) ≡ None
      of None = refl
      of (Some a) = refl

    pub plans_elsewhere : (a : Allocation) (peer : Addr) → allocation_of client live ≡ Some a → is_of_family a.family peer ≡ false
        → (window : Option (List ℕ)) → planned_sending (Client client) live (Some peer) window ≡ None
    plans_elsewhere a peer own family None = refl
    plans_elsewhere a peer own family (Some bytes) =
        ap (λ (o : Option Allocation). o >>= λ a. to_peer a (peer, bytes)) own
        ∙ ap (λ (b : Bool). guard b >>= λ _. Some (ToPeer a.slot peer bytes)) family

  -- of a peer's
  module _ (slot : ℕ) (peer : Addr) (destination : Option Addr) where
    pub plans_to_client : (client : Addr) → client_at slot live ≡ Some client
        → (window : Option (List ℕ)) → planned_sending (Peer slot peer) live destination window ≡ option_map (ToClient client) window
    plans_to_client client at None = refl
    plans_to_client client at (Some bytes) = ap (λ (o : Option Addr). o >>= λ client. Some (ToClient client bytes)) at

    pub plans_to_none : client_at slot live ≡ None
        → (window : Option (List ℕ)) → planned_sending (Peer slot peer) live destination window ≡ None
    plans_to_none none None = refl
    plans_to_none none (Some bytes) = ap (λ (o : Option Addr). o >>= λ client. Some (ToClient client bytes)) none

-- ---- what is let through of it is permitted

module _ (aliases : List Alias) where
  abbrev AreGiven : Source → Rows → Option Sending → Type 0
  AreGiven from live sent = IfSome sent (IsPermitted aliases from live)

  pub plan_permitted : (from : Source) (live : Rows) (destination : Option Addr) (window : Option (List ℕ))
      → AreGiven from live (permitted_only aliases from live (planned_sending from live destination window))
  plan_permitted (Client client) live destination None = tt
  plan_permitted (Client client) live destination (Some bytes) = of (allocation_of client live) refl destination where
    of_look_ups : (a : Allocation) → allocation_of client live ≡ Some a → (peer : Addr) → is_of_family a.family peer ≡ true
        → (b : Bool) → holds_as aliases (is_permitted_peer a.slot live) peer ≡ b
        → AreGiven (Client client) live (guard b >>= λ _. Some (ToPeer a.slot peer bytes))
    of_look_ups a own peer family true permitted = record { allocation = a; of_client = own; from_slot = refl; family = family; permitted = permitted }
    of_look_ups a own peer family false permitted = tt

    of_family : (a : Allocation) → allocation_of client live ≡ Some a → (peer : Addr) → (b : Bool) → is_of_family a.family peer ≡ b
        → AreGiven (Client client) live (permitted_only aliases (Client client) live (guard b >>= λ _. Some (ToPeer a.slot peer bytes)))
    of_family a own peer true family = of_look_ups a own peer family (holds_as aliases (is_permitted_peer a.slot live) peer) refl
    of_family a own peer false family = tt

    of : (o : Option Allocation) → allocation_of client live ≡ o → (destination : Option Addr)
        → AreGiven (Client client) live (permitted_only aliases (Client client) live (o >>= λ a. destination >>= λ peer. to_peer a (peer, bytes)))
    of None own destination = tt
    of (Some a) own None = tt
    of (Some a) own (Some peer) = of_family a own peer (is_of_family a.family peer) refl
  plan_permitted (Peer slot peer) live destination None = tt
  plan_permitted (Peer slot peer) live destination (Some bytes) = of (client_at slot live) refl where
    of_look_up : (client : Addr) → client_at slot live ≡ Some client → (b : Bool) → holds_as aliases (λ name. has_permission slot name live) peer ≡ b
        → AreGiven (Peer slot peer) live (guard b >>= λ _. Some (ToClient client bytes))
    of_look_up client at true permitted = record { at_slot = at; permitted = permitted }
    of_look_up client at false permitted = tt

    of : (o : Option Addr) → client_at slot live ≡ o
        → AreGiven (Peer slot peer) live (permitted_only aliases (Peer slot peer) live (o >>= λ client. Some (ToClient client bytes)))
    of None at = tt
    of (Some client) at = of_look_up client at (holds_as aliases (λ name. has_permission slot name live) peer) refl

  -- what the rules permit is permitted
  given_more : (from : Source) (live : Rows) (sent : Option Sending) → IfSome sent (IsPermitted [] from live) → AreGiven from live sent
  given_more from live None is = tt
  given_more from live (Some sending) is = permitted_more aliases from live sending is

module _ (programs : Programs) (confinement : Confinement) (confined : programs.confinement ≡ Some confinement) (config : Config) (now : ℕ)
    (tx : List ℕ) (rows : Rows) where
  abbrev aliases : List Alias
  aliases = confinement.aliases.items

  abbrev live : Rows
  live = rows_at now rows

  abbrev IsGood : Source → SystemReply → Type 0
  IsGood from reply = AreGiven aliases from live reply.answer

  abbrev by_the_rules : Addr → List ℕ → SystemReply
  by_the_rules client bytes = from_client config now client rows bytes

  abbrev sends : Source → Option Sending → SystemReply
  sends from sent = reply_of_relaying rows (permitted_only aliases from live sent)

  passing_good : (from : Source) (bytes : List ℕ) → IsGood from (of_passing by_the_rules (sends from) from bytes)
  passing_good (Client client) bytes =
      given_more aliases (Client client) live (from_client config now client rows bytes).answer (from_client_permitted config now client rows bytes)
  passing_good (Peer slot peer) bytes = tt

  sending_good : (from : Source) (b : Bool) (destination : Option Addr) (window : Option (List ℕ))
      → IsGood from (sends from (if b then planned_sending from live destination window else None))
  sending_good from true destination window = plan_permitted aliases from live destination window
  sending_good from false destination window = tt

  ending_good : (from : Source) (size : ℕ) (r : Run) → IsGood from (of_run by_the_rules (sends from) from live size r)
  ending_good from size r =
      after_run (IsGood from) by_the_rules (sends from) from live size r (passing_good from (datagram_in size r.state))
      (λ verdict. sending_good from (verdict == SENDS) (destination_in r.state) (window_in r.state)) tt

  run_good : (from : Source) (size : ℕ) (r : Run) → IsGood from (by_run programs.confinement config now from rows size r)
  run_good from size r =
      let P : Option Confinement → Type 0 = λ c. IsGood from (by_run c config now from rows size r) in
      subst P (sym confined) (ending_good from size r)

  pub programs_permitted : (from : Source) (bytes : List ℕ) → IsGood from (by_programs programs config now tx from rows bytes)
  programs_permitted from bytes = of (is_there from rows) where
    of : (b : Bool) → IsGood from (if b then by_run programs.confinement config now from rows (length bytes) (run_for (program_for programs from) tx from live bytes) else no_answer rows)
    of true = run_good from (length bytes) (run_for (program_for programs from) tx from live bytes)
    of false = tt

  pub served_permitted : (from : Source) (bytes : List ℕ) → (b : Bool)
      → IsGood from (if b then by_programs programs config now tx from rows bytes else no_answer rows)
  served_permitted from bytes true = programs_permitted from bytes
  served_permitted from bytes false = tt

module _ (programs : Programs) (confinement : Confinement) (confined : programs.confinement ≡ Some confinement) (config : Config) where
  step_permitted : (s : SystemState) (e : Event) → IsPermittedFor confinement.aliases.items s e (system_step (by_programs programs) config s e).answer
  step_permitted s (Datagram given bytes) =
      served_permitted programs confinement confined (with_nonce config s.nonce) (moment_of s.greatest given.now) given.tx s.rows given.from bytes (is_served given.from)
  step_permitted s (Nonce text) = refl

  sends_permitted : (s : SystemState) → SendsWhatIsPermitted confinement.aliases.items (by_programs programs) config s
  sends_permitted s = λ events next. step_permitted (state_after_events (by_programs programs) config s events) next

pub sends_what_is_permitted : (programs : Programs) (config : Config) (s : SystemState)
    → IfSome programs.confinement (λ c. SendsWhatIsPermitted c.aliases.items (by_programs programs) config s)
sends_what_is_permitted programs config s = of programs.confinement refl where
  of : (o : Option Confinement) → programs.confinement ≡ o → IfSome o (λ c. SendsWhatIsPermitted c.aliases.items (by_programs programs) config s)
  of None is = tt
  of (Some confinement) is = sends_permitted programs confinement is config s

-- ---- look-ups in what is live in the slot

-- of a client
module _ (client : Addr) (live : Rows) (held : Held) (formed : AreWellFormed live) (is : Some held ≡ held_by client live) where
  pub own_allocation_is : allocation_of client live ≡ Some held.allocation
  own_allocation_is = ap (option_map (λ (held : Held). held.allocation)) (sym is)

  permitted_peer_is : (peer : Addr) → is_permitted_peer held.allocation.slot live peer ≡ (is_some (permission_of peer held) || is_some (bound_channel peer held))
  permitted_peer_is peer =
      ap (λ (o : Option Held). is_some (option_and_then (permission_of peer) o) || is_some (option_and_then (bound_channel peer) o))
      (held_by-at_slot client live held formed (sym is))

  pub passes_where_may_go : (c : Option Confinement) (peer : Addr) (bytes : List ℕ)
      → passes c (Client client) live (ToPeer held.allocation.slot peer bytes) ≡ may_go c held peer
  passes_where_may_go None peer bytes = refl
  passes_where_may_go (Some confinement) peer bytes =
      λ i. holds_as confinement.aliases.items (λ name. permitted_peer_is name i) peer

-- of a slot
module _ (slot : ℕ) (live : Rows) (held : Held) (is : Some held ≡ held_in live slot) where
  pub client_at_is : client_at slot live ≡ Some held.allocation.client
  client_at_is = ap (λ (o : Option Held). option_map (λ (a : Allocation). a.client) (option_map (λ (held : Held). held.allocation) o)) (sym is)

  permission_is : (peer : Addr) → has_permission slot peer live ≡ is_some (permission_of peer held)
  permission_is peer = ap (λ (o : Option Held). is_some (option_and_then (permission_of peer) o)) (sym is)

  pub passes_where_may_come : (c : Option Confinement) (peer client : Addr) (bytes : List ℕ)
      → passes c (Peer slot peer) live (ToClient client bytes) ≡ may_come c held peer
  passes_where_may_come None peer client bytes = refl
  passes_where_may_come (Some confinement) peer client bytes =
      λ i. holds_as confinement.aliases.items (λ name. permission_is name i) peer
