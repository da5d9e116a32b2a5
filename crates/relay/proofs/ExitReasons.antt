-- What a reason says of the exit of a program's run holds there.
use Rattle.std.proofs.Common.{◌≡◌, ℕ, List, length, Bool, true, false, inl, inr, refl, sym, ap, subst, ◌∙◌}
use Rattle.std.specs.Prelude.{◌==◌, Option, None, Some, option_map, if◌then◌else◌}
use Rattle.std.proofs.lemmas.Bool.{cases_Bool, cond-true, cond-false, eqb-true, eqb-false}
use Rattle.addresses.specs.Addresses.{is_of_family}
use Rattle.addresses.specs.declared.address.Addr.{Addr}
use Rattle.basics.specs.Options.{◌>>=◌, guard}
use Rattle.control.specs.declared.config.Config.{Config}
use Rattle.events.specs.Events.{Sending, ToClient, ToPeer}
use Rattle.events.specs.declared.meta.Source.{Source}
use Rattle.events.specs.declared.meta.Source.TheVariants.{Client, Peer}
use Rattle.programs.specs.Runs.{datagram_in, destination_in, planned_sending, run_for, sent_by, window_in}
use Rattle.programs.specs.declared.verdict.TheConstants.{PASSES, SENDS}
use Rattle.relay.specs.ByPrograms.{Programs, disposition_by_run, disposition_of_datagram, disposition_of_sent, is_there, of_ending, of_passing, of_verdict, program_for}
use Rattle.relay.specs.Reasons.{exit_slot, exit_unsent, missing_of_plan, missing_to_peer, reason_of, reason_of_datagram, unsent_by, unsent_by_ending, HoldsAtExit}
use Rattle.relay.specs.declared.reason.StepReason.{StepReason}
use Rattle.relay.specs.declared.reason.StepReason.TheVariants.{Program}
use Rattle.relay.specs.declared.reason.Unsent.{Unsent}
use Rattle.relay.specs.declared.reason.Unsent.TheVariants.{Verdict, NoWindow, NoAllocation}
use Rattle.rules.specs.Discards.{discard_in, ruled_disposition}
use Rattle.rules.specs.Dispositions.{client_disposition}
use Rattle.rules.specs.Rules.{to_peer}
use Rattle.rules.specs.Systems.{is_served}
use Rattle.rules.specs.declared.confinement.Confinement.{Confinement}
use Rattle.rules.specs.declared.disposition.Discard.{Discard}
use Rattle.rules.specs.declared.disposition.Discard.TheVariants.{ByProgram, Confined, NotServed}
use Rattle.rules.specs.declared.disposition.Disposition.{Disposition}
use Rattle.rules.specs.declared.disposition.Disposition.TheVariants.{Discarded, Relayed}
use Rattle.rules.specs.Permitted.{is_permitted}
use Rattle.semantics.specs.Machine.{State}
use Rattle.semantics.specs.Runs as runs
use Rattle.semantics.specs.Runs.{Ending, Run}
use Rattle.tables.specs.LookUps.{allocation_at, allocation_of}
use Rattle.tables.specs.Rows.{Rows, rows_at}
use Rattle.tables.specs.declared.allocation.Allocation.{Allocation}

-- ---- what is missing, where nothing is sent

-- of a test whose success gives something
guarded : {X : Type 0} (b : Bool) (x : X) → (guard b >>= λ _. Some x) ≡ None → b ≡ false
guarded true x none = absurd cc
guarded false x none = refl

module _ (live : Rows) (s : State) (bytes : List ℕ) where
  client_missing : (client : Addr) (o : Option Allocation) (d : Option Addr) → allocation_of client live ≡ o → destination_in s ≡ d
      → (o >>= λ a. d >>= λ peer. to_peer a (peer, bytes)) ≡ None → HoldsAtExit (Client client) live SENDS s (missing_to_peer o d)
  client_missing client None d is to none = (refl, is)
  client_missing client (Some a) None is to none = (refl, client, refl, to)
  client_missing client (Some a) (Some peer) is to none =
      (refl, client, refl, a, is, peer, to, guarded (is_of_family a.family peer) (ToPeer a.slot peer bytes) none)

  peer_missing : (slot : ℕ) (peer : Addr) (o : Option Allocation) → allocation_at slot live ≡ o
      → (option_map (λ (a : Allocation). a.client) o >>= λ client. Some (ToClient client bytes)) ≡ None
      → HoldsAtExit (Peer slot peer) live SENDS s NoAllocation
  peer_missing slot peer None is none = (refl, is)
  peer_missing slot peer (Some a) is none = absurd cc

module _ (live : Rows) (s : State) where
  plan_missing : (from : Source) (d : Option Addr) (w : Option (List ℕ)) → destination_in s ≡ d → window_in s ≡ w
      → planned_sending from live d w ≡ None → HoldsAtExit from live SENDS s (missing_of_plan from live d w)
  plan_missing from d None to shown none = (refl, shown)
  plan_missing (Client client) d (Some bytes) to shown none = client_missing live s bytes client (allocation_of client live) d refl to none
  plan_missing (Peer slot peer) d (Some bytes) to shown none = peer_missing live s bytes slot peer (allocation_at slot live) refl none

  pub sent_missing : (from : Source) (verdict : ℕ) → sent_by from live verdict s ≡ None → HoldsAtExit from live verdict s (unsent_by from live verdict s)
  sent_missing from verdict none = elim (cases_Bool (verdict == SENDS)) [
    | inl sends ↦
        let is : verdict ≡ SENDS = eqb-true verdict SENDS sends in
        let planned : planned_sending from live (destination_in s) (window_in s) ≡ None =
        sym (cond-true (verdict == SENDS) (planned_sending from live (destination_in s) (window_in s)) None sends) ∙ none in
        subst (λ (u : Unsent). HoldsAtExit from live verdict s u)
        (sym (cond-true (verdict == SENDS) (missing_of_plan from live (destination_in s) (window_in s)) (Verdict verdict) sends))
        (subst (λ (n : ℕ). HoldsAtExit from live n s (missing_of_plan from live (destination_in s) (window_in s))) (sym is)
        (plan_missing from (destination_in s) (window_in s) refl refl planned))
    | inr other ↦
        subst (λ (u : Unsent). HoldsAtExit from live verdict s u)
        (sym (cond-false (verdict == SENDS) (missing_of_plan from live (destination_in s) (window_in s)) (Verdict verdict) other))
        (refl, eqb-false verdict SENDS other)
  ]

-- ---- the reason of a datagram

abbrev named_by : StepReason → Unsent
named_by (Program slot unsent) = unsent
named_by reason = NoWindow

program_discarded : (done : Disposition) (ruled : Option Discard) (slot at : ℕ) (u named : Unsent) → reason_of done ruled slot u ≡ Program at named
    → (done ≡ Discarded ByProgram) × (u ≡ named)
program_discarded (Discarded ByProgram) None slot at u named e = (refl, ap named_by e)
program_discarded (Discarded ByProgram) (Some reason) slot at u named e = absurd cc
program_discarded done ruled slot at u named e = absurd cc

sent_nothing : (c : Option Confinement) (from : Source) (live : Rows) (sent : Option Sending)
    → disposition_of_sent c from live sent ≡ Discarded ByProgram → sent ≡ None
sent_nothing c from live None e = refl
sent_nothing None from live (Some sending) e = absurd cc
sent_nothing (Some confinement) from live (Some sending) e = of (is_permitted confinement.aliases.items from live sending) e where
  of : (b : Bool) → (if b then Relayed else Discarded Confined) ≡ Discarded ByProgram → Some sending ≡ None
  of true e = absurd cc
  of false e = absurd cc

both_served : (served there : Bool) (done : Disposition)
    → (if served then (if there then done else Discarded NotServed) else Discarded NotServed) ≡ Discarded ByProgram → done ≡ Discarded ByProgram
both_served true true done e = e
both_served true false done e = absurd cc
both_served false there done e = absurd cc

module _ (programs : Programs) (config : Config) (now : ℕ) (tx : List ℕ) (from : Source) (rows : Rows) (bytes : List ℕ) where
  abbrev live : Rows
  live = rows_at now rows

  abbrev r : Run
  r = run_for (program_for programs from) tx from live bytes

  abbrev passes : Addr → List ℕ → Disposition
  passes client datagram = client_disposition config now client rows datagram

  abbrev sends : Option Sending → Disposition
  sends = disposition_of_sent programs.confinement from live

  module _ (verdict : ℕ) (exits : r.ending ≡ runs.Exited verdict) where
    run_discards : disposition_by_run programs.confinement config now from rows (length bytes) r ≡ Discarded ByProgram
        → HoldsAtExit from live verdict r.state (unsent_by from live verdict r.state)
    run_discards e =
        let by_verdict : of_verdict passes sends from live (length bytes) r verdict ≡ Discarded ByProgram =
        sym (ap (λ (ending : Ending). of_ending passes sends from live (length bytes) r ending) exits) ∙ e in
        elim (cases_Bool (verdict == PASSES)) [
          | inl passing ↦
              subst (λ (n : ℕ). HoldsAtExit from live n r.state (unsent_by from live n r.state)) (sym (eqb-true verdict PASSES passing))
              (refl, eqb-false PASSES SENDS refl)
          | inr other ↦
              sent_missing live r.state from verdict
              (sent_nothing programs.confinement from live (sent_by from live verdict r.state)
              (sym (cond-false (verdict == PASSES) (of_passing passes sends from (datagram_in (length bytes) r.state)) (sends (sent_by from live verdict r.state)) other)
              ∙ by_verdict))
        ]

    pub unsent_holds : (slot : ℕ) (unsent : Unsent) → reason_of_datagram programs config now tx from rows bytes ≡ Program slot unsent
        → HoldsAtExit from live verdict r.state unsent
    unsent_holds slot unsent e =
        let parts = program_discarded (disposition_of_datagram programs config now tx from rows bytes)
        (discard_in (ruled_disposition config now tx from rows bytes)) (exit_slot programs tx from live bytes) slot
        (exit_unsent programs tx from live bytes) unsent e in
        subst (λ (u : Unsent). HoldsAtExit from live verdict r.state u) (sym (ap (unsent_by_ending from live r.state) exits) ∙ parts.1)
        (run_discards (both_served (is_served from) (is_there from rows) (disposition_by_run programs.confinement config now from rows (length bytes) r) parts.0))
