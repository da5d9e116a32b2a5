-- Where programs are loaded, too, rows change only by requests whose credentials are accepted.
use Rattle.std.proofs.Common.{◌≡◌, ◌⊎◌, ℕ, List, [], ◌∷◌, length, Bool, true, false, inl, inr, refl, ◌∙◌}
use Rattle.std.specs.Prelude.{Option, if◌then◌else◌}
use Rattle.semantics.specs.Runs.{Run}
use Rattle.addresses.specs.declared.address.Addr.{Addr}
use Rattle.control.specs.declared.config.Config.{Config}
use Rattle.events.specs.Events.{Event, Datagram, Nonce, Sending}
use Rattle.events.specs.declared.meta.Source.{Source}
use Rattle.events.specs.declared.meta.Source.TheVariants.{Client, Peer}
use Rattle.programs.specs.Runs.{datagram_in, run_for}
use Rattle.relay.specs.ByPrograms.{Programs, by_programs, by_run, is_there, let_through, of_passing, program_for}
use Rattle.relay.specs.Requests.{IsRequestEvent, IsRequestFrom, SomeRequest}
use Rattle.relay.proofs.AfterRuns.{after_run}
use Rattle.rules.specs.ByRules.{from_client}
use Rattle.rules.specs.Systems.{SystemReply, SystemState, is_served, no_answer, reply_of_relaying, state_after_events, system_step, with_nonce}
use Rattle.rules.specs.laws.Authentication as rules
use Rattle.tables.specs.Moments.{moment_of}
use Rattle.tables.specs.Rows.{Rows, rows_at}

-- ---- one datagram

module _ (programs : Programs) (config : Config) (now : ℕ) (tx : List ℕ) (rows : Rows) where
  abbrev ChangesByRequest : Source → List ℕ → SystemReply → Type 0
  ChangesByRequest from bytes reply = (reply.rows ≡ rows) ⊎ IsRequestFrom programs config now tx from rows bytes

  abbrev passes : Addr → List ℕ → SystemReply
  passes client bytes = from_client config now client rows bytes

  abbrev sends : Source → Option Sending → SystemReply
  sends from sent = reply_of_relaying rows (let_through programs.confinement from (rows_at now rows) sent)

  abbrev run : Source → List ℕ → Run
  run from bytes = run_for (program_for programs from) tx from (rows_at now rows) bytes

  passed_changes : (from : Source) (bytes : List ℕ) → ChangesByRequest from bytes (of_passing passes (sends from) from (datagram_in (length bytes) (run from bytes).state))
  passed_changes (Client client) bytes = rules.requests_change_rows config now client rows (datagram_in (length bytes) (run (Client client) bytes).state)
  passed_changes (Peer slot peer) bytes = inl refl

  run_changes : (from : Source) (bytes : List ℕ) → ChangesByRequest from bytes (by_run programs.confinement config now from rows (length bytes) (run from bytes))
  run_changes from bytes =
      after_run (ChangesByRequest from bytes) passes (sends from) from (rows_at now rows) (length bytes) (run from bytes)
      (passed_changes from bytes) (λ verdict. inl refl) (inl refl)

  pub datagram_changes : (from : Source) (bytes : List ℕ) → ChangesByRequest from bytes (by_programs programs config now tx from rows bytes)
  datagram_changes from bytes = of (is_there from rows) where
    of : (b : Bool) → ChangesByRequest from bytes (if b then by_run programs.confinement config now from rows (length bytes) (run from bytes) else no_answer rows)
    of true = run_changes from bytes
    of false = inl refl

  served_changes : (from : Source) (bytes : List ℕ) (b : Bool)
      → ChangesByRequest from bytes (if b then by_programs programs config now tx from rows bytes else no_answer rows)
  served_changes from bytes true = datagram_changes from bytes
  served_changes from bytes false = inl refl

-- ---- lists of events

module _ (programs : Programs) (config : Config) where
  pub step_changes : (s : SystemState) (e : Event) → ((system_step (by_programs programs) config s e).state.rows ≡ s.rows) ⊎ IsRequestEvent programs config s e
  step_changes s (Datagram given bytes) =
      served_changes programs (with_nonce config s.nonce) (moment_of s.greatest given.now) given.tx s.rows given.from bytes (is_served given.from)
  step_changes s (Nonce text) = inl refl

  pub events_change : (s : SystemState) (events : List Event)
      → ((state_after_events (by_programs programs) config s events).rows ≡ s.rows) ⊎ SomeRequest programs config s events
  events_change s [] = inl refl
  events_change s (e ∷ events) = elim (events_change (system_step (by_programs programs) config s e).state events) [
    | inr later ↦ inr (inr later)
    | inl same ↦ elim (step_changes s e) [
      | inl kept ↦ inl (same ∙ kept)
      | inr request ↦ inr (inl request)
    ]
  ]
