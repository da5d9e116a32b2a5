-- No program makes the relay an amplifier.
use Rattle.std.proofs.Common.{◌≡◌, ◌≤◌, ◌⊎◌, ℕ, ◌+◌, List, length, drop, Bool, true, false, inl, inr, refl, arith}
use Rattle.std.specs.Prelude.{◌==◌, Option, None, Some, IfSome, option_map, if◌then◌else◌}
use Rattle.std.proofs.lemmas.List.{length-drop, length-take}
use Rattle.insn.specs.declared.instruction.Insn.{Insn}
use Rattle.semantics.specs.Access.{part}
use Rattle.semantics.specs.Extents.{run_extent, start_extent}
use Rattle.semantics.specs.Machine.{Environment, State, start}
use Rattle.semantics.specs.Runs.{Run}
use Rattle.semantics.specs.declared.limits.TheConstants.{HEADROOM, TAILROOM}
use Rattle.addresses.specs.declared.address.Addr.{Addr}
use Rattle.control.specs.declared.config.Config.{Config}
use Rattle.events.specs.Events.{Event, Datagram, Nonce, Sending}
use Rattle.events.specs.declared.meta.Source.{Source}
use Rattle.events.specs.declared.meta.Source.TheVariants.{Client, Peer}
use Rattle.basics.specs.Options.{guard}
use Rattle.machine.specs.Tracing.{run_over}
use Rattle.programs.specs.Runs.{datagram_in, destination_in, environment_for, planned_sending, run_for, sent_by, window_in}
use Rattle.programs.specs.declared.verdict.TheConstants.{SENDS}
use Rattle.relay.specs.Amplification.{IsBoundedFor, IsNoAmplifier, RespondsAfterRun}
use Rattle.relay.specs.ByPrograms.{Programs, by_programs, by_run, is_there, let_through, of_passing, program_for}
use Rattle.relay.specs.Requests.{passed_on}
use Rattle.relay.proofs.AfterRuns.{after_run}
use Rattle.rules.specs.Amplification.{IsRelayed, RespondsTo}
use Rattle.rules.specs.ByRules.{from_client}
use Rattle.rules.specs.Permitted.{is_permitted}
use Rattle.rules.specs.Rules.{client_at}
use Rattle.rules.specs.Systems.{SystemReply, SystemState, is_served, no_answer, reply_of_relaying, state_after_events, system_step, with_nonce}
use Rattle.rules.specs.declared.confinement.Confinement.{Confinement}
use Rattle.rules.specs.laws.Amplification.{IsShort, SendsShort, answer_bounded, each, each_more, each_with, to_peer_short}
use Rattle.tables.specs.LookUps.{allocation_of}
use Rattle.tables.specs.Moments.{moment_of}
use Rattle.tables.specs.Rows.{Rows, rows_at}

-- ---- what a program sends

-- its bytes lie in the memory, whose count is that of the start
length-memory : (w : Environment) (code : List Insn) (datagram : List ℕ) → length (run_over w code datagram).state.memory.bytes ≡ HEADROOM + length datagram + TAILROOM
length-memory w code datagram = (run_extent w code (length datagram) (length code + 1) (start datagram) (start_extent datagram)).bytes

module _ (most : ℕ) where
  window_short : (s : State) → length s.memory.bytes ≤ most → IfSome (window_in s) (IsShort most)
  window_short s few = of s.plan.window where
    of : (window : Option (ℕ × ℕ)) → IfSome (option_map (λ w. part w.1 w.0 s.memory.bytes) window) (IsShort most)
    of None = tt
    of (Some w) = omega (arith, length-take w.1 (drop w.0 s.memory.bytes), length-drop w.0 s.memory.bytes, few)

  planned_short : (from : Source) (live : Rows) (destination : Option Addr) (window : Option (List ℕ)) → IfSome window (IsShort most)
      → IfSome (planned_sending from live destination window) (SendsShort most)
  planned_short (Client client) live destination window short =
      each_with (IsShort most) (SendsShort most) window _ short (λ bytes few.
      each (SendsShort most) (allocation_of client live) _ (λ a.
      each (SendsShort most) destination _ (λ peer. to_peer_short most a (peer, bytes) few)))
  planned_short (Peer slot peer) live destination window short =
      each_with (IsShort most) (SendsShort most) window _ short (λ bytes few.
      each (SendsShort most) (client_at slot live) _ (λ client. few))

  sent_short : (from : Source) (live : Rows) (verdict : ℕ) (s : State) → length s.memory.bytes ≤ most → IfSome (sent_by from live verdict s) (SendsShort most)
  sent_short from live verdict s few = of (verdict == SENDS) where
    of : (b : Bool) → IfSome (if b then planned_sending from live (destination_in s) (window_in s) else None) (SendsShort most)
    of true = planned_short from live (destination_in s) (window_in s) (window_short s few)
    of false = tt

  through_short : (confinement : Option Confinement) (from : Source) (live : Rows) (sent : Option Sending) → IfSome sent (SendsShort most)
      → IfSome (let_through confinement from live sent) (SendsShort most)
  through_short None from live sent short = short
  through_short (Some confinement) from live sent short =
      each_with (SendsShort most) (SendsShort most) sent _ short (λ sending few.
      each (SendsShort most) (guard (is_permitted confinement.aliases.items from live sending)) _ (λ _. few))

-- ---- one datagram

module _ (programs : Programs) (config : Config) (now : ℕ) (tx : List ℕ) (rows : Rows) where
  abbrev Bounds : Source → List ℕ → Sending → Type 0
  Bounds from bytes sending = IsRelayed (length bytes) sending ⊎ RespondsAfterRun programs config now tx from rows bytes sending

  abbrev IsBounded : Source → List ℕ → SystemReply → Type 0
  IsBounded from bytes reply = IfSome reply.answer (Bounds from bytes)

  abbrev passes : Addr → List ℕ → SystemReply
  passes client bytes = from_client config now client rows bytes

  abbrev sends : Source → Option Sending → SystemReply
  sends from sent = reply_of_relaying rows (let_through programs.confinement from (rows_at now rows) sent)

  abbrev run : Source → List ℕ → Run
  run from bytes = run_for (program_for programs from) tx from (rows_at now rows) bytes

  sends_bounded : (from : Source) (bytes : List ℕ) (sent : Option Sending) → IfSome sent (IsRelayed (length bytes)) → IsBounded from bytes (sends from sent)
  sends_bounded from bytes sent short =
      each_more (IsRelayed (length bytes)) (Bounds from bytes) (let_through programs.confinement from (rows_at now rows) sent)
      (through_short (length bytes + (HEADROOM + TAILROOM)) programs.confinement from (rows_at now rows) sent short) (λ sending few. inl few)

  -- what is passed on is no longer than what came
  length-passed : (client : Addr) (bytes : List ℕ) → length (passed_on programs now tx client rows bytes) ≤ length bytes
  length-passed client bytes = omega (arith, length-take (length bytes) (drop HEADROOM (run (Client client) bytes).state.memory.bytes))

  passed_bounded : (from : Source) (bytes : List ℕ) → IsBounded from bytes (of_passing passes (sends from) from (datagram_in (length bytes) (run from bytes).state))
  passed_bounded (Client client) bytes =
      let passed : List ℕ = passed_on programs now tx client rows bytes in
      each_more (λ (sending : Sending). IsRelayed (length passed) sending ⊎ RespondsTo config now client rows passed sending) (Bounds (Client client) bytes)
      (from_client config now client rows passed).answer (answer_bounded config now client rows passed) (λ sending is. elim is [
        | inl few ↦ inl (omega (arith, few, length-passed client bytes))
        | inr response ↦ inr response
      ])
  passed_bounded (Peer slot peer) bytes = sends_bounded (Peer slot peer) bytes None tt

  run_bounded : (from : Source) (bytes : List ℕ) → IsBounded from bytes (by_run programs.confinement config now from rows (length bytes) (run from bytes))
  run_bounded from bytes =
      let few : length (run from bytes).state.memory.bytes ≤ length bytes + (HEADROOM + TAILROOM) =
      omega (arith, length-memory (environment_for tx from (rows_at now rows)) (program_for programs from) bytes) in
      after_run (IsBounded from bytes) passes (sends from) from (rows_at now rows) (length bytes) (run from bytes) (passed_bounded from bytes)
      (λ verdict. sends_bounded from bytes _ (sent_short (length bytes + (HEADROOM + TAILROOM)) from (rows_at now rows) verdict (run from bytes).state few))
      (sends_bounded from bytes None tt)

  datagram_bounded : (from : Source) (bytes : List ℕ) → IsBounded from bytes (by_programs programs config now tx from rows bytes)
  datagram_bounded from bytes = of (is_there from rows) where
    of : (b : Bool) → IsBounded from bytes (if b then by_run programs.confinement config now from rows (length bytes) (run from bytes) else no_answer rows)
    of true = run_bounded from bytes
    of false = tt

  served_bounded : (from : Source) (bytes : List ℕ) (b : Bool)
      → IsBounded from bytes (if b then by_programs programs config now tx from rows bytes else no_answer rows)
  served_bounded from bytes true = datagram_bounded from bytes
  served_bounded from bytes false = tt

-- ---- events

step_bounded : (programs : Programs) (config : Config) (s : SystemState) (e : Event)
    → IsBoundedFor programs config s e (system_step (by_programs programs) config s e).answer
step_bounded programs config s (Datagram given bytes) =
    served_bounded programs (with_nonce config s.nonce) (moment_of s.greatest given.now) given.tx s.rows given.from bytes (is_served given.from)
step_bounded programs config s (Nonce text) = refl

pub is_no_amplifier : (programs : Programs) (config : Config) (s : SystemState) → IsNoAmplifier programs config s
is_no_amplifier programs config s = λ events next. step_bounded programs config (state_after_events (by_programs programs) config s events) next
