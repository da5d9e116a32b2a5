-- What a program does with a datagram, by its run; and that the step follows from it.
use Rattle.std.proofs.Common.{◌≡◌, ℕ, List, length, Bool, true, false, refl, sym, ap, ◌∙◌}
use Rattle.std.specs.Prelude.{◌==◌, ◌&&◌, Option, None, if◌then◌else◌}
use Rattle.insn.specs.declared.instruction.Insn.{Insn}
use Rattle.semantics.specs.Runs as runs
use Rattle.semantics.specs.Runs.{Run, Ending}
use Rattle.addresses.specs.declared.address.Addr.{Addr}
use Rattle.control.specs.declared.config.Config.{Config}
use Rattle.machine.specs.Contents.{datagram_of}
use Rattle.machine.specs.declared.outcome.Outcome.{Outcome}
use Rattle.tables.specs.Moments.{moment_of}
use Rattle.tables.specs.Rows.{Rows, rows_at}
use Rattle.events.specs.Events.{Sending}
use Rattle.events.specs.declared.meta.Meta.{Meta}
use Rattle.events.specs.declared.meta.Source.{Source}
use Rattle.events.specs.declared.meta.Source.TheVariants.{Client, Peer}
use Rattle.programs.specs.Runs.{planned_sending, run_for, datagram_in, sent_by}
use Rattle.programs.specs.declared.verdict.TheConstants.{PASSES, SENDS}
use Rattle.rules.specs.ByRules.{from_client}
use Rattle.rules.specs.Systems.{SystemReply, is_served, no_answer, outcome_at, reply_of_relaying, with_nonce}
use Rattle.rules.specs.declared.confinement.Confinement.{Confinement}
use Rattle.relay.specs.ByPrograms.{Programs, by_run, is_there, let_through, of_ending, of_passing, program_for}
use Rattle.relay.specs.Choices.{Chosen, Passing, Relaying, chosen_at, chosen_by_run, programs_with, SameChoiceIsSameStep}
use Rattle.relay.specs.Forwarding.{HasRun, chosen_of_forwarding, is_of_window, run_at, sending_of_forwarding, window_shown}
use Rattle.relay.specs.Relays.{RelayContents, datagram_at, state_of}
use Rattle.relay.specs.declared.forwarding.Forwarding.{Forwarding}
use Rattle.relay.specs.declared.forwarding.Forwarding.TheVariants as forwarding
use Rattle.relay.proofs.Advances.{end_discards, end_passes_client, end_passes_peer, end_sends}
use Rattle.relay.proofs.Confined.{nothing_through}

-- ---- the program of a side

pub program_with : (programs : Programs) (from : Source) (program : List Insn) → program_for (programs_with programs from program) from ≡ program
program_with programs (Client client) program = refl
program_with programs (Peer slot peer) program = refl

-- ---- what is chosen by what was found

pub of_window : (r : RelayContents) (from : Source) (f : Forwarding) → is_of_window f ≡ true → chosen_of_forwarding r from f ≡ Relaying (sending_of_forwarding r from f)
of_window r from (forwarding.Nothing reason) is = refl
of_window r from forwarding.Stopped is = refl
of_window r from (forwarding.WindowToPeer slot peer) is = refl
of_window r from (forwarding.WindowToClient client) is = refl
of_window r from (forwarding.Answer answer) is = absurd cc

-- ---- what is chosen by a run

module _ (was : RelayContents) (given : Meta) (n moment : ℕ) (o : Outcome) (shown : RelayContents)
    (ran : HasRun (length (datagram_at was n)) o shown.frame (run_at (record was { greatest = moment }) given n))
    (served : (is_served given.from && is_there given.from was.rows) ≡ true) where
  abbrev confinement : Option Confinement
  confinement = was.programs.confinement

  abbrev live : Rows
  live = rows_at moment was.rows

  abbrev passes : Addr → List ℕ → Chosen
  passes client bytes = Passing bytes

  abbrev sends : Option Sending → Chosen
  sends sent = Relaying (let_through confinement given.from live sent)

  abbrev chosen : Chosen
  chosen = chosen_at was given (datagram_at was n) moment

  by_its_run : chosen ≡ chosen_by_run confinement given.from live (length (datagram_at was n)) (run_at (record was { greatest = moment }) given n)
  by_its_run = ap (λ (b : Bool). if b then chosen_by_run confinement given.from live (length (datagram_at was n)) (run_at (record was { greatest = moment }) given n) else Relaying None) served

  nothing : sends None ≡ Relaying None
  nothing = ap Relaying (nothing_through given.from live confinement)

  pub chooses_passing : (client : Addr) → given.from ≡ Client client → o.verdict ≡ PASSES → chosen ≡ Passing (datagram_of shown.frame)
  chooses_passing client from verdict = by_its_run ∙ end_passes_client was confinement given n moment o shown ran passes sends client from verdict

  pub chooses_no_passing : (slot : ℕ) (peer : Addr) → given.from ≡ Peer slot peer → o.verdict ≡ PASSES → chosen ≡ Relaying None
  chooses_no_passing slot peer from verdict = by_its_run ∙ end_passes_peer was confinement given n moment o shown ran passes sends slot peer from verdict ∙ nothing

  pub chooses_sending : o.verdict ≡ SENDS → chosen ≡ sends (planned_sending given.from live o.destination (window_shown shown.frame))
  chooses_sending verdict = by_its_run ∙ end_sends was confinement given n moment o shown ran passes sends verdict

  pub chooses_nothing : (o.verdict == PASSES) ≡ false → (o.verdict == SENDS) ≡ false → chosen ≡ Relaying None
  chooses_nothing no_pass no_send = by_its_run ∙ end_discards was confinement given n moment o shown ran passes sends no_pass no_send ∙ nothing

-- ---- the step that follows

-- the reply
abbrev reply_of : Config → ℕ → Source → Rows → Chosen → SystemReply
reply_of config now (Client client) rows (Passing bytes) = from_client config now client rows bytes
reply_of config now (Peer slot peer) rows (Passing bytes) = no_answer rows
reply_of config now (Client client) rows (Relaying sent) = reply_of_relaying rows sent
reply_of config now (Peer slot peer) rows (Relaying sent) = reply_of_relaying rows sent

sends_as : (config : Config) (now : ℕ) (from : Source) (rows : Rows) (sent : Option Sending) → reply_of config now from rows (Relaying sent) ≡ reply_of_relaying rows sent
sends_as config now (Client client) rows sent = refl
sends_as config now (Peer slot peer) rows sent = refl

module _ (confinement : Option Confinement) (config : Config) (now : ℕ) (rows live : Rows) (size : ℕ) (r : Run) where
  chosen_for : Source → Chosen
  chosen_for from = chosen_by_run confinement from live size r

  by_verdict : (from : Source) (verdict : ℕ) (is_passing : Bool)
      → reply_of config now from rows (if is_passing then of_passing (λ client bytes. Passing bytes) (λ sent. Relaying (let_through confinement from live sent)) from (datagram_in size r.state)
      else Relaying (let_through confinement from live (sent_by from live verdict r.state)))
      ≡ (if is_passing then of_passing (λ client bytes. from_client config now client rows bytes) (λ sent. reply_of_relaying rows (let_through confinement from live sent)) from (datagram_in size r.state)
      else reply_of_relaying rows (let_through confinement from live (sent_by from live verdict r.state)))
  by_verdict (Client client) verdict true = refl
  by_verdict (Peer slot peer) verdict true = refl
  by_verdict from verdict false = sends_as config now from rows (let_through confinement from live (sent_by from live verdict r.state))

  by_ending : (from : Source) (e : Ending)
      → reply_of config now from rows (of_ending (λ client bytes. Passing bytes) (λ sent. Relaying (let_through confinement from live sent)) from live size r e)
      ≡ of_ending (λ client bytes. from_client config now client rows bytes) (λ sent. reply_of_relaying rows (let_through confinement from live sent)) from live size r e
  by_ending from (runs.Exited verdict) = by_verdict from verdict (verdict == PASSES)
  by_ending from (runs.Stuck reason slot) = sends_as config now from rows (let_through confinement from live None)
  by_ending from runs.Running = sends_as config now from rows (let_through confinement from live None)

-- the reply at a moment, of programs with the same confinement, by what is chosen
module _ (r : RelayContents) (given : Meta) (bytes : List ℕ) (moment : ℕ) where
  abbrev config : Config
  config = with_nonce r.config r.config.nonce.bytes

  abbrev live_rows : Rows
  live_rows = rows_at moment r.rows

  abbrev run_of : Programs → Run
  run_of programs = run_for (program_for programs given.from) given.tx given.from live_rows bytes

  -- where no program runs nothing is sent
  abbrev replied : Bool → Bool → Programs → SystemReply
  replied served there programs =
      if served then (if there then by_run programs.confinement config moment given.from r.rows (length bytes) (run_of programs) else no_answer r.rows) else no_answer r.rows

  abbrev chose : Bool → Bool → Programs → Chosen
  chose served there programs = if served && there then chosen_by_run programs.confinement given.from live_rows (length bytes) (run_of programs) else Relaying None

  follows : (served there : Bool) (a b : Programs) → chose served there a ≡ chose served there b → replied served there a ≡ replied served there b
  follows true true a b same =
      sym (by_ending a.confinement config moment r.rows live_rows (length bytes) (run_of a) given.from (run_of a).ending)
      ∙ ap (reply_of config moment given.from r.rows) same
      ∙ by_ending b.confinement config moment r.rows live_rows (length bytes) (run_of b) given.from (run_of b).ending
  follows true false a b same = refl
  follows false there a b same = refl

pub same_step : (r : RelayContents) (given : Meta) (n : ℕ) (program : List Insn) → SameChoiceIsSameStep r given n program
same_step r given n program same =
    let moment = moment_of r.greatest given.now in
    ap (outcome_at moment (state_of r))
    (follows r given (datagram_at r n) moment (is_served given.from) (is_there given.from r.rows) (programs_with r.programs given.from program) r.programs same)
