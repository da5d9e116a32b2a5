-- A datagram of a source that is served: what its run decides is the outcome of the system with programs.
use Rattle.std.proofs.Common.{◌≡◌, ℕ, List, length, Bool, true, false, refl, sym, ap, subst, ◌∙◌}
use Rattle.std.specs.Prelude.{◌==◌, ◌&&◌, Option, None, Some, if◌then◌else◌}
use Rattle.std.proofs.lemmas.Bool.{cond-false}
use Rattle.semantics.specs.Runs.{Run, Ending}
use Rattle.addresses.specs.declared.address.Addr.{Addr}
use Rattle.control.specs.declared.config.Config.{Config}
use Rattle.machine.specs.declared.outcome.Outcome.{Outcome}
use Rattle.tables.specs.Moments.{moment_of}
use Rattle.machine.specs.Contents.{datagram_of}
use Rattle.tables.specs.Rows.{Rows, rows_at}
use Rattle.events.specs.declared.meta.Meta.{Meta}
use Rattle.events.specs.declared.meta.Source.{Source}
use Rattle.events.specs.declared.meta.Source.TheVariants.{Client, Peer}
use Rattle.programs.specs.Runs.{planned_sending, datagram_in, destination_in, window_in}
use Rattle.programs.specs.declared.verdict.TheConstants.{PASSES, SENDS}
use Rattle.relay.specs.ByPrograms.{by_programs, by_run, of_run, of_ending, of_verdict, of_passing, is_there, disposition_by_run, disposition_of_sent, let_through}
use Rattle.events.specs.Events.{Sending}
use Rattle.rules.specs.ByRules.{from_client}
use Rattle.rules.specs.Dispositions.{client_disposition}
use Rattle.rules.specs.declared.confinement.Confinement.{Confinement}
use Rattle.rules.specs.declared.disposition.Discard.TheVariants.{NotServed, ByProgram}
use Rattle.rules.specs.declared.disposition.Disposition.{Disposition}
use Rattle.rules.specs.declared.disposition.Disposition.TheVariants.{Discarded}
use Rattle.relay.specs.EventRuns.{exit_verdict, verdict_of_datagram}
use Rattle.relay.specs.Forwarding.{HasRun, run_at, reply_of_passing, disposition_of_passing, window_shown}
use Rattle.relay.specs.Relays.{RelayContents, state_of, datagram_at}
use Rattle.relay.specs.Steps.{HasStepped, outcome_of, disposition_for, disposition_of_step}
use Rattle.rules.specs.Systems.{SystemReply, no_answer, reply_of_relaying, outcome_at, if_served, is_served, with_nonce}
use Rattle.relay.proofs.Confined.{nothing_through, nothing_sent}
use Rattle.relay.proofs.SameNonce.{from_client_same}

-- of a relay, confined by this
module _ (was : RelayContents) (confinement : Option Confinement) (given : Meta) (n moment : ℕ) where
  abbrev old : RelayContents
  old = record was { programs = record was.programs { confinement = confinement } }

  -- the reply at a moment
  abbrev pub reply_at : SystemReply
  reply_at = if_served (by_programs old.programs) (with_nonce old.config old.config.nonce.bytes) moment given.tx given.from old.rows (datagram_at old n)

  -- the relay at the moment
  abbrev pub at_moment : RelayContents
  at_moment = record old { greatest = moment }

  -- the reply by the run
  abbrev run_reply : SystemReply
  run_reply = by_run old.programs.confinement (with_nonce old.config old.config.nonce.bytes) moment given.from old.rows (length (datagram_at old n)) (run_at at_moment given n)

  -- what is done by the run
  abbrev run_disposition : Disposition
  run_disposition = disposition_by_run old.programs.confinement old.config moment given.from old.rows (length (datagram_at old n)) (run_at at_moment given n)

  -- a reply of a system makes a step
  pub steps : (new : RelayContents) → moment ≡ moment_of old.greatest given.now → new.rows ≡ reply_at.rows → new.greatest ≡ moment → new.config ≡ was.config → new.programs ≡ was.programs → HasStepped was new (outcome_of old given n)
  steps new is rows greatest config programs =
      let P : ℕ → Type 0 = λ m. HasStepped was new (outcome_at m (state_of old) (if_served (by_programs old.programs) (with_nonce old.config old.config.nonce.bytes) m given.tx given.from old.rows (datagram_at old n))) in
      subst P is (record {
        state = λ i. record { rows = rows i; greatest = greatest i; nonce = (config i).nonce.bytes };
        config = config;
        programs = programs;
      })

  -- where all but the frame is as it was, and the rows are
  pub stays : (new : RelayContents) → moment ≡ moment_of old.greatest given.now → new ≡ record was { greatest = moment; frame = new.frame } → reply_at.rows ≡ was.rows → HasStepped was new (outcome_of old given n)
  stays new is kept rows = steps new is
      (ap (λ (r : RelayContents). r.rows) kept ∙ sym rows) (ap (λ (r : RelayContents). r.greatest) kept) (ap (λ (r : RelayContents). r.config) kept) (ap (λ (r : RelayContents). r.programs) kept)

  pub answers : moment ≡ moment_of old.greatest given.now → reply_at.answer ≡ (outcome_of old given n).answer
  answers is = ap (λ (m : ℕ). (if_served (by_programs old.programs) (with_nonce old.config old.config.nonce.bytes) m given.tx given.from old.rows (datagram_at old n)).answer) is

  -- what is done at a moment
  abbrev pub done_at : Disposition
  done_at = disposition_for old given n moment

  pub done_then : moment ≡ moment_of old.greatest given.now → done_at ≡ disposition_of_step old given n
  done_then is = ap (disposition_for old given n) is

  -- the verdict at a moment
  abbrev pub verdict_at : ℕ → Option ℕ
  verdict_at m = if is_served given.from && is_there given.from old.rows then exit_verdict (run_at (record old { greatest = m }) given n).ending else None

  pub verdict_then : moment ≡ moment_of old.greatest given.now → verdict_at moment ≡ verdict_of_datagram old given (datagram_at old n)
  verdict_then is = ap verdict_at is

  if_both : {X : Type 0} (a b : Bool) (x y : X) → (a && b) ≡ true → (if a then (if b then x else y) else y) ≡ x
  if_both true true x y e = refl
  if_both true false x y e = absurd cc
  if_both false b x y e = absurd cc

  -- ---- what follows from a run

  module _ (o : Outcome) (shown : RelayContents) (ran : HasRun (length (datagram_at old n)) o shown.frame (run_at at_moment given n)) where
    abbrev r : Run
    r = run_at at_moment given n

    abbrev live : Rows
    live = rows_at moment old.rows

    module _ {X : Type 0} (passes : Addr → List ℕ → X) (sending : Option Sending → X) where
      abbrev end : X
      end = of_run passes sending given.from live (length (datagram_at old n)) r

      by_its_verdict : end ≡ of_verdict passes sending given.from live (length (datagram_at old n)) r o.verdict
      by_its_verdict = ap (λ (e : Ending). of_ending passes sending given.from live (length (datagram_at old n)) r e) ran.outcome.verdict

      by_passing : o.verdict ≡ PASSES → end ≡ of_passing passes sending given.from (datagram_in (length (datagram_at old n)) r.state)
      by_passing verdict = by_its_verdict ∙ ap (λ (v : ℕ). of_verdict passes sending given.from live (length (datagram_at old n)) r v) verdict

      -- a client's datagram is passed on
      pub end_passes_client : (client : Addr) → given.from ≡ Client client → o.verdict ≡ PASSES → end ≡ passes client (datagram_of shown.frame)
      end_passes_client client from verdict =
          by_passing verdict
          ∙ ap (λ (s : Source). of_passing passes sending s (datagram_in (length (datagram_at old n)) r.state)) from
          ∙ ap (passes client) (sym ran.datagram)

      -- a peer's is not
      pub end_passes_peer : (slot : ℕ) (peer : Addr) → given.from ≡ Peer slot peer → o.verdict ≡ PASSES → end ≡ sending None
      end_passes_peer slot peer from verdict =
          by_passing verdict
          ∙ ap (λ (s : Source). of_passing passes sending s (datagram_in (length (datagram_at old n)) r.state)) from

      -- the plan is sent
      pub end_sends : o.verdict ≡ SENDS → end ≡ sending (planned_sending given.from live o.destination (window_shown shown.frame))
      end_sends verdict =
          by_its_verdict
          ∙ ap (λ (v : ℕ). of_verdict passes sending given.from live (length (datagram_at old n)) r v) verdict
          ∙ (λ i. sending (planned_sending given.from live (sym ran.outcome.destination i) (sym ran.window i)))

      -- every other verdict discards
      pub end_discards : (o.verdict == PASSES) ≡ false → (o.verdict == SENDS) ≡ false → end ≡ sending None
      end_discards no_pass no_send =
          by_its_verdict
          ∙ cond-false (o.verdict == PASSES) _ _ no_pass
          ∙ ap (λ (b : Bool). sending (if b then planned_sending given.from live (destination_in r.state) (window_in r.state) else None)) no_send

    module _ (served : (is_served given.from && is_there given.from old.rows) ≡ true) where
      abbrev config : Config
      config = with_nonce old.config old.config.nonce.bytes

      abbrev replies : Addr → List ℕ → SystemReply
      replies client bytes = from_client config moment client old.rows bytes

      abbrev relays : Option Sending → SystemReply
      relays sent = reply_of_relaying old.rows (let_through old.programs.confinement given.from live sent)

      abbrev dispositions : Addr → List ℕ → Disposition
      dispositions client bytes = client_disposition old.config moment client old.rows bytes

      abbrev dispositions_of_sent : Option Sending → Disposition
      dispositions_of_sent = disposition_of_sent old.programs.confinement given.from live

      pub verdict_is : Some o.verdict ≡ verdict_at moment
      verdict_is = ap exit_verdict (sym ran.outcome.verdict) ∙ ap (λ (b : Bool). if b then exit_verdict r.ending else None) (sym served)

      no_reply : relays None ≡ no_answer old.rows
      no_reply = ap (reply_of_relaying old.rows) (nothing_through given.from live old.programs.confinement)

      reply_is : reply_at ≡ run_reply
      reply_is = if_both (is_served given.from) (is_there given.from old.rows) run_reply (no_answer old.rows) served

      done_is : done_at ≡ run_disposition
      done_is = if_both (is_served given.from) (is_there given.from old.rows) run_disposition (Discarded NotServed) served

      pub passes_client : (client : Addr) → given.from ≡ Client client → o.verdict ≡ PASSES → shown.config ≡ old.config → shown.rows ≡ old.rows → shown.greatest ≡ moment → reply_at ≡ reply_of_passing shown client
      passes_client client from verdict same rows greatest =
          reply_is
          ∙ end_passes_client replies relays client from verdict
          ∙ from_client_same old.config moment client old.rows (datagram_of shown.frame)
          ∙ (λ i. from_client (sym same i) (sym greatest i) client (sym rows i) (datagram_of shown.frame))

      pub does_pass_client : (client : Addr) → given.from ≡ Client client → o.verdict ≡ PASSES → shown.config ≡ old.config → shown.rows ≡ old.rows → shown.greatest ≡ moment → done_at ≡ disposition_of_passing shown client
      does_pass_client client from verdict same rows greatest =
          done_is
          ∙ end_passes_client dispositions dispositions_of_sent client from verdict
          ∙ (λ i. client_disposition (sym same i) (sym greatest i) client (sym rows i) (datagram_of shown.frame))

      pub passes_peer : (slot : ℕ) (peer : Addr) → given.from ≡ Peer slot peer → o.verdict ≡ PASSES → reply_at ≡ no_answer old.rows
      passes_peer slot peer from verdict = reply_is ∙ end_passes_peer replies relays slot peer from verdict ∙ no_reply

      pub does_pass_peer : (slot : ℕ) (peer : Addr) → given.from ≡ Peer slot peer → o.verdict ≡ PASSES → done_at ≡ Discarded ByProgram
      does_pass_peer slot peer from verdict =
          done_is ∙ end_passes_peer dispositions dispositions_of_sent slot peer from verdict ∙ nothing_sent given.from live old.programs.confinement

      pub sends : o.verdict ≡ SENDS → reply_at ≡ reply_of_relaying old.rows
          (let_through old.programs.confinement given.from live (planned_sending given.from live o.destination (window_shown shown.frame)))
      sends verdict = reply_is ∙ end_sends replies relays verdict

      pub does_send : o.verdict ≡ SENDS → done_at ≡ disposition_of_sent old.programs.confinement given.from live (planned_sending given.from live o.destination (window_shown shown.frame))
      does_send verdict = done_is ∙ end_sends dispositions dispositions_of_sent verdict

      pub discards : (o.verdict == PASSES) ≡ false → (o.verdict == SENDS) ≡ false → reply_at ≡ no_answer old.rows
      discards no_pass no_send = reply_is ∙ end_discards replies relays no_pass no_send ∙ no_reply

      pub does_discard : (o.verdict == PASSES) ≡ false → (o.verdict == SENDS) ≡ false → done_at ≡ Discarded ByProgram
      does_discard no_pass no_send =
          done_is ∙ end_discards dispositions dispositions_of_sent no_pass no_send ∙ nothing_sent given.from live old.programs.confinement
