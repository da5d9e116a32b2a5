-- A frame that was started, and then run.
use Rattle.std.proofs.Common.{◌≡◌, ℕ, ◌≤◌, List, [], ◌∷◌, length, take, sym, subst, ap, ◌∙◌}
use Rattle.std.specs.Prelude.{IfErr, IfOk, Result, Ok, Err}
use Rattle.insn.specs.declared.instruction.Insn.{Insn}
use Rattle.semantics.specs.Access.{part}
use Rattle.semantics.specs.Runs as runs
use Rattle.semantics.specs.Runs.{Run}
use Rattle.semantics.specs.declared.fetching.Visit.{Visit}
use Rattle.semantics.specs.declared.limits.TheConstants.{HEADROOM, MAX_DATAGRAM}
use Rattle.machine.specs.Contents.{Contents, room_of, datagram_of, IsStartedOver}
use Rattle.machine.specs.Contexts.{HelperAnswers, environment_around, context_of}
use Rattle.machine.specs.laws.Frame.{datagram_started}
use Rattle.machine.specs.Tracing.{EndsWith, IsOutcome, Reports, Shows, run_of, run_over, safe_run_of}
use Rattle.machine.specs.declared.context.Context.{Context}
use Rattle.machine.specs.declared.outcome.Outcome.{Outcome}
use Rattle.machine.specs.declared.outcome.Stuck.{Stuck}
use Rattle.programs.specs.Runs.{window_in}
use Rattle.relay.specs.Forwarding.{HasRun}
use Rattle.relay.specs.Reasons.{last_slot_of}

-- what a sink keeps, to which the steps of a path were reported, is the slot of the last one
pub last_reported : (path : List Visit) (old new : ℕ) → Reports (λ (old : ℕ) (v : Visit) (new : ℕ). new ≡ v.slot) old path new
    → new ≡ last_slot_of old path
last_reported [] old new is = sym is
last_reported (v ∷ path) old new (between, here, rest) = last_reported path between new rest
    ∙ ap (λ (slot : ℕ). last_slot_of slot path) here

-- the end of a run, whichever it is
pub ends_with : (end : Result Outcome Stuck) (r : Run) → IfOk end (λ o. IsOutcome o r) → IfErr end (λ s. r.ending ≡ runs.Stuck s.reason s.slot) → EndsWith end r
ends_with (Ok o) r outcome stuck = outcome
ends_with (Err s) r outcome stuck = stuck

module _ (code : List Insn) (answers : HelperAnswers) (old started : Contents) (given : Context) (n : ℕ)
    (room : length (room_of old) ≡ MAX_DATAGRAM) (few : n ≤ MAX_DATAGRAM) (start : IsStartedOver old started given n) where
  datagram_is : datagram_of started ≡ take n (room_of old)
  datagram_is = datagram_started old started given n room few start

  abbrev run_wanted : Run
  run_wanted = run_over (environment_around (context_of given) answers) code (take n (room_of old))

  run_is : run_of code started answers ≡ run_wanted
  run_is = λ i. run_over (environment_around (context_of (start.context i)) answers) code (datagram_is i)

  pub has_run : (o : Outcome) (after : Contents) → IsOutcome o (safe_run_of code started answers)
      → run_of code started answers ≡ safe_run_of code started answers
      → Shows after (length (datagram_of started)) (safe_run_of code started answers)
      → HasRun (length (take n (room_of old))) o after run_wanted
  has_run o after outcome whole shows =
      let same : safe_run_of code started answers ≡ run_wanted = sym whole ∙ run_is in
      record {
        outcome = subst (IsOutcome o) same outcome;
        datagram = shows.datagram ∙ (λ i. part (length (datagram_is i)) HEADROOM (same i).state.memory.bytes);
        window = shows.window ∙ (λ i. window_in (same i).state);
      }

  pub ends_over : (end : Result Outcome Stuck) → EndsWith end (run_of code started answers) → EndsWith end run_wanted
  ends_over end ends = subst (EndsWith end) run_is ends

  pub reports_over : {Log : Type 0} (Logs : Log → Visit → Log → Type 0) (before after : Log)
      → Reports Logs before (run_of code started answers).path after → Reports Logs before run_wanted.path after
  reports_over Logs before after reported = subst (λ (r : Run). Reports Logs before r.path after) run_is reported
