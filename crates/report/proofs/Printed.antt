-- The status and the text of a printed trace, from how its run ended.
use Rattle.std.proofs.Common.{◌≡◌, refl, ℕ, List, Option, Result, Ok, Err, IfOk, IfErr, OnOk, MatchResult, Bor, arith, inl, inr, sym, ap, ◌∙◌, subst}
use Rattle.std.specs.Io.KnownBytes.{Appends}
use Rattle.insn.specs.Encoding.{Encodes}
use Rattle.insn.specs.declared.instruction.Insn.{Insn}
use Rattle.semantics.specs.Runs as runs
use Rattle.semantics.specs.Runs.{Run, Ending}
use Rattle.machine.specs.Lines.{step_lines, appends_more}
use Rattle.machine.specs.Tracing.{IsOutcome}
use Rattle.machine.specs.declared.outcome.Outcome.{Outcome}
use Rattle.machine.specs.declared.outcome.Stuck.{Stuck}
use Rattle.report.specs.Statuses.{IsPrinted, IsReportWritten, PrintsRefusal, Succeeds}
use Rattle.report.specs.Texts.{end_text, ending_text, exit_text, trace_text}
use Rattle.report.specs.Traces.{digits_of, traced_run, EncodeDatagram, TraceEnds, PrintsTrace, IsEndStatus, IsExit, IsStuck}
use Rattle.report.specs.declared.error.ReportError.{ReportError}
use Rattle.report.specs.declared.reporting.Ask.{Ask}
use Rattle.report.specs.declared.reporting.Ask.TheVariants.{Trace}

pub zero_printed : (asked : Ask) (file : List ℕ) (status : ℕ) → status ≡ 0 → Succeeds asked file → IsPrinted asked file status
zero_printed asked file status is succeeds = record { range = inl is; success = λ _. succeeds; refusal = λ one. absurd (omega (arith, is, one)) }

one_printed : (asked : Ask) (file : List ℕ) (status : ℕ) → status ≡ 1 → PrintsRefusal asked file → IsPrinted asked file status
one_printed asked file status is refused = record { range = inr is; success = λ zero. absurd (omega (arith, is, zero)); refusal = λ _. refused }

-- the text of the end of a run, from the code's end
end_written : (ended : Result Outcome Stuck) (r : Run) → IfOk ended (λ o. IsOutcome o r) → IfErr ended (λ s. r.ending ≡ runs.Stuck s.reason s.slot) → end_text ended ≡ ending_text r.ending r.state.plan
end_written (Ok o) r is stuck = (λ i. exit_text o.verdict (is.window i) (is.destination i)) ∙ ap (λ (e : Ending). ending_text e r.state.plan) (sym is.verdict)
end_written (Err s) r is stuck = ap (λ (e : Ending). ending_text e r.state.plan) (sym stuck)

-- the status of a run, from what is printed of its end
pub run_ended : (r : Run) (ended : Result Outcome Stuck) (result : Result ℕ ReportError) → IfOk ended (λ o. IsOutcome o r)
    → IfErr ended (λ s. r.ending ≡ runs.Stuck s.reason s.slot)
    → IfOk result (λ status. MatchResult ended (λ o. status ≡ 0) (λ e. status ≡ 1)) → IfOk result (IsEndStatus r.ending)
run_ended r ended (Err e) is stuck status = tt
run_ended r (Ok o) (Ok n) is stuck status = subst (λ (e : Ending). IsEndStatus e n) (sym is.verdict) status
run_ended r (Err s) (Ok n) is stuck status = subst (λ (e : Ending). IsEndStatus e n) (sym stuck) status

-- what a run has written: the lines of its steps, and then its end
pub run_written : (r : Run) (old between new : Option (List ℕ)) (ended : Result Outcome Stuck) (result : Result ℕ ReportError)
    → IfOk ended (λ o. IsOutcome o r) → IfErr ended (λ s. r.ending ≡ runs.Stuck s.reason s.slot)
    → Appends old between (step_lines r.path) → OnOk result (Appends between new (end_text ended)) → OnOk result (Appends old new (trace_text r))
run_written r old between new ended (Err e) is stuck steps ending = tt
run_written r old between new ended (Ok n) is stuck steps ending =
    appends_more old between new (step_lines r.path) (ending_text r.ending r.state.plan) steps (subst (Appends between new) (end_written ended r is stuck) ending)

-- the report of a trace, where its run is that of the code
module _ (hex : Option (Bor (List ℕ))) (file : List ℕ) (code : List Insn) (datagram : List ℕ) (r : Run) (encodes : Encodes code file) (digits : EncodeDatagram (digits_of hex) datagram) (same : r ≡ traced_run code datagram) where
  ends_so : (IsEnding : Ending → Type 0) → IsEnding r.ending → TraceEnds (digits_of hex) file IsEnding
  ends_so IsEnding ended = record {
    code = code;
    file_encodes = encodes;
    datagram = datagram;
    digits_encode = digits;
    ended = subst (λ (q : Run). IsEnding q.ending) same ended;
  }

  pub trace_printed : (result : Result ℕ ReportError) → IfOk result (IsEndStatus r.ending) → IfOk result (IsPrinted (Trace hex) file)
  trace_printed (Err e) is = tt
  trace_printed (Ok status) is = by r.ending refl is
    where
      by : (e : Ending) → r.ending ≡ e → IsEndStatus e status → IsPrinted (Trace hex) file status
      by (runs.Exited verdict) e is = zero_printed (Trace hex) file status is (ends_so IsExit (subst IsExit (sym e) tt))
      by (runs.Stuck reason slot) e is = one_printed (Trace hex) file status is (ends_so IsStuck (subst IsStuck (sym e) tt))
      by runs.Running e is = absurd is

  prints : (IsEnding : Ending → Type 0) (old new : Option (List ℕ)) → IsEnding r.ending → Appends old new (trace_text r) → PrintsTrace (digits_of hex) file IsEnding old new
  prints IsEnding old new ended written = record {
    code = code;
    file_encodes = encodes;
    datagram = datagram;
    digits_encode = digits;
    ended = subst (λ (q : Run). IsEnding q.ending) same ended;
    written = subst (λ (q : Run). Appends old new (trace_text q)) same written;
  }

  pub trace_written : (old new : Option (List ℕ)) (result : Result ℕ ReportError) → IfOk result (IsEndStatus r.ending)
      → OnOk result (Appends old new (trace_text r)) → IfOk result (IsReportWritten (Trace hex) file old new)
  trace_written old new (Err e) is written = tt
  trace_written old new (Ok status) is written = by r.ending refl is
    where
      by : (e : Ending) → r.ending ≡ e → IsEndStatus e status → IsReportWritten (Trace hex) file old new status
      by (runs.Exited verdict) e is = record {
        success = λ zero. prints IsExit old new (subst IsExit (sym e) tt) written;
        refusal = λ one. absurd (omega (arith, is, one));
      }
      by (runs.Stuck reason slot) e is = record {
        success = λ zero. absurd (omega (arith, is, zero));
        refusal = λ one. prints IsStuck old new (subst IsStuck (sym e) tt) written;
      }
      by runs.Running e is = absurd is
