use Rattle.std.proofs.Common.{◌≡◌, ◌⊎◌, inl, inr, ap, sym}
use Rattle.asm.specs.declared.refusal.AsmError.{AsmError}
use Rattle.insn.specs.declared.refusal.DecodeError.{DecodeError}
use Rattle.report.specs.Statuses.{status_of}
use Rattle.report.specs.declared.error.ReportError.{ReportError}
use Rattle.report.specs.declared.error.ReportError.TheVariants.{Data, Program, Text}
use Rattle.report.proofs.error.ReportError.status.Goals as goal

-- the status of a refusal
one : (e : ReportError) → (e ≡ Data) ⊎ (((refusal : DecodeError) × (e ≡ Program refusal)) ⊎ ((refusal : AsmError) × (e ≡ Text refusal))) → 1 ≡ status_of e
one e (inl is) = sym (ap status_of is)
one e (inr (inl is)) = sym (ap status_of is.1)
one e (inr (inr is)) = sym (ap status_of is.1)

pub returns-in-Data : goal.returns-in-Data
returns-in-Data c = one c.args.self c.in-Data.is
