-- Interface. A verdict over a precise domain is a verdict.
use Rattle.std.specs.Prelude.{ℕ, List, Result, Ok, Err, IfErr}
use Rattle.std.proofs.Common.{inl, inr}
use Rattle.insn.specs.declared.instruction.Insn.{Insn}
use Rattle.interval.specs.Domains.{Operations, ArePrecise}
use Rattle.verifier.specs.Refusing.{MayRefuse, MayRefuseOver, IsVerdict, IsVerdictOver}
use Rattle.verifier.specs.declared.refusal.Refusal.{Refusal}
use Rattle.verifier.specs.declared.refusal.Refusal.TheVariants as refusal

-- where a domain is precise, what may be refused over it may be refused
real_refusal : {D : Type 0} (ops : Operations D) (Member : D → ℕ → Type 0) → ArePrecise ops Member → (code : List Insn) (budget : ℕ) (e : Refusal) → MayRefuseOver ops Member code budget e → MayRefuse code budget e
real_refusal ops Member precise code budget (refusal.Stuck reason slot) (inl fault) = inl fault
real_refusal ops Member precise code budget (refusal.Stuck reason slot) (inr step) = inr (step.0, step.1, step.2 precise)
real_refusal ops Member precise code budget (refusal.Budget slot) may = may
real_refusal ops Member precise code budget (refusal.Memory slot) may = may

real_if : {D T : Type 0} (ops : Operations D) (Member : D → ℕ → Type 0) → ArePrecise ops Member → (code : List Insn) (budget : ℕ) (r : Result T Refusal) → IfErr r (MayRefuseOver ops Member code budget) → IfErr r (MayRefuse code budget)
real_if ops Member precise code budget (Ok v) may = tt
real_if ops Member precise code budget (Err e) may = real_refusal ops Member precise code budget e may

pub real_verdict : {D T : Type 0} (ops : Operations D) (Member : D → ℕ → Type 0) → ArePrecise ops Member → (code : List Insn) (budget : ℕ) (r : Result T Refusal) → IsVerdictOver ops Member code budget r → IsVerdict code budget r
real_verdict ops Member precise code budget r verdict = record {
  safe = verdict.safe;
  laid_out = verdict.laid_out;
  layout = verdict.layout;
  refused = real_if ops Member precise code budget r verdict.refused;
}
