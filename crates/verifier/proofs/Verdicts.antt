-- A fault of the layout is the verdict.
use Rattle.std.proofs.Common.{◌≡◌, ℕ, List, Result, Ok, Err, inl, inr, sym, ap, ◌∙◌, arith}
use Rattle.std.proofs.lemmas.Bool.{cases_lt}
use Rattle.insn.specs.declared.instruction.Insn.{Insn}
use Rattle.semantics.specs.declared.reason.Reason.{Reason}
use Rattle.verifier.specs.Layout.{slot_checked, IsFirstFaultyJump, IsLayoutFault, IsLayoutRefusal}
use Rattle.verifier.specs.Refusing.{MayRefuseWhere, IsVerdictOf}
use Rattle.verifier.specs.declared.refusal.Refusal.{Refusal}
use Rattle.verifier.specs.declared.refusal.Refusal.TheVariants as refusal

passes_and_fails : (r : Result (Unit {0}) Reason) (reason : Reason) → r ≡ Ok tt → r ≡ Err reason → ⊥
passes_and_fails r reason p q = let bad = sym p ∙ q in absurd cc

same_reason : (r : Result (Unit {0}) Reason) (m n : Reason) → r ≡ Err m → r ≡ Err n → m ≡ n
same_reason r m n p q = cc

first_faults : (code : List Insn) (m n : Reason) (i j : ℕ) → IsFirstFaultyJump code m i → IsFirstFaultyJump code n j → (m ≡ n) × (i ≡ j)
first_faults code m n i j f g = elim (cases_lt i j) [
  | inl lt ↦ absurd (passes_and_fails (slot_checked code i) m (g.first i lt) f.faulty)
  | inr ge ↦ elim (cases_lt j i) [
    | inl gt ↦ absurd (passes_and_fails (slot_checked code j) n (f.first j gt) g.faulty)
    | inr le ↦ let same : i ≡ j = omega arith in (same_reason (slot_checked code i) m n f.faulty (ap (slot_checked code) same ∙ g.faulty), same)
  ]
]

-- a program has at most one fault of its layout
one_fault : (code : List Insn) (m n : Reason) (i j : ℕ) → IsLayoutFault code m i → IsLayoutFault code n j → (m ≡ n) × (i ≡ j)
one_fault code m n i j (inl f) (inl g) = first_faults code m n i j f g
one_fault code m n i j (inl f) (inr g) = absurd (passes_and_fails (slot_checked code i) m (g.jumps i) f.faulty)
one_fault code m n i j (inr f) (inl g) = absurd (passes_and_fails (slot_checked code j) n (f.jumps j) g.faulty)
one_fault code m n i j (inr f) (inr g) = (f.reason_is ∙ sym g.reason_is, f.slot_is ∙ sym g.slot_is)

pub layout_verdict : {T : Type 0} (IsReal : Reason → ℕ → Type 0) (code : List Insn) (budget : ℕ) (e : Refusal) → IsLayoutRefusal code e → IsVerdictOf {T = T} (MayRefuseWhere IsReal code budget) code (Err e)
layout_verdict IsReal code budget (refusal.Stuck reason slot) fault = record {
  safe = tt;
  laid_out = tt;
  layout = λ other at found. let same = one_fault code reason other slot at fault found in (λ k. Err (refusal.Stuck (same.0 k) (same.1 k)));
  refused = inl fault;
}
layout_verdict IsReal code budget (refusal.Budget slot) fault = absurd fault
layout_verdict IsReal code budget (refusal.Memory slot) fault = absurd fault
