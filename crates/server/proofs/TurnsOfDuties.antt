-- Kinds of work in turn.
use Rattle.std.proofs.Common.{◌≡◌, ℕ, zero, suc, ◌+◌, ◌-◌, ◌<◌, ◌⊎◌, inl, inr, [], ◌∷◌, refl, sym, ap, ◌∙◌, arith}
use Rattle.server.specs.Duties.{next_duty, duty_after, IsDoneInTurn}
use Rattle.server.specs.declared.duties.Duty.{Duty}

from_none : (b : ℕ) → zero + b ≡ b
from_none b = omega arith

from_more : (a b : ℕ) → suc a + b ≡ suc (a + b)
from_more a b = omega arith

one_after : (a b : ℕ) (last : Duty) → duty_after (a + b) last ≡ duty_after a (duty_after b last)
one_after zero b last = ap (λ k. duty_after k last) (from_none b)
one_after (suc a) b last = ap (λ k. duty_after k last) (from_more a b) ∙ ap next_duty (one_after a b last)

order : (a b : ℕ) → (a < b) ⊎ ((a ≡ b) ⊎ (b < a))
order zero zero = inr (inl refl)
order zero (suc b) = inl (omega arith)
order (suc a) zero = inr (inr (omega arith))
order (suc a) (suc b) = elim (order a b) [
  | inl less ↦ inl (omega (arith, less))
  | inr (inl same) ↦ inr (inl (ap suc same))
  | inr (inr more) ↦ inr (inr (omega (arith, more)))
]

parts : (n idle : ℕ) → idle < n → suc n ≡ suc (n - suc idle) + suc idle
parts n idle less = omega (arith, less)

-- where the kind isn't the next one, it is nearer after the piece
nearer : (x last duty : Duty) (n idle : ℕ) → idle < n → x ≡ duty_after (suc n) last → duty ≡ duty_after (suc idle) last
    → x ≡ duty_after (suc (n - suc idle)) duty
nearer x last duty n idle less at next =
    at ∙ ap (λ k. duty_after k last) (parts n idle less) ∙ one_after (suc (n - suc idle)) (suc idle) last
    ∙ ap (duty_after (suc (n - suc idle))) (sym next)

pub done_in_turn : IsDoneInTurn
done_in_turn x last n [] at pieces few = absurd (omega (arith, few))
done_in_turn x last n (duty ∷ pieces) at is few = elim (order is.0.idle n) [
  | inl less ↦ inr (done_in_turn x duty (n - suc is.0.idle) pieces (nearer x last duty n is.0.idle less at is.0.next) is.1 (omega (arith, few, less)))
  | inr (inl same) ↦ inl (at ∙ ap (λ k. duty_after (suc k) last) (sym same) ∙ sym is.0.next)
  | inr (inr more) ↦ absurd (is.0.due n more at)
]
