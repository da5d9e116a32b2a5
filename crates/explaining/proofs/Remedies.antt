-- A comparison of the place at which an access ends helps it.
use Rattle.std.proofs.Common.{◌≡◌, ℕ, zero, suc, Bool, true, false, ℤ, pos, List, [], ◌∷◌, Some, refl, sym, ap, ◌∙◌, subst, arith, get_or}
use Rattle.std.specs.Prelude.{◌&&◌, ◌+ℤ◌, ◌-ℤ◌, ◌≤ℤ◌, int_le, int_lt, map, IsOk, if◌then◌else◌}
use Rattle.std.proofs.lemmas.Bool.{eq-eqb}
use Rattle.std.proofs.lemmas.Int.{ints}
use Rattle.insn.specs.Register.{number_of}
use Rattle.insn.specs.declared.register.Reg.{Reg}
use Rattle.interval.specs.declared.interval.Interval.{Interval}
use Rattle.semantics.specs.Access.{headroom_first}
use Rattle.absstate.specs.AbstractStates.{abstract_at, low_of, proved_of, proved_up_to, raised_anchor, raised_value, with_least}
use Rattle.absstate.specs.AbstractSteps.{access_region, region_in_datagram}
use Rattle.absstate.specs.laws.Step.Bounds.{not_lt, le_is_true}
use Rattle.absstate.specs.declared.abstract_state.AbsState.{AbsState}
use Rattle.absstate.specs.declared.abstract_state.AbstractValue.{AbstractValue}
use Rattle.absstate.specs.declared.abstract_state.AbstractValue.TheVariants.{Nothing, Data}
use Rattle.absstate.specs.declared.abstract_state.Anchor.{Anchor}
use Rattle.absstate.specs.declared.abstract_state.Anchor.TheVariants.{First, Variable}

-- ---- what is proved after the comparison

length_enough : (proved n : ℤ) (b : Bool) → int_lt proved n ≡ b → n ≤ℤ (if b then n else proved)
length_enough proved n true e = omega (arith, ints)
length_enough proved n false e = not_lt proved n e

up_to : (proved n : ℤ) → n ≤ℤ pos 2147483647 → n ≤ℤ proved_up_to proved n
up_to proved n few = subst (λ (fits : Bool). n ≤ℤ (if (int_lt proved n && fits) then n else proved)) (sym (le_is_true n (pos 2147483647) few)) (by (int_lt proved n) refl) where
  by : (b : Bool) → int_lt proved n ≡ b → n ≤ℤ (if (b && true) then n else proved)
  by true e = omega (arith, ints)
  by false e = not_lt proved n e

-- ---- the access after it

module _ (displacement k e : ℤ) (n : ℕ) (ends : e ≡ (k +ℤ displacement +ℤ pos n)) where
  inside : (anchor : Anchor) (proved : ℤ) → (headroom_first -ℤ low_of anchor) ≤ℤ (k +ℤ displacement) → e ≤ℤ proved → IsOk (region_in_datagram (k +ℤ displacement) n (headroom_first -ℤ low_of anchor) proved)
  inside anchor proved low high =
      let first : int_le (headroom_first -ℤ low_of anchor) (k +ℤ displacement) ≡ true = le_is_true (headroom_first -ℤ low_of anchor) (k +ℤ displacement) low in
      let last : int_le (k +ℤ displacement +ℤ pos n) proved ≡ true = le_is_true (k +ℤ displacement +ℤ pos n) proved (subst (λ (x : ℤ). x ≤ℤ proved) ends high) in
      rw (first, last)

mapped : {X : Type 0} (f : X → X) (xs : List X) (i : ℕ) (d : X) → f d ≡ d → get_or (map f xs) i d ≡ f (get_or xs i d)
mapped f [] i d same = sym same
mapped f (x ∷ xs) zero d same = refl
mapped f (x ∷ xs) (suc i) d same = mapped f xs i d same

pub helps : (a : AbsState Interval) (base : Reg) (displacement k e : ℤ) (n : ℕ) (anchor : Anchor) → abstract_at a.values base ≡ Data anchor k → e ≡ (k +ℤ displacement +ℤ pos n) → (headroom_first -ℤ low_of anchor) ≤ℤ (k +ℤ displacement)
    → e ≤ℤ pos 2147483647 → IsOk (access_region (with_least a anchor (Some e)) (abstract_at (with_least a anchor (Some e)).values base) displacement n)
unfolding access_region
helps a base displacement k e n First here ends low few =
    subst (λ (v : AbstractValue Interval). IsOk (access_region (with_least a First (Some e)) v displacement n)) (sym here)
    (inside displacement k e n ends First (with_least a First (Some e)).proved low (length_enough a.proved e (int_lt a.proved e) refl))
helps a base displacement k e n (Variable id least greatest proved) here ends low few =
    let anchor : Anchor = Variable id least greatest proved in
    let value : abstract_at (with_least a anchor (Some e)).values base ≡ Data (raised_anchor id e anchor) k = mapped (raised_value id e) a.values (number_of base) Nothing refl ∙ ap (raised_value id e) here in
    let known : proved_of (with_least a anchor (Some e)) (raised_anchor id e anchor) ≡ proved_up_to proved e = ap (λ (b : Bool). if b then proved_up_to proved e else proved) (eq-eqb id id refl) in
    subst (λ (v : AbstractValue Interval). IsOk (access_region (with_least a anchor (Some e)) v displacement n)) (sym value)
    (inside displacement k e n ends anchor (proved_of (with_least a anchor (Some e)) (raised_anchor id e anchor)) low
    (subst (λ (x : ℤ). e ≤ℤ x) (sym known) (up_to proved e few)))
