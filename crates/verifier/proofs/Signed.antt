-- States whose signatures are not within another state's do not cover it.
use Rattle.std.proofs.Common.{◌≡◌, ℕ, zero, suc, ◌+◌, ◌-◌, ◌<◌, ◌≤◌, Bool, true, false, ◌||◌, List, [], ◌∷◌, length, take, refl, sym, ap, ◌∙◌, subst, arith}
use Rattle.std.specs.Prelude.{slice_index_or}
use Rattle.std.specs.List.{list_any}
use Rattle.std.proofs.lemmas.List.{get_or-map, take_all, take_more}
use Rattle.std.proofs.lemmas.List.Folds.{list_any-append, list_any_at}
use Rattle.interval.specs.Domains.{Operations, AreSound}
use Rattle.absstate.specs.Covers.{covers}
use Rattle.absstate.specs.Signatures.{state_signature, lies_within}
use Rattle.absstate.specs.laws.Step.Packing.{same_item}
use Rattle.absstate.specs.laws.Step.Signing.{covered_signature}
use Rattle.absstate.specs.declared.abstract_state.AbsState.{AbsState}
use Rattle.absstate.specs.declared.signature.StateSignature.{StateSignature}
use Rattle.verifier.specs.Searches.{HasPassed}
use Rattle.verifier.specs.Signed.{signatures_of}

both_false : (x y : Bool) → x ≡ false → y ≡ false → (x || (y || false)) ≡ false
both_false false false e f = refl
both_false true y e f = absurd cc
both_false false true e f = absurd cc

module _ {D : Type 0} (ops : Operations D) (Member : D → ℕ → Type 0) (sound : AreSound ops Member) (b : AbsState D) where
  no_cover : (a : AbsState D) → lies_within (state_signature ops a) (state_signature ops b) ≡ false → covers ops a b ≡ false
  no_cover a outside = by (covers ops a b) refl where
    by : (x : Bool) → covers ops a b ≡ x → covers ops a b ≡ false
    by false e = e
    by true e = let bad : ◌≡◌ {A = Bool} true false = sym (covered_signature ops Member sound a b e) ∙ outside in absurd cc

  -- one state more that doesn't cover the state
  pub one_more : (states : List (AbsState D)) (at : ℕ) (a : AbsState D) → at < length states → slice_index_or states at a ≡ a → covers ops a b ≡ false → HasPassed ops states at b → HasPassed ops states (at + 1) b
  one_more states at a lt is none passed = record {
    inside = omega (arith, lt);
    none = ap (list_any (λ k. covers ops k b)) (take_more states at a lt) ∙ list_any-append (λ k. covers ops k b) (take at states) (slice_index_or states at a ∷ [])
        ∙ both_false (list_any (λ k. covers ops k b) (take at states)) (covers ops (slice_index_or states at a) b) passed.none (ap (λ (k : AbsState D). covers ops k b) is ∙ none);
  }

  some_more : (n from to : ℕ) (states : List (AbsState D)) → from + n ≡ to → to ≤ length states → ((i : ℕ) → from ≤ i → i < to → covers ops (slice_index_or states i b) b ≡ false) → HasPassed ops states from b → HasPassed ops states to b
  some_more zero from to states sum inside none passed = let same : from ≡ to = omega (arith, sum) in subst (λ (k : ℕ). HasPassed ops states k b) same passed
  some_more (suc n) from to states sum inside none passed =
      let first : AbsState D = slice_index_or states from b in
      let lt : from < length states = omega (arith, sum, inside) in
      some_more n (from + 1) to states (omega (arith, sum)) inside (λ i above below. none i (omega (arith, above)) below)
      (one_more states from first lt (same_item from states first b lt) (none from (omega arith) (omega (arith, sum))) passed)

  -- states that are passed over, from an index on
  pub passed_over : (states : List (AbsState D)) (signatures : List StateSignature) (signature : StateSignature) (from to : ℕ) → signatures ≡ signatures_of ops states → signature ≡ state_signature ops b → from ≤ to → to ≤ length states
      → ((i : ℕ) (s : StateSignature) → from ≤ i → i < to → slice_index_or signatures i s ≡ s → lies_within s signature ≡ false) → HasPassed ops states from b → HasPassed ops states to b
  passed_over states signatures signature from to are is after inside outside =
      some_more (to - from) from to states (omega (arith, after)) inside (λ i above below.
      let a : AbsState D = slice_index_or states i b in
      let s = state_signature ops a in
      let at : slice_index_or signatures i s ≡ s = ap (λ (xs : List StateSignature). slice_index_or xs i s) are ∙ get_or-map (state_signature ops) states i b s (omega (arith, below, inside)) in
      no_cover a (ap (lies_within s) (sym is) ∙ outside i s above below at))

  -- where all are passed, none covers the state
  pub all_passed : (states : List (AbsState D)) (at : ℕ) → length states ≤ at → HasPassed ops states at b → list_any (λ k. covers ops k b) states ≡ false
  all_passed states at all passed = ap (list_any (λ k. covers ops k b)) (sym (take_all at states all)) ∙ passed.none

  -- one of them covers it
  pub one_covers : (states : List (AbsState D)) (at : ℕ) (a : AbsState D) → at < length states → slice_index_or states at a ≡ a → covers ops a b ≡ true → list_any (λ k. covers ops k b) states ≡ true
  one_covers states at a lt is covered = list_any_at (λ k. covers ops k b) states at a lt (ap (λ (k : AbsState D). covers ops k b) is ∙ covered)
