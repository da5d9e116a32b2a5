-- The slots at which states are kept.
use Rattle.std.proofs.Common.{◌≡◌, ℕ, zero, suc, ◌+◌, ◌<◌, ◌≤◌, Bool, true, false, ◌&&◌, ◌||◌, List, [], ◌∷◌, ◌++◌, length, Option, Some, None, inl, inr, ⊎_elim, refl, sym, ap, ◌∙◌, subst, arith, rules}
use Rattle.std.specs.Prelude.{◌==◌, ◌⊎◌, slice_index_or, slice_set, is_some}
use Rattle.std.proofs.lemmas.Bool.{cases_lt, cases_eq, eqb-true, eqb-false, ne_eqb}
use Rattle.std.proofs.lemmas.List.{get_or-set_same, get_or-set_other}
use Rattle.insn.specs.Encoding.{slot_count}
use Rattle.insn.specs.declared.instruction.Insn.{Insn}
use Rattle.semantics.specs.laws.Slot.{fetch_past}
use Rattle.absstate.specs.declared.abstract_state.AbsState.{AbsState}
use Rattle.verifier.specs.Targets.{fetched_target, target_at, IsTarget}
use Rattle.verifier.specs.Keeping.{states_of, states_with, keeps_at, is_slot, KeepsAtTargets, KeepsNothing, MarksTarget, Keeps}
use Rattle.verifier.specs.declared.kept.KeptStates.{KeptStates}
use Rattle.verifier.specs.declared.walk.Pending.{Pending}

-- a slot more, at which nothing is
pub none_more : {A : Type 0} (rows : List (Option A)) (n : ℕ) → slice_index_or (rows ++ None ∷ []) n None ≡ slice_index_or rows n None
none_more [] zero = refl
none_more [] (suc n) = refl
none_more (row ∷ rows) zero = refl
none_more (row ∷ rows) (suc n) = none_more rows n

-- ---- a slot that is marked

or_true : (x : Bool) → (x || true) ≡ true
or_true true = refl
or_true false = refl

or_false : (x : Bool) → (x || false) ≡ x
or_false true = refl
or_false false = refl

is_itself : (marked : Option ℕ) (n : ℕ) → marked ≡ Some n → is_slot marked n ≡ true
is_itself marked n e = subst (λ (g : Option ℕ). is_slot g n ≡ true) (sym e) (itself n) where
  itself : (n : ℕ) → (n == n) ≡ true
  itself n = search rules

module _ {D : Type 0} (old : KeptStates D) (long : List (Option (List (AbsState D)))) (at : ℕ) (inside : at < length long) (same : (n : ℕ) → slice_index_or long n None ≡ slice_index_or old n None) where
  pub marks_one : (marked : Option ℕ) (states : List (AbsState D)) → marked ≡ Some at → MarksTarget {D = D} marked old (slice_set long at (Some states))
  marks_one marked states is slot = ⊎_elim
      (λ here.
      ap is_some (ap (λ n. slice_index_or (slice_set long at (Some states)) n None) here ∙ get_or-set_same long at (Some states) None inside)
      ∙ sym (or_true (keeps_at old slot)) ∙ ap (λ b. keeps_at old slot || b) (sym (is_itself marked slot (is ∙ ap Some (sym here)))))
      (λ other.
      ap is_some (get_or-set_other long at slot (Some states) None other ∙ same slot)
      ∙ sym (or_false (keeps_at old slot)) ∙ ap (λ b. keeps_at old slot || b) (sym (ap (λ (m : Option ℕ). is_slot m slot) is ∙ ne_eqb slot at other)))
      (cases_eq slot at)

  pub keeps_none : (states : List (AbsState D)) → states ≡ [] → KeepsNothing old → KeepsNothing {D = D} (slice_set long at (Some states))
  keeps_none states empty none slot = ⊎_elim
      (λ here. ap states_of (ap (λ n. slice_index_or (slice_set long at (Some states)) n None) here ∙ get_or-set_same long at (Some states) None inside) ∙ empty)
      (λ other. ap states_of (get_or-set_other long at slot (Some states) None other ∙ same slot) ∙ none slot) (cases_eq slot at)

-- ---- the targets of the jumps below a slot

abbrev pub IsTargetBelow : List Insn → ℕ → ℕ → Type 0
IsTargetBelow code end marked = (g : IsTarget code marked) × (g.0 < end)

-- states are kept at the targets of the jumps below a slot, and nowhere else
pub record KeepsBelow {D : Type 0} (code : List Insn) (end : ℕ) (kept : KeptStates D) : Type 0 where
  pub only : (slot : ℕ) → keeps_at kept slot ≡ true → IsTargetBelow code end slot
  pub all : (slot : ℕ) → IsTargetBelow code end slot → keeps_at kept slot ≡ true

either_is : (x y : Bool) → (x || y) ≡ true → (x ≡ true) ⊎ (y ≡ true)
either_is true y e = inl refl
either_is false y e = inr e

is_that : (marked : Option ℕ) (n : ℕ) → is_slot marked n ≡ true → marked ≡ Some n
is_that None n e = absurd cc
is_that (Some g) n e = ap Some (sym (eqb-true n g e))

pub none_below : {D : Type 0} (code : List Insn) (kept : KeptStates D) → kept ≡ [] → KeepsBelow code 0 kept
none_below code kept none = record {
  only = λ slot e. absurd (let no : keeps_at kept slot ≡ false = ap (λ (rows : List _). is_some (slice_index_or rows slot None)) none in cc);
  all = λ slot marked. absurd (omega (arith, marked.1));
}

pub next_below : {D : Type 0} (code : List Insn) (at : ℕ) (old new : KeptStates D) → KeepsBelow code at old → MarksTarget (target_at code at) old new → KeepsBelow code (at + 1) new
next_below code at old new below marks = record { only = only_next; all = all_next } where
  only_next : (slot : ℕ) → keeps_at new slot ≡ true → IsTargetBelow code (at + 1) slot
  only_next slot e = elim (either_is (keeps_at old slot) (is_slot (target_at code at) slot) (sym (marks slot) ∙ e)) [
    | inl earlier ↦ let marked = below.only slot earlier in (marked.0, omega (arith, marked.1))
    | inr here ↦ ((at, is_that (target_at code at) slot here), omega arith)
  ]

  all_next : (slot : ℕ) → IsTargetBelow code (at + 1) slot → keeps_at new slot ≡ true
  all_next slot (g, before) = marks slot ∙ elim (cases_lt g.0 at) [
    | inl early ↦ ap (λ (b : Bool). b || is_slot (target_at code at) slot) (below.all slot (g, early))
    | inr late ↦
        let same : at ≡ g.0 = omega (arith, before, late) in
        ap (λ (b : Bool). keeps_at old slot || b) (is_itself (target_at code at) slot (ap (target_at code) same ∙ g.1)) ∙ or_true (keeps_at old slot)
  ]

past_has_none : (code : List Insn) (slot marked : ℕ) → slot_count code ≤ slot → target_at code slot ≡ Some marked → ⊥
past_has_none code slot marked past e = let none : target_at code slot ≡ None = ap (fetched_target code slot) (fetch_past code slot past) in absurd cc

-- at the end these are all targets
pub targets_below : {D : Type 0} (code : List Insn) (end : ℕ) (kept : KeptStates D) → slot_count code ≤ end → KeepsBelow code end kept → KeepsAtTargets code kept
targets_below code end kept le below = record {
  only = λ slot e. (below.only slot e).0;
  all = λ slot marked. elim (cases_lt marked.0 end) [
    | inl before ↦ below.all slot (marked, before)
    | inr past ↦ absurd (past_has_none code marked.0 slot (omega (arith, le, past)) marked.1)
  ];
}

-- a kept state changes no slot at which states are kept
pub targets_after : {D : Type 0} (code : List Insn) (p : Pending D) (old new : KeptStates D) → KeepsAtTargets code old → Keeps p old new → KeepsAtTargets code new
targets_after code p old new targets keeps = record {
  only = λ slot e. targets.only slot (sym (keeps.slots slot) ∙ e);
  all = λ slot marked. keeps.slots slot ∙ targets.all slot marked;
}

-- ---- a state is kept

at_itself : (x : Bool) → (x && true) ≡ x
at_itself true = refl
at_itself false = refl

elsewhere : (x : Bool) → (x && false) ≡ false
elsewhere true = refl
elsewhere false = refl

pub kept_inside : {A : Type 0} (rows : List (Option A)) (n : ℕ) → is_some (slice_index_or rows n None) ≡ true → n < length rows
kept_inside [] n e = absurd cc
kept_inside (row ∷ rows) zero e = omega arith
kept_inside (row ∷ rows) (suc n) e = omega (arith, kept_inside rows n e)

module _ {D : Type 0} (state : AbsState D) where
  slots_with : (rows : List (Option (List (AbsState D)))) (at n : ℕ) (new : Option (List (AbsState D))) → at < length rows → is_some new ≡ is_some (slice_index_or rows at None) → is_some (slice_index_or (slice_set rows at new) n None) ≡ is_some (slice_index_or rows n None)
  slots_with [] at n new lt e = absurd (omega (arith, lt))
  slots_with (row ∷ rows) zero zero new lt e = e
  slots_with (row ∷ rows) zero (suc n) new lt e = refl
  slots_with (row ∷ rows) (suc at) zero new lt e = refl
  slots_with (row ∷ rows) (suc at) (suc n) new lt e = slots_with rows at n new (omega (arith, lt)) e

  set_same : (rows : List (Option (List (AbsState D)))) (at : ℕ) (new : Option (List (AbsState D))) → at < length rows → slice_index_or (slice_set rows at new) at None ≡ new
  set_same [] at new lt = absurd (omega (arith, lt))
  set_same (row ∷ rows) zero new lt = refl
  set_same (row ∷ rows) (suc at) new lt = set_same rows at new (omega (arith, lt))

  set_other : (rows : List (Option (List (AbsState D)))) (at n : ℕ) (new : Option (List (AbsState D))) → (n ≡ at → ⊥) → slice_index_or (slice_set rows at new) n None ≡ slice_index_or rows n None
  set_other [] at n new other = refl
  set_other (row ∷ rows) zero zero new other = absurd (other refl)
  set_other (row ∷ rows) zero (suc n) new other = refl
  set_other (row ∷ rows) (suc at) zero new other = refl
  set_other (row ∷ rows) (suc at) (suc n) new other = set_other rows at n new (λ same. other (ap suc same))

  states_here : (rows : List (Option (List (AbsState D)))) (at n : ℕ) (new : Option (List (AbsState D))) → at < length rows → states_of new ≡ states_with (is_some (slice_index_or rows at None)) state (states_of (slice_index_or rows at None))
      → states_of (slice_index_or (slice_set rows at new) n None) ≡ states_with (is_some (slice_index_or rows at None) && (n == at)) state (states_of (slice_index_or rows n None))
  states_here rows at n new lt e = by (n == at) refl where
    by : (test : Bool) → (n == at) ≡ test → states_of (slice_index_or (slice_set rows at new) n None) ≡ states_with (is_some (slice_index_or rows at None) && (n == at)) state (states_of (slice_index_or rows n None))
    by true here =
        let is : n ≡ at = eqb-true n at here in
        ap (λ (k : ℕ). states_of (slice_index_or (slice_set rows at new) k None)) is ∙ ap (λ (o : Option (List (AbsState D))). states_of o) (set_same rows at new lt) ∙ e
        ∙ ap (λ (b : Bool). states_with b state (states_of (slice_index_or rows at None))) (sym (at_itself (is_some (slice_index_or rows at None))) ∙ ap (λ (b : Bool). is_some (slice_index_or rows at None) && b) (sym here))
        ∙ ap (λ (k : ℕ). states_with (is_some (slice_index_or rows at None) && (n == at)) state (states_of (slice_index_or rows k None))) (sym is)
    by false there =
        ap (λ (o : Option (List (AbsState D))). states_of o) (set_other rows at n new (eqb-false n at there))
        ∙ ap (λ (b : Bool). states_with b state (states_of (slice_index_or rows n None))) (sym (elsewhere (is_some (slice_index_or rows at None))) ∙ ap (λ (b : Bool). is_some (slice_index_or rows at None) && b) (sym there))

-- what is kept where the states of a slot, to which a state is appended, take their place
pub keeps_here : {D : Type 0} (p : Pending D) (kept : KeptStates D) (old new : Option (List (AbsState D))) → p.slot < length kept → old ≡ slice_index_or kept p.slot None → is_some new ≡ is_some old
    → states_of new ≡ states_with (is_some old) p.state (states_of old) → Keeps p kept (slice_set kept p.slot new)
keeps_here p kept old new lt is slots states = record {
  slots = λ slot. slots_with p.state kept p.slot slot new lt (slots ∙ ap (λ (o : Option (List (AbsState _))). is_some o) is);
  states = λ slot. states_here p.state kept p.slot slot new lt (states ∙ ap (λ (o : Option (List (AbsState _))). states_with (is_some o) p.state (states_of o)) is);
}
