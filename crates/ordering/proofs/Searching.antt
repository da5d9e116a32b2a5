-- The search goes on to a slot, or places the current one.
use Rattle.std.proofs.Common.{◌≡◌, ◌≢◌, ℕ, ◌+◌, ◌<◌, List, [], ◌∷◌, length, Option, refl, sym, ap, ◌∙◌, subst, inl, inr, arith}
use Rattle.std.specs.Prelude.{slice_set}
use Rattle.std.specs.List.{sum_by}
use Rattle.std.proofs.lemmas.Bool.{cases_eq}
use Rattle.std.proofs.lemmas.List.{get_or-set_same, get_or-set_other, length-set}
use Rattle.std.proofs.lemmas.List.Sums.{sum_by-set}
use Rattle.insn.specs.Encoding.{slot_count}
use Rattle.semantics.specs.Slots.{slots}
use Rattle.insn.specs.declared.decoding.TheConstants.{MAX_SLOTS}
use Rattle.insn.specs.declared.instruction.Insn.{Insn}
use Rattle.semantics.specs.declared.fetching.Branch.TheVariants.{NotTaken, Taken}
use Rattle.semantics.specs.declared.fetching.Visit.{Visit}
use Rattle.ordering.specs.Orders.{IsOrderFault}
use Rattle.ordering.specs.BranchTargets.{IsVisit}
use Rattle.ordering.specs.Tails.{put_before, IsNoRoom}
use Rattle.ordering.specs.Searches.{mark_at, IsPlaced, ArePlaced, IsChain, IsOn, StartsPlaced, IsSearch, weight, LeadsToVisit, LooksAt}
use Rattle.ordering.specs.declared.error.OrderError.{OrderError}
use Rattle.ordering.specs.declared.error.OrderError.TheVariants as errors
use Rattle.ordering.specs.declared.search.Mark.{Mark}
use Rattle.ordering.specs.declared.search.Mark.TheVariants.{Unseen, Open, Placed}
use Rattle.ordering.specs.declared.search.Look.TheVariants.{Known}
use Rattle.ordering.proofs.Placing.{Extends, Keeps, placed_kept, put_placed, put_extends, put_slots}
use Rattle.ordering.proofs.Room.{used_placed, used_opened, used_few}

unseen_is_not_open : (m : Mark) → m ≡ Unseen → m ≡ Open → ⊥
unseen_is_not_open m e f = absurd cc

unseen_is_not_placed : (m : Mark) (n : ℕ) → m ≡ Unseen → m ≡ Placed n → ⊥
unseen_is_not_placed m n e f = absurd cc

open_is_not_placed : (m : Mark) (n : ℕ) → m ≡ Open → m ≡ Placed n → ⊥
open_is_not_placed m n e f = absurd cc

placed_same : (m n : ℕ) → Placed m ≡ Placed n → m ≡ n
placed_same m n e = cc

-- ---- one mark is set

module _ (marks : List Mark) (slot : ℕ) (mark : Mark) where
  set_here : slot < length marks → mark_at (slice_set marks slot mark) slot ≡ mark
  set_here lt = get_or-set_same marks slot mark Unseen lt

  set_other : (k : ℕ) → k ≢ slot → mark_at (slice_set marks slot mark) k ≡ mark_at marks k
  set_other k ne = get_or-set_other marks slot k mark Unseen ne

  -- no slot that has a place loses it
  set_keeps : ((n : ℕ) → mark_at marks slot ≡ Placed n → ⊥) → Keeps marks (slice_set marks slot mark)
  set_keeps unplaced k n e = elim (cases_eq k slot) [
    | inl same ↦ absurd (unplaced n (ap (mark_at marks) (sym same) ∙ e))
    | inr ne ↦ set_other k ne ∙ e
  ]

  -- a mark that isn't the new one was there before
  was_there : (k : ℕ) (m : Mark) → slot < length marks → (mark ≡ m → ⊥) → mark_at (slice_set marks slot mark) k ≡ m → (mark_at marks k ≡ m) × (k ≢ slot)
  was_there k m lt other e = elim (cases_eq k slot) [
    | inl same ↦ absurd (other (sym (set_here lt) ∙ ap (mark_at (slice_set marks slot mark)) (sym same) ∙ e))
    | inr ne ↦ (sym (set_other k ne) ∙ e, ne)
  ]

open_is_not_a_place : (n : ℕ) → Open ≡ Placed n → ⊥
open_is_not_a_place n e = absurd cc

a_place_is_not_open : (n : ℕ) → Placed n ≡ Open → ⊥
a_place_is_not_open n e = absurd cc

-- ---- the first slot

module _ (code : List Insn) (marks : List Mark) (first : Visit) (unseen : (k : ℕ) → mark_at marks k ≡ Unseen) (lt : first.slot < length marks) where
  first_open : (slot : ℕ) → IsOn (first ∷ []) slot → mark_at (slice_set marks first.slot Open) slot ≡ Open
  first_open slot (inl here) = ap (mark_at (slice_set marks first.slot Open)) (sym here) ∙ set_here marks first.slot Open lt
  first_open slot (inr on) = absurd on

  first_on : (slot : ℕ) → mark_at (slice_set marks first.slot Open) slot ≡ Open → IsOn (first ∷ []) slot
  first_on slot e = elim (cases_eq slot first.slot) [
    | inl same ↦ inl (sym same)
    | inr ne ↦ absurd (unseen_is_not_open (mark_at marks slot) (unseen slot) (sym (set_other marks first.slot Open slot ne) ∙ e))
  ]

  none_placed : ArePlaced code (slice_set marks first.slot Open) []
  none_placed slot n e =
      absurd (unseen_is_not_placed (mark_at marks slot) n (unseen slot) (was_there marks first.slot Open slot (Placed n) lt (open_is_not_a_place n) e).0)

  pub started : length marks ≡ MAX_SLOTS → first.slot ≡ 0 → IsVisit code first → IsSearch code (slice_set marks first.slot Open) (first ∷ []) []
  started count start here = record {
    count = length-set marks first.slot Open ∙ count;
    chain = (here, start, tt);
    simple = (λ on. on, tt);
    are_open = first_open;
    on_path = first_on;
    placed = none_placed;
    start = tt;
    room = omega arith;
  }

-- ---- on to another slot

module _ (code : List Insn) (marks : List Mark) (at to : Visit) (path : List Visit) (rest : List Insn) (is : IsSearch code marks (at ∷ path) rest) (leads : LeadsToVisit code at to) (unseen : mark_at marks to.slot ≡ Unseen) (lt : to.slot < length marks) where
  abbrev opened : List Mark
  opened = slice_set marks to.slot Open

  kept : Keeps marks opened
  kept = set_keeps marks to.slot Open (λ n e. unseen_is_not_placed (mark_at marks to.slot) n unseen e)

  on_is_open : (slot : ℕ) → IsOn (to ∷ at ∷ path) slot → mark_at opened slot ≡ Open
  on_is_open slot (inl here) = ap (mark_at opened) (sym here) ∙ set_here marks to.slot Open lt
  on_is_open slot (inr on) = elim (cases_eq slot to.slot) [
    | inl same ↦ ap (mark_at opened) same ∙ set_here marks to.slot Open lt
    | inr ne ↦ set_other marks to.slot Open slot ne ∙ is.are_open slot on
  ]

  open_is_on : (slot : ℕ) → mark_at opened slot ≡ Open → IsOn (to ∷ at ∷ path) slot
  open_is_on slot e = elim (cases_eq slot to.slot) [
    | inl same ↦ inl (sym same)
    | inr ne ↦ inr (is.on_path slot (sym (set_other marks to.slot Open slot ne) ∙ e))
  ]

  placed_still : ArePlaced code opened rest
  placed_still slot n e =
      placed_kept code marks opened kept rest rest (record { longer = omega arith; same = λ k le. refl }) slot n
      (is.placed slot n (was_there marks to.slot Open slot (Placed n) lt (open_is_not_a_place n) e).0)

  pub entered : IsSearch code opened (to ∷ at ∷ path) rest
  entered = record {
    count = length-set marks to.slot Open ∙ is.count;
    chain = (leads.0, leads.1, is.chain);
    simple = (λ on. unseen_is_not_open (mark_at marks to.slot) unseen (is.are_open to.slot on), is.simple);
    are_open = on_is_open;
    on_path = open_is_on;
    placed = placed_still;
    start = tt;
    room = omega (arith, is.room, used_opened marks (slots code) to.slot unseen);
  }

-- ---- a slot is placed

module _ (code : List Insn) (marks : List Mark) (at : Visit) (path : List Visit) (rest : List Insn) (is : IsSearch code marks (at ∷ path) rest) (taken next : Option ℕ) (look : LooksAt code marks at Taken (Known taken)) (look_next : LooksAt code marks at NotTaken (Known next)) (lt : at.slot < length marks) where
  abbrev extended : List Insn
  extended = put_before rest at.insn taken next

  abbrev placed_marks : List Mark
  placed_marks = slice_set marks at.slot (Placed (slot_count extended))

  is_open : mark_at marks at.slot ≡ Open
  is_open = is.are_open at.slot (inl refl)

  kept_all : Keeps marks placed_marks
  kept_all = set_keeps marks at.slot (Placed (slot_count extended)) (λ n e. open_is_not_placed (mark_at marks at.slot) n is_open e)

  extends : Extends rest extended
  extends = put_extends code marks placed_marks rest at kept_all is.placed taken next look_next

  now_placed : ArePlaced code placed_marks extended
  now_placed slot n e = elim (cases_eq slot at.slot) [
    | inl same ↦
        let place : slot_count extended ≡ n = placed_same (slot_count extended) n (sym (set_here marks at.slot (Placed (slot_count extended)) lt) ∙ ap (mark_at placed_marks) (sym same) ∙ e) in
        let here : IsPlaced code placed_marks extended at.slot (slot_count extended) = put_placed code marks placed_marks rest at kept_all is.placed taken next is.chain.0 look look_next in
        subst (λ (k : ℕ). IsPlaced code placed_marks extended k n) (sym same) (subst (IsPlaced code placed_marks extended at.slot) place here)
    | inr ne ↦ placed_kept code marks placed_marks kept_all rest extended extends slot n (is.placed slot n (sym (set_other marks at.slot (Placed (slot_count extended)) slot ne) ∙ e))
  ]

  not_here : (slot : ℕ) → IsOn path slot → slot ≢ at.slot
  not_here slot on same = is.simple.0 (subst (IsOn path) same on)

  still_on : (slot : ℕ) → mark_at placed_marks slot ≡ Open → IsOn path slot
  still_on slot e =
      let was = was_there marks at.slot (Placed (slot_count extended)) slot Open lt (a_place_is_not_open (slot_count extended)) e in
      elim (is.on_path slot was.0) [ inl here ↦ absurd (was.1 (sym here)) | inr on ↦ on ]

  start_placed : (p : List Visit) → IsChain code (at ∷ p) → StartsPlaced placed_marks extended p
  start_placed [] chain = ap (mark_at placed_marks) (sym chain.1) ∙ set_here marks at.slot (Placed (slot_count extended)) lt
  start_placed (v ∷ p) chain = tt

  pub left : IsSearch code placed_marks path extended
  left = record {
    count = length-set marks at.slot (Placed (slot_count extended)) ∙ is.count;
    chain = is.chain.2;
    simple = is.simple.1;
    are_open = λ slot on. set_other marks at.slot (Placed (slot_count extended)) slot (not_here slot on) ∙ is.are_open slot (inr on);
    on_path = still_on;
    placed = now_placed;
    start = start_placed path is.chain;
    room = omega (arith, is.room, used_placed marks (slots code) at.slot (slot_count extended) at.insn lt is_open is.chain.0, put_slots rest at.insn taken next);
  }

-- ---- the work that is left

pub weight_entered : (marks : List Mark) (slot : ℕ) → slot < length marks → mark_at marks slot ≡ Unseen → sum_by weight (slice_set marks slot Open) + 2 ≡ sum_by weight marks
weight_entered marks slot lt e = omega (arith, sum_by-set weight marks slot Open Unseen lt, ap weight e)

-- ---- errors

pub no_room : (code : List Insn) (marks : List Mark) (at : Visit) (path : List Visit) (rest : List Insn) → IsSearch code marks (at ∷ path) rest → at.slot < length marks → (taken next : Option ℕ) (e : OrderError) → IsNoRoom (slot_count (put_before rest at.insn taken next)) e → IsOrderFault code e
no_room code marks at path rest is lt taken next (errors.Loop slot) h = absurd h
no_room code marks at path rest is lt taken next (errors.Stuck reason slot) h = absurd h
no_room code marks at path rest is lt taken next errors.TooLong h =
    let opened_here : mark_at marks at.slot ≡ Open = is.are_open at.slot (inl refl) in
    omega (arith, h, put_slots rest at.insn taken next, is.room, used_placed marks (slots code) at.slot 0 at.insn lt opened_here is.chain.0, used_few code (slice_set marks at.slot (Placed 0)))
no_room code marks at path rest is lt taken next errors.Memory h = tt
