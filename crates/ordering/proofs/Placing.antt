-- An instruction that is put before those that were placed, and the places that its branches lead to.
use Rattle.std.proofs.Common.{◌≡◌, ℕ, ◌+◌, ◌-◌, ◌≤◌, Bool, true, false, ℤ, pos, List, ◌∷◌, Option, Some, None, refl, sym, ap, ◌∙◌, subst, inl, inr, arith}
use Rattle.std.specs.Prelude.{◌==◌, if◌then◌else◌}
use Rattle.std.proofs.lemmas.Bool.{eqb-true}
use Rattle.insn.specs.Encoding.{slots_of, slot_count}
use Rattle.insn.specs.Jumps.{with_distance}
use Rattle.insn.specs.declared.instruction.Insn.{Insn}
use Rattle.insn.specs.declared.instruction.Insn.TheVariants as insn
use Rattle.semantics.specs.Flow.{Flow, Straight, Jumps, Forks, flow_of, flow_distance, flow_branches, branches}
use Rattle.semantics.specs.Flow as flow
use Rattle.semantics.specs.declared.fetching.Fetched.TheVariants.{Begins}
use Rattle.semantics.specs.declared.fetching.Branch.{Branch}
use Rattle.semantics.specs.declared.fetching.Branch.TheVariants.{NotTaken, Taken}
use Rattle.semantics.specs.declared.fetching.Visit.{Visit}
use Rattle.ordering.specs.Orders.{IsOneOf}
use Rattle.ordering.specs.BranchTargets.{IsVisit}
use Rattle.ordering.specs.Tails.{fetch_back, BeginsBack, bridged, jump_to, put_before, BeginsAt, HasPlace}
use Rattle.ordering.specs.Searches.{mark_at, LeadsToPlace, JumpsTo, ArrivesAt, TakesTo, FallsOnTo, IsPlaced, ArePlaced, LooksAt}
use Rattle.ordering.specs.declared.search.Mark.{Mark}
use Rattle.ordering.specs.declared.search.Mark.TheVariants.{Placed}
use Rattle.ordering.specs.declared.search.Look.TheVariants.{Known}
use Rattle.ordering.proofs.Backs.{fetch_cons_back, fetch_first_back, jump_slots}

-- ---- what stays

-- instructions were put before others
pub record Extends (rest new : List Insn) : Type 0 where
  pub longer : slot_count rest ≤ slot_count new
  pub same : (n : ℕ) → n ≤ slot_count rest → fetch_back new n ≡ fetch_back rest n

extends_none : (rest : List Insn) → Extends rest rest
extends_none rest = record { longer = omega arith; same = λ n le. refl }

extends_more : (i : Insn) (rest new : List Insn) → Extends rest new → Extends rest (i ∷ new)
extends_more i rest new e = record { longer = omega (arith, e.longer); same = λ n le. fetch_cons_back i new n (omega (arith, e.longer)) ∙ e.same n le }

abbrev pub Keeps : List Mark → List Mark → Type 0
Keeps marks new = (slot n : ℕ) → mark_at marks slot ≡ Placed n → mark_at new slot ≡ Placed n

module _ (code : List Insn) (marks new_marks : List Mark) (keeps : Keeps marks new_marks) where
  leads_kept : (slot : ℕ) (i : Insn) (b : Branch) (place : ℕ) → LeadsToPlace code marks slot i b place → LeadsToPlace code new_marks slot i b place
  leads_kept slot i b place l = record { to = l.to; leads = l.leads; mark = keeps l.to place l.mark }

  module _ (rest new : List Insn) (extends : Extends rest new) where
    comes_kept : (n place : ℕ) → ArrivesAt rest n place → ArrivesAt new n place
    comes_kept n place (inl same) = inl same
    comes_kept n place (inr j) = inr (record { inside = omega (arith, j.inside, extends.longer); ahead = j.ahead; here = extends.same n j.inside ∙ j.here; at = j.at })

    takes_kept : (slot : ℕ) (i : Insn) (n : ℕ) (d : ℤ) → TakesTo code marks slot i n d → TakesTo code new_marks slot i n d
    takes_kept slot i n d t = record { place = t.place; leads = leads_kept slot i Taken t.place t.leads; ahead = t.ahead; is = t.is; at = t.at }

    falls_kept : (slot : ℕ) (i : Insn) (n : ℕ) → FallsOnTo code marks rest slot i n → FallsOnTo code new_marks new slot i n
    falls_kept slot i n f = record { place = f.place; leads = leads_kept slot i NotTaken f.place f.leads; next = f.next; at = f.at; comes = comes_kept f.next f.place f.comes }

    pub placed_kept : (slot n : ℕ) → IsPlaced code marks rest slot n → IsPlaced code new_marks new slot n
    placed_kept slot n p = record {
      insn = p.insn;
      here = p.here;
      inside = omega (arith, p.inside, extends.longer);
      distance = p.distance;
      there = extends.same n p.inside ∙ p.there;
      taken = λ b. takes_kept slot p.insn n p.distance (p.taken b);
      next = λ b. falls_kept slot p.insn n (p.next b);
    }

-- ---- what the code requires

-- an instruction begins at a place
pub placed_begins : (code : List Insn) (marks : List Mark) (rest : List Insn) (slot n : ℕ) → IsPlaced code marks rest slot n → BeginsBack rest n
placed_begins code marks rest slot n p = record { inside = p.inside; insn = with_distance p.insn p.distance; begins = p.there }

no_distance : (f : Flow) → (IsOneOf (flow_branches f) Taken → ⊥) → flow_distance f ≡ None
no_distance Straight h = refl
no_distance (Jumps d) h = absurd (h (inl refl))
no_distance (Forks d) h = absurd (h (inr (inl refl)))
no_distance flow.Ends h = refl

module _ (code : List Insn) (marks : List Mark) (rest : List Insn) (at : Visit) (placed : ArePlaced code marks rest) where
  pub taken_place : (taken : Option ℕ) → LooksAt code marks at Taken (Known taken) → HasPlace rest at.insn taken
  taken_place None h = no_distance (flow_of at.insn) h
  taken_place (Some place) l = placed_begins code marks rest l.to place (placed l.to place l.mark)

  pub next_place : (next : Option ℕ) → LooksAt code marks at NotTaken (Known next) → BeginsAt rest next
  next_place None h = tt
  next_place (Some place) l = placed_begins code marks rest l.to place (placed l.to place l.mark)

-- ---- a jump that is put in

pub record Bridges (rest mid : List Insn) (next : Option ℕ) : Type 0 where
  pub extends : Extends rest mid
  pub comes : (place : ℕ) → next ≡ Some place → ArrivesAt mid (slot_count mid) place

some_same : (m n : ℕ) → ◌≡◌ {A = Option ℕ} (Some m) (Some n) → m ≡ n
some_same m n e = cc

none_is_not_some : (n : ℕ) → ◌≡◌ {A = Option ℕ} None (Some n) → ⊥
none_is_not_some n e = absurd cc

module _ (rest : List Insn) (place : ℕ) (begins : BeginsBack rest place) where
  abbrev Jumping : List Insn
  Jumping = insn.Jump (pos (slot_count rest - place)) ∷ rest

  over_jump : JumpsTo Jumping (slot_count Jumping) place
  over_jump = record {
    inside = omega arith;
    ahead = slot_count rest - place;
    here = fetch_first_back (insn.Jump (pos (slot_count rest - place))) rest;
    at = omega (arith, begins.inside);
  }

  bridge_by : (b : Bool) → (place == slot_count rest) ≡ b → Bridges rest (if b then rest else Jumping) (Some place)
  bridge_by true e = record {
    extends = extends_none rest;
    comes = λ p same. inl (sym (eqb-true place (slot_count rest) e) ∙ some_same place p same);
  }
  bridge_by false e = record {
    extends = extends_more (insn.Jump (pos (slot_count rest - place))) rest rest (extends_none rest);
    comes = λ p same. subst (ArrivesAt Jumping (slot_count Jumping)) (some_same place p same) (inr over_jump);
  }

pub bridges : (rest : List Insn) (next : Option ℕ) → BeginsAt rest next → Bridges rest (bridged rest next) next
bridges rest None begins = record { extends = extends_none rest; comes = λ p e. absurd (none_is_not_some p e) }
bridges rest (Some place) begins = bridge_by rest place begins (place == slot_count rest) refl

-- ---- the instruction itself

distance_by : List Insn → Option ℕ → ℤ
distance_by mid None = pos 0
distance_by mid (Some place) = pos (slot_count mid - place)

distance_is_not_none : (d : ℤ) → ◌≡◌ {A = Option ℤ} (Some d) None → ⊥
distance_is_not_none d e = absurd cc

pub no_jump_same : (i : Insn) (d : ℤ) → flow_distance (flow_of i) ≡ None → with_distance i d ≡ i
no_jump_same (insn.Jump offset) d e = absurd (distance_is_not_none offset e)
no_jump_same (insn.LongJump offset) d e = absurd (distance_is_not_none offset e)
no_jump_same (insn.JumpIf w c dst o offset) d e = absurd (distance_is_not_none offset e)
no_jump_same i d e = refl

pub same_slots : (i : Insn) (d : ℤ) → slots_of (with_distance i d) ≡ slots_of i
same_slots (insn.LoadImm dst n) d = refl
same_slots i d = refl

taken_distance : (f : Flow) → IsOneOf (flow_branches f) Taken → (d : ℤ) × (flow_distance f ≡ Some d)
taken_distance Straight (inl e) = absurd cc
taken_distance Straight (inr h) = absurd h
taken_distance (Jumps d) b = (d, refl)
taken_distance (Forks d) b = (d, refl)
taken_distance flow.Ends h = absurd h

-- a jump has one slot
pub taken_slots : (i : Insn) → IsOneOf (branches i) Taken → slots_of i ≡ 1
taken_slots i b = let jump = taken_distance (flow_of i) b in jump_slots i jump.0 jump.1

module _ (code : List Insn) (marks new_marks : List Mark) (rest : List Insn) (at : Visit) (keeps : Keeps marks new_marks) (placed : ArePlaced code marks rest) where
  moved_is : (mid : List Insn) (taken : Option ℕ) → LooksAt code marks at Taken (Known taken) → jump_to mid at.insn taken ≡ with_distance at.insn (distance_by mid taken)
  unfolding distance_by
  moved_is mid None h = sym (no_jump_same at.insn (pos 0) (no_distance (flow_of at.insn) h))
  moved_is mid (Some place) l = refl

  takes : (mid : List Insn) (n : ℕ) (taken : Option ℕ) → Extends rest mid → LooksAt code marks at Taken (Known taken) → n ≡ slots_of at.insn + slot_count mid → IsOneOf (branches at.insn) Taken
      → TakesTo code new_marks at.slot at.insn n (distance_by mid taken)
  unfolding distance_by
  takes mid n None extends h e b = absurd (h b)
  takes mid n (Some place) extends l e b =
      let inside : place ≤ slot_count rest = (placed l.to place l.mark).inside in
      record {
        place = place;
        leads = leads_kept code marks new_marks keeps at.slot at.insn Taken place l;
        ahead = slot_count mid - place;
        is = refl;
        at = omega (arith, e, taken_slots at.insn b, inside, extends.longer);
      }

  falls : (mid : List Insn) (moved : Insn) (n : ℕ) (next : Option ℕ) → Bridges rest mid next → LooksAt code marks at NotTaken (Known next) → n ≡ slots_of at.insn + slot_count mid → IsOneOf (branches at.insn) NotTaken
      → FallsOnTo code new_marks (moved ∷ mid) at.slot at.insn n
  falls mid moved n None bridge h e b = absurd (h b)
  falls mid moved n (Some place) bridge l e b = record {
    place = place;
    leads = leads_kept code marks new_marks keeps at.slot at.insn NotTaken place l;
    next = slot_count mid;
    at = omega (arith, e);
    comes = comes_kept code new_marks new_marks (λ slot k is. is) mid (moved ∷ mid) (extends_more moved mid mid (extends_none mid)) (slot_count mid) place (bridge.comes place refl);
  }

  -- the instruction has the place at which it was put
  pub put_placed : (taken next : Option ℕ) → IsVisit code at → LooksAt code marks at Taken (Known taken) → LooksAt code marks at NotTaken (Known next)
      → IsPlaced code new_marks (put_before rest at.insn taken next) at.slot (slot_count (put_before rest at.insn taken next))
  put_placed taken next here look look_next =
      let mid : List Insn = bridged rest next in
      let moved : Insn = jump_to mid at.insn taken in
      let bridge : Bridges rest mid next = bridges rest next (next_place code marks rest at placed next look_next) in
      let is : moved ≡ with_distance at.insn (distance_by mid taken) = moved_is mid taken look in
      let count : slots_of moved + slot_count mid ≡ slots_of at.insn + slot_count mid = ap (λ (i : Insn). slots_of i + slot_count mid) is ∙ ap (λ (k : ℕ). k + slot_count mid) (same_slots at.insn (distance_by mid taken)) in
      record {
        insn = at.insn;
        here = here;
        inside = omega arith;
        distance = distance_by mid taken;
        there = fetch_first_back moved mid ∙ ap Begins is;
        taken = takes mid (slots_of moved + slot_count mid) taken bridge.extends look count;
        next = falls mid moved (slots_of moved + slot_count mid) next bridge look_next count;
      }

  pub put_extends : (taken next : Option ℕ) → LooksAt code marks at NotTaken (Known next) → Extends rest (put_before rest at.insn taken next)
  put_extends taken next look_next =
      extends_more (jump_to (bridged rest next) at.insn taken) rest (bridged rest next) (bridges rest next (next_place code marks rest at placed next look_next)).extends

-- a place stays one where instructions are put before the others
pub has_place : (rest mid : List Insn) (i : Insn) (taken : Option ℕ) → Extends rest mid → HasPlace rest i taken → HasPlace mid i taken
has_place rest mid i None extends h = h
has_place rest mid i (Some place) extends b = record { inside = omega (arith, b.inside, extends.longer); insn = b.insn; begins = extends.same place b.inside ∙ b.begins }

-- ---- room

bridge_slots : (rest : List Insn) (place : ℕ) (b : Bool) → slot_count (if b then rest else (insn.Jump (pos (slot_count rest - place)) ∷ rest)) ≤ slot_count rest + 1
bridge_slots rest place true = omega arith
bridge_slots rest place false = omega arith

pub bridged_slots : (rest : List Insn) (next : Option ℕ) → slot_count (bridged rest next) ≤ slot_count rest + 1
bridged_slots rest None = omega arith
bridged_slots rest (Some place) = bridge_slots rest place (place == slot_count rest)

jump_slots_same : (mid : List Insn) (i : Insn) (taken : Option ℕ) → slots_of (jump_to mid i taken) ≡ slots_of i
jump_slots_same mid i None = refl
jump_slots_same mid i (Some place) = same_slots i (pos (slot_count mid - place))

-- an instruction needs its own slots, and maybe one for a jump
pub put_slots : (rest : List Insn) (i : Insn) (taken next : Option ℕ) → slot_count (put_before rest i taken next) ≤ slot_count rest + (slots_of i + 1)
put_slots rest i taken next = omega (arith, bridged_slots rest next, jump_slots_same (bridged rest next) i taken)
