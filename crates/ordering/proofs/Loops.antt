-- Programs that are in order, or are put in order, have no loop that is reached.
use Rattle.std.proofs.Common.{◌≡◌, ℕ, ◌+◌, ◌<◌, ◌≤◌, Bool, true, false, cond, ℤ, pos, negsuc, ◌+ℤ◌, List, [], ◌∷◌, Some, Ok, Err, refl, sym, ap, ◌∙◌, subst, inl, inr, arith}
use Rattle.std.specs.Prelude.{int_le, unsigned_abs}
use Rattle.std.proofs.lemmas.Int.{ints}
use Rattle.insn.specs.Encoding.{slots_of, slot_count}
use Rattle.insn.specs.declared.instruction.Insn.{Insn}
use Rattle.semantics.specs.Slots.{fetch, landing, target}
use Rattle.semantics.specs.laws.Slot.{some_slots}
use Rattle.semantics.specs.Flow.{Flow, Straight, Jumps, Forks, flow_of, flow_distance, branches}
use Rattle.semantics.specs.Flow as flow
use Rattle.semantics.specs.declared.reason.Reason.TheVariants.{JumpBackward}
use Rattle.semantics.specs.declared.fetching.Fetched.{Fetched}
use Rattle.semantics.specs.declared.fetching.Fetched.TheVariants.{Begins, Inside, Past}
use Rattle.semantics.specs.declared.fetching.Branch.{Branch}
use Rattle.semantics.specs.declared.fetching.Branch.TheVariants.{NotTaken, Taken}
use Rattle.verifier.specs.Layout.{distance_checked, fetched_checked, HasGoodJumps}
use Rattle.ordering.specs.Orders.{any_target, any_flow_slot, IsOneOf, LeadsBy, Leads, IsPath, HasNoLoop}
use Rattle.ordering.specs.Searches.{mark_at, LeadsToPlace, ArrivesAt, IsPlaced, IsOrdered}
use Rattle.ordering.specs.declared.search.Mark.{Mark}
use Rattle.ordering.specs.declared.search.Mark.TheVariants.{Placed}
use Rattle.ordering.proofs.Forwards.{any_of_target, passes}
use Rattle.ordering.proofs.Meaning.{begins_same, ok_same, landing_is}

-- ---- where jumps lead forward

landed_at : (f : Fetched) (to n : ℕ) → landing f to ≡ Ok n → to ≡ n
landed_at (Begins i) to n e = cc
landed_at Inside to n e = absurd cc
landed_at Past to n e = absurd cc

ahead : (a : ℤ) (slot n : ℕ) (b : Bool) (f : Fetched) → int_le a (pos slot) ≡ b → cond b (Err JumpBackward) (landing f (unsigned_abs a)) ≡ Ok n → slot < n
ahead a slot n true f e is = absurd cc
ahead (pos m) slot n false f e is = omega (arith, ints, landed_at f m n is)
ahead (negsuc m) slot n false f e is = absurd cc

module _ (code : List Insn) (jumps : HasGoodJumps code) where
  jump_ahead : (slot n : ℕ) (d : ℤ) → distance_checked code slot (Some d) ≡ Ok tt → any_target code slot d ≡ Ok n → slot < n
  jump_ahead slot n d checked e =
      let a : ℤ = pos (slot + 1) +ℤ d in
      let there = passes (target code slot d) checked in
      let same : there.0 ≡ n = ok_same there.0 n (sym (any_of_target code slot there.0 d there.1) ∙ e) in
      let lt : slot < there.0 = ahead a slot there.0 (int_le a (pos slot)) (fetch code (unsigned_abs a)) refl there.1 in
      omega (arith, same, lt)

  next_ahead : (slot n k : ℕ) → 1 ≤ k → n ≡ slot + k → slot < n
  next_ahead slot n k some e = omega arith

  flow_ahead : (slot n k : ℕ) (f : Flow) (branch : Branch) → 1 ≤ k → distance_checked code slot (flow_distance f) ≡ Ok tt → any_flow_slot code slot k f branch ≡ Ok n → slot < n
  flow_ahead slot n k Straight branch some checked e = next_ahead slot n k some (landing_is (fetch code (slot + k)) (slot + k) n e)
  flow_ahead slot n k (Jumps d) branch some checked e = jump_ahead slot n d checked e
  flow_ahead slot n k (Forks d) NotTaken some checked e = next_ahead slot n k some (landing_is (fetch code (slot + k)) (slot + k) n e)
  flow_ahead slot n k (Forks d) Taken some checked e = jump_ahead slot n d checked e
  flow_ahead slot n k flow.Ends branch some checked e = next_ahead slot n k some (landing_is (fetch code (slot + k)) (slot + k) n e)

  leads_ahead : (slot next : ℕ) → Leads code slot next → slot < next
  leads_ahead slot next l = flow_ahead slot next (slots_of l.0) (flow_of l.0) l.1 (some_slots l.0) (ap (fetched_checked code slot) (sym l.2.here) ∙ jumps slot) l.2.leads

  path_ahead : (slot to : ℕ) (path : List ℕ) → IsPath code slot path to → slot ≤ to
  path_ahead slot to [] e = omega (arith, e)
  path_ahead slot to (next ∷ path) p = omega (arith, leads_ahead slot next p.0, path_ahead next to path p.1)

  pub none_forward : HasNoLoop code
  none_forward slot l = absurd (omega (arith, leads_ahead slot l.next l.leads, path_ahead l.next slot l.back.0 l.back.1))

-- ---- the instructions that were placed

module _ (code new : List Insn) (marks : List Mark) (ordered : IsOrdered code marks new) where
  -- a slot has a place nearer to the end
  abbrev IsBelow : ℕ → ℕ → Type 0
  IsBelow n slot = (m : ℕ) × (mark_at marks slot ≡ Placed m) × (m < n)

  place_below : (slot next n place : ℕ) (i : Insn) (b : Branch) → LeadsBy code slot i b (Ok next) → LeadsToPlace code marks slot i b place → place < n → IsBelow n next
  place_below slot next n place i b l to lt = (place, ap (mark_at marks) (ok_same next to.to (sym l.leads ∙ to.leads.leads)) ∙ to.mark, lt)

  arrives_below : (next place : ℕ) → ArrivesAt new next place → place ≤ next
  arrives_below next place (inl same) = omega (arith, same)
  arrives_below next place (inr jump) = omega (arith, jump.at)

  branch_below : (slot n next : ℕ) (i : Insn) (b : Branch) → IsPlaced code marks new slot n → LeadsBy code slot i b (Ok next) → IsBelow n next
  branch_below slot n next i Taken p l =
      let same : p.insn ≡ i = begins_same p.insn i (sym p.here ∙ l.here) in
      let to = p.taken (subst (λ (j : Insn). IsOneOf (branches j) Taken) (sym same) l.is_branch) in
      place_below slot next n to.place i Taken l (subst (λ (j : Insn). LeadsToPlace code marks slot j Taken to.place) same to.leads) (omega (arith, to.at))
  branch_below slot n next i NotTaken p l =
      let same : p.insn ≡ i = begins_same p.insn i (sym p.here ∙ l.here) in
      let to = p.next (subst (λ (j : Insn). IsOneOf (branches j) NotTaken) (sym same) l.is_branch) in
      place_below slot next n to.place i NotTaken l (subst (λ (j : Insn). LeadsToPlace code marks slot j NotTaken to.place) same to.leads)
      (omega (arith, to.at, some_slots p.insn, arrives_below to.next to.place to.comes))

  leads_below : (slot n next : ℕ) → mark_at marks slot ≡ Placed n → Leads code slot next → IsBelow n next
  leads_below slot n next mark l = branch_below slot n next l.0 l.1 (ordered.placed slot n mark) l.2

  path_below : (slot n to : ℕ) (path : List ℕ) → mark_at marks slot ≡ Placed n → IsPath code slot path to → IsBelow (n + 1) to
  path_below slot n to [] mark e = (n, ap (mark_at marks) (sym e) ∙ mark, omega arith)
  path_below slot n to (next ∷ path) mark p =
      let first = leads_below slot n next mark p.0 in
      let rest = path_below next first.0 to path first.1 p.1 in
      (rest.0, rest.1, omega (arith, first.2, rest.2))

  same_place : (m n : ℕ) → Placed m ≡ Placed n → m ≡ n
  same_place m n e = cc

  pub none_placed : HasNoLoop code
  none_placed slot l =
      let here = path_below 0 (slot_count new) slot l.reached.0 ordered.start l.reached.1 in
      let next = leads_below slot here.0 l.next here.1 l.leads in
      let back = path_below l.next next.0 slot l.back.0 next.1 l.back.1 in
      absurd (omega (arith, next.2, back.2, same_place here.0 back.0 (sym here.1 ∙ back.1)))
