-- Places from the end of a program, which stay as they are when instructions are put before it.
use Rattle.std.proofs.Common.{◌≡◌, ℕ, ◌+◌, ◌-◌, ◌<◌, ◌≤◌, Bool, false, ℤ, pos, ◌+ℤ◌, ◌<ℤ◌, List, [], ◌∷◌, ◌++◌, Option, Some, None, Ok, Err, refl, sym, ap, ◌∙◌, subst, inl, inr, arith}
use Rattle.std.specs.Prelude.{int_le, unsigned_abs, if◌then◌else◌, reverse}
use Rattle.std.proofs.lemmas.List.{reverse-append}
use Rattle.std.proofs.lemmas.Bool.{cases_lt}
use Rattle.std.proofs.lemmas.Int.{ints}
use Rattle.insn.specs.Encoding.{slots_of, slot_count, Fits, AllFit}
use Rattle.insn.specs.declared.decoding.TheConstants.{MAX_SLOTS}
use Rattle.insn.specs.declared.instruction.Insn.{Insn}
use Rattle.insn.specs.declared.instruction.Insn.TheVariants as insn
use Rattle.semantics.specs.Slots.{fetch, landing, target}
use Rattle.semantics.specs.laws.Slot.{fetch_after, fetch_between, at_start}
use Rattle.semantics.specs.Flow.{flow_of, flow_distance}
use Rattle.semantics.specs.declared.reason.Reason.TheVariants.{JumpBackward}
use Rattle.semantics.specs.declared.fetching.Fetched.{Fetched}
use Rattle.semantics.specs.declared.fetching.Fetched.TheVariants.{Begins, Inside}
use Rattle.ordering.specs.Tails.{tail_list, fetch_back, BeginsBack, LandsBack, JumpsAhead, IsTail, LandsBefore}
use Rattle.ordering.specs.declared.tail.Tail.{Tail}

-- ---- one instruction more

module _ (i : Insn) (rest : List Insn) where
  pub fetch_cons_back : (n : ℕ) → n ≤ slot_count rest → fetch_back (i ∷ rest) n ≡ fetch_back rest n
  fetch_cons_back n le =
      let at : slot_count (i ∷ rest) - n ≡ slot_count (i ∷ []) + (slot_count rest - n) = omega arith in
      ap (fetch (i ∷ rest)) at ∙ fetch_after (i ∷ []) rest (slot_count rest - n)

  pub fetch_first_back : fetch_back (i ∷ rest) (slot_count (i ∷ rest)) ≡ Begins i
  fetch_first_back = let at : slot_count (i ∷ rest) - slot_count (i ∷ rest) ≡ 0 = omega arith in ap (fetch (i ∷ rest)) at

  pub begins_cons : (n : ℕ) → BeginsBack rest n → BeginsBack (i ∷ rest) n
  begins_cons n b = record { inside = omega (arith, b.inside); insn = b.insn; begins = fetch_cons_back n b.inside ∙ b.begins }

  pub lands_cons : (n : ℕ) (d : ℤ) → LandsBack rest n d → LandsBack (i ∷ rest) n d
  lands_cons n d l = record { place = l.place; begins = begins_cons l.place l.begins; ahead = l.ahead; is = l.is; at = l.at }

begins_same : (i j : Insn) → Begins i ≡ Begins j → i ≡ j
begins_same i j e = cc

begins_is_not_inside : (i : Insn) → Begins i ≡ Inside → ⊥
begins_is_not_inside i e = absurd cc

-- an instruction that begins before the rest is the first one
first_only : (i j : Insn) (rest : List Insn) (n : ℕ) → n ≤ slot_count (i ∷ rest) → slot_count rest < n → fetch_back (i ∷ rest) n ≡ Begins j → (n ≡ slot_count (i ∷ rest)) × (i ≡ j)
first_only i j rest n le lt e =
    elim (cases_lt n (slot_count (i ∷ rest))) [
      | inl before ↦ absurd (begins_is_not_inside j (sym e ∙ fetch_between (i ∷ rest) (record { slot = 0; index = 0 }) (at_start (i ∷ rest)) insn.Exit (omega arith) (slot_count (i ∷ rest) - n) (omega arith) (omega arith)))
      | inr ge ↦
          let is : n ≡ slot_count (i ∷ rest) = omega arith in
          (is, begins_same i j (sym (fetch_first_back i rest) ∙ ap (fetch_back (i ∷ rest)) (sym is) ∙ e))
    ]

no_distance : (d : ℤ) → ◌≡◌ {A = Option ℤ} None (Some d) → ⊥
no_distance d e = absurd cc

-- a jump has one slot
pub jump_slots : (i : Insn) (d : ℤ) → flow_distance (flow_of i) ≡ Some d → slots_of i ≡ 1
jump_slots (insn.LoadImm dst n) d e = absurd (no_distance d e)
jump_slots i d e = refl

pub jumps_cons : (i : Insn) (rest : List Insn) → JumpsAhead rest → LandsBefore rest i → JumpsAhead (i ∷ rest)
jumps_cons i rest ahead here n j d le e jump =
    elim (cases_lt (slot_count rest) n) [
      | inl lt ↦
          let first = first_only i j rest n le lt e in
          let jumps : flow_distance (flow_of i) ≡ Some d = ap (λ (k : Insn). flow_distance (flow_of k)) first.1 ∙ jump in
          let at : slot_count rest + 1 ≡ n = omega (arith, first.0, jump_slots i d jumps) in
          lands_cons i rest n d (subst (λ (k : ℕ). LandsBack rest k d) at (here d jumps))
      | inr ge ↦ lands_cons i rest n d (ahead n j d ge (sym (fetch_cons_back i rest n ge) ∙ e) jump)
    ]

-- a tail with one instruction more
pub grown : (old new : Tail) (i : Insn) → IsTail old → Fits i → LandsBefore (tail_list old) i → tail_list new ≡ i ∷ tail_list old → new.slots ≡ old.slots + slots_of i → new.slots ≤ MAX_SLOTS → IsTail new
grown old new i is fits lands list slots few =
    let count : slot_count (tail_list new) ≡ slots_of i + slot_count (tail_list old) = ap slot_count list in
    record {
      count = omega (arith, count, slots, is.count);
      few = omega (arith, count, slots, is.count, few);
      fit = subst AllFit (sym list) (fits, is.fit);
      jumps = subst JumpsAhead (sym list) (jumps_cons i (tail_list old) is.jumps lands);
    }

-- ---- targets

not_back : (a b : ℤ) → b <ℤ a → int_le a b ≡ false
not_back a b h = grind (arith, ints)

-- a jump that lands ahead has a target
pub target_back : (rest : List Insn) (n place ahead : ℕ) → n ≤ slot_count rest → BeginsBack rest place → n ≡ place + 1 + ahead → target rest (slot_count rest - n) (pos ahead) ≡ Ok (slot_count rest - place)
target_back rest n place ahead le begins at =
    let slot : ℕ = slot_count rest - n in
    let landed : unsigned_abs (pos (slot + 1) +ℤ pos ahead) ≡ slot_count rest - place = omega (arith, ints) in
    let on : pos slot <ℤ (pos (slot + 1) +ℤ pos ahead) = omega (arith, ints) in
    ap (λ (back : Bool). if back then Err JumpBackward else landing (fetch rest (unsigned_abs (pos (slot + 1) +ℤ pos ahead))) (unsigned_abs (pos (slot + 1) +ℤ pos ahead))) (not_back (pos (slot + 1) +ℤ pos ahead) (pos slot) on)
    ∙ ap (λ (g : ℕ). landing (fetch rest g) g) landed
    ∙ ap (λ (f : Fetched). landing f (slot_count rest - place)) begins.begins

-- ---- lists that are kept in reverse

pub reverse_push : {X : Type 0} (xs : List X) (x : X) → reverse (xs ++ x ∷ []) ≡ x ∷ reverse xs
reverse_push xs x = reverse-append xs (x ∷ [])
