-- The slots of a program as they are listed: an instruction more.
use Rattle.std.proofs.Common.{◌≡◌, ℕ, ◌+◌, ◌-◌, ◌<◌, ◌≤◌, ◌⊎◌, suc, take, List, [], ◌∷◌, ◌++◌, length, get_or, replicate, Option, Some, None, inl, inr, refl, sym, ap, subst, ◌∙◌, arith}
use Rattle.std.specs.Prelude.{slice_set}
use Rattle.std.proofs.lemmas.Bool.{cases_eq, cases_lt}
use Rattle.std.proofs.lemmas.Grind.{flat_map-append, get_or-set_at}
use Rattle.std.proofs.lemmas.List.{get_or_append_left, get_or_past, get_or-replicate, get_or-set_other, length-replicate, length-set}
use Rattle.std.proofs.Math.Seq.{take-suc}
use Rattle.insn.specs.Encoding.{second_of, optional_slots, slots_of, slot_count}
use Rattle.insn.specs.declared.fields.Fields.{Fields}
use Rattle.insn.specs.declared.instruction.Insn.{Insn}
use Rattle.semantics.specs.Slots.{slots, slots_of_insn, fetch, IsAt}
use Rattle.semantics.specs.declared.fetching.Position.{Position}
use Rattle.semantics.specs.laws.Slot.{at_next, slot_inside, fetch_after, fetch_past, length-slots}
use Rattle.semantics.specs.declared.fetching.Fetched.{Fetched}
use Rattle.semantics.specs.declared.fetching.Fetched.TheVariants.{Begins, Inside, Past}
use Rattle.verifier.specs.Layout.{ListsSlots}

module _ (code : List Insn) (i : Insn) where
  abbrev whole : List Insn
  whole = code ++ i ∷ []

  here : (n : ℕ) → fetch whole (slot_count code + n) ≡ fetch (i ∷ []) n
  here n = fetch_after code (i ∷ []) n

  first : fetch whole (slot_count code) ≡ Begins i
  first = let at : slot_count code ≡ slot_count code + 0 = omega arith in ap (fetch whole) at ∙ here 0

  second : slots_of i ≡ 2 → fetch whole (slot_count code + 1) ≡ Inside
  second two = here 1 ∙ ap (λ (n : ℕ). get_or ((Begins i ∷ replicate (n - 1) Inside) ++ []) 1 Past) two

  -- at other slots there is what there was
  elsewhere : (k : ℕ) → (k < slot_count code) ⊎ (slot_count code + slots_of i ≤ k) → fetch whole k ≡ fetch code k
  elsewhere k (inl before) =
      ap (λ (all : List Fetched). get_or all k Past) (flat_map-append slots_of_insn code (i ∷ []))
      ∙ get_or_append_left (slots code) (slots (i ∷ [])) Past k (omega (arith, before, length-slots code))
  elsewhere k (inr after) =
      let same : k ≡ slot_count code + (k - slot_count code) = omega (arith, after) in
      ap (fetch whole) same ∙ here (k - slot_count code) ∙ fetch_past (i ∷ []) (k - slot_count code) (omega (arith, after))
      ∙ sym (fetch_past code k (omega (arith, after)))

  -- an instruction of one slot
  pub put_one : (all : List Fetched) (at : ℕ) → slots_of i ≡ 1 → slot_count code ≡ at → at < length all → ListsSlots code all → ListsSlots whole (slice_set all at (Begins i))
  put_one all at one is inside lists k = elim (cases_eq k at) [
    | inl same ↦ get_or-set_at all at k (Begins i) Past same inside ∙ sym (ap (fetch whole) (same ∙ sym is) ∙ first)
    | inr differ ↦ get_or-set_other all at k (Begins i) Past differ ∙ lists k ∙ sym (elsewhere k (elim (cases_lt k at) [
      | inl before ↦ inl (omega (arith, before, is))
      | inr after ↦ inr (omega (arith, after, is, one, differ))
    ]))
  ]

  -- and one of two
  pub put_two : (all : List Fetched) (at : ℕ) → slots_of i ≡ 2 → slot_count code ≡ at → at + 1 < length all → ListsSlots code all
      → ListsSlots whole (slice_set (slice_set all at (Begins i)) (at + 1) Inside)
  put_two all at two is inside lists k =
      let begun : List Fetched = slice_set all at (Begins i) in
      let long : at + 1 < length begun = omega (arith, inside, length-set all at (Begins i)) in
      let next : slot_count code + 1 ≡ at + 1 = omega (arith, is) in
      elim (cases_eq k (at + 1)) [
        | inl same ↦ get_or-set_at begun (at + 1) k Inside Past same long ∙ sym (ap (fetch whole) (same ∙ sym next) ∙ second two)
        | inr other ↦ get_or-set_other begun (at + 1) k Inside Past other ∙ elim (cases_eq k at) [
          | inl same ↦ get_or-set_at all at k (Begins i) Past same (omega (arith, inside)) ∙ sym (ap (fetch whole) (same ∙ sym is) ∙ first)
          | inr differ ↦ get_or-set_other all at k (Begins i) Past differ ∙ lists k ∙ sym (elsewhere k (elim (cases_lt k at) [
            | inl before ↦ inl (omega (arith, before, is))
            | inr after ↦ inr (omega (arith, after, is, two, differ, other))
          ]))
        ]
      ]

one_or_two : (second : Option Fields) → (1 + optional_slots second ≡ 1 → ⊥) → 1 + optional_slots second ≡ 2
one_or_two None other = absurd (other refl)
one_or_two (Some f) other = refl

-- an instruction that hasn't one slot has two
pub has_two : (i : Insn) → (slots_of i ≡ 1 → ⊥) → slots_of i ≡ 2
has_two i other = one_or_two (second_of i) other

-- ---- the list as it is made

-- of no program no slot is there
pub none_yet : (n k : ℕ) → get_or (replicate n Past) k Past ≡ Past
none_yet n k = elim (cases_lt k n) [
  | inl lt ↦ get_or-replicate n k Past Past lt
  | inr le ↦ get_or_past (replicate n Past) k Past (let all : length (replicate n Past) ≡ n = length-replicate n Past in omega (arith, all, le))
]

module _ (code : List Insn) (index : ℕ) (d : Insn) (lt : index < length code) where
  abbrev at_index : Position
  at_index = record { slot = slot_count (take index code); index = index }

  is_at : IsAt code at_index
  is_at = record { inside = omega (arith, lt); slot = refl }

  next_at : slot_count (take index code) + slots_of (get_or code index d) ≡ slot_count (take (index + 1) code)
  next_at = (at_next code at_index is_at d lt).slot

  in_program : slot_count (take index code) + slots_of (get_or code index d) ≤ slot_count code
  in_program = slot_inside code (record { slot = slot_count (take index code) + slots_of (get_or code index d); index = index + 1 }) (at_next code at_index is_at d lt)

  one_more : take index code ++ get_or code index d ∷ [] ≡ take (index + 1) code
  one_more = let one : suc index ≡ index + 1 = omega arith in sym (take-suc code index d lt) ∙ ap (λ (k : ℕ). take k code) one

-- an instruction has room where the program has
pub has_room : (code : List Insn) (index at most : ℕ) (d : Insn) → at ≡ slot_count (take index code) → index < length code → slot_count code ≤ most
    → at + slots_of (get_or code index d) ≤ most
has_room code index at most d is lt few = omega (arith, is, in_program code index d lt, few)

-- after it
pub at_after : (code : List Insn) (index at next : ℕ) (d : Insn) → next ≡ at + slots_of (get_or code index d) → at ≡ slot_count (take index code) → index < length code
    → next ≡ slot_count (take (index + 1) code)
at_after code index at next d step is lt = omega (arith, step, is, next_at code index d lt)

pub lists_after : (code : List Insn) (index : ℕ) (d : Insn) (all : List Fetched) → ListsSlots (take index code ++ get_or code index d ∷ []) all → index < length code
    → ListsSlots (take (index + 1) code) all
lists_after code index d all lists lt = subst (λ some. ListsSlots some all) (one_more code index d lt) lists
