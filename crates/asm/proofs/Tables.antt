-- A table of labels, line by line.
use Rattle.std.proofs.Common.{◌≡◌, refl, ℕ, ◌+◌, Bool, true, false, List, [], ◌∷◌, ◌++◌, Option, Some, None, cond, nat_eq, sym, ap, ◌∙◌, arith, subst, Bor, inl, inr}
use Rattle.std.specs.Prelude.{min, is_some, option_map, bytes_eq}
use Rattle.std.specs.Cmp.Lexicographic.{pointwise}
use Rattle.std.proofs.lemmas.Bool.{true≢false, false≢true}
use Rattle.std.proofs.lemmas.Slice.Eq.{bytes_eq-Decides}
use Rattle.indexmap.specs.IndexMap.{get}
use Rattle.insn.specs.Encoding.{slots_of}
use Rattle.insn.specs.declared.decoding.TheConstants.{MAX_SLOTS}
use Rattle.insn.specs.declared.instruction.Insn.{Insn}
use Rattle.asm.specs.Statements.{Name, Statement, Labelled, Instruction}
use Rattle.asm.specs.Programs.{labels, IsNameAmong, slots_in, slot_from, slot_of_label}
use Rattle.asm.specs.Reading.{or_else}
use Rattle.asm.specs.Scanning.{slots_up_to_limit, Holds}
use Rattle.asm.specs.declared.table.Table.{Table}

-- ---- slots and label_slots of one line more

pub slots_more : (said : List (Option Statement)) (s : Option Statement) → slots_in (said ++ s ∷ []) ≡ slots_in said + slots_in (s ∷ [])
slots_more [] s = omega arith
slots_more (None ∷ said) s = slots_more said s
slots_more (Some (Labelled n) ∷ said) s = slots_more said s
slots_more (Some (Instruction i t) ∷ said) s = omega (arith, slots_more said s)

pub place_more : (slot : ℕ) (said : List (Option Statement)) (s : Option Statement) (name : Name)
    → slot_from slot (said ++ s ∷ []) name ≡ or_else (slot_from slot said name) (slot_from (slot + slots_in said) (s ∷ []) name)
place_more slot [] s name = ap (λ k. slot_from k (s ∷ []) name) (omega arith)
place_more slot (None ∷ said) s name = place_more slot said s name
place_more slot (Some (Labelled n) ∷ said) s name = by_name (bytes_eq n name) (place_more slot said s name)
  where
    by_name : (b : Bool) → slot_from slot (said ++ s ∷ []) name ≡ or_else (slot_from slot said name) (slot_from (slot + slots_in said) (s ∷ []) name)
        → cond b (Some slot) (slot_from slot (said ++ s ∷ []) name) ≡ or_else (cond b (Some slot) (slot_from slot said name)) (slot_from (slot + slots_in said) (s ∷ []) name)
    by_name true more = refl
    by_name false more = more
place_more slot (Some (Instruction i t) ∷ said) s name = place_more (slot + slots_of i) said s name
    ∙ ap (λ k. or_else (slot_from (slot + slots_of i) said name) (slot_from k (s ∷ []) name)) (omega arith)

-- ---- labels that are in lines have a place

pub place_known : (slot : ℕ) (said : List (Option Statement)) (name : Name) → is_some (slot_from slot said name) ≡ true → IsNameAmong name (labels said)
place_known slot [] name e = absurd (false≢true e)
place_known slot (None ∷ said) name e = place_known slot said name e
place_known slot (Some (Labelled n) ∷ said) name e = by_name (bytes_eq n name) refl e (place_known slot said name)
  where
    by_name : (b : Bool) → bytes_eq n name ≡ b → is_some (cond b (Some slot) (slot_from slot said name)) ≡ true
        → (is_some (slot_from slot said name) ≡ true → IsNameAmong name (labels said)) → IsNameAmong name (n ∷ labels said)
    by_name true same e after = inl (sym ((bytes_eq-Decides n name).0 same))
    by_name false other e after = inr (after e)
place_known slot (Some (Instruction i t) ∷ said) name e = place_known (slot + slots_of i) said name e

pub place_unknown : (slot : ℕ) (said : List (Option Statement)) (name : Name) → is_some (slot_from slot said name) ≡ false → IsNameAmong name (labels said) → ⊥
place_unknown slot [] name e among = among
place_unknown slot (None ∷ said) name e among = place_unknown slot said name e among
place_unknown slot (Some (Labelled n) ∷ said) name e among = by_name (bytes_eq n name) refl e among (place_unknown slot said name)
  where
    by_name : (b : Bool) → bytes_eq n name ≡ b → is_some (cond b (Some slot) (slot_from slot said name)) ≡ false → IsNameAmong name (n ∷ labels said)
        → (is_some (slot_from slot said name) ≡ false → IsNameAmong name (labels said) → ⊥) → ⊥
    by_name true same e among after = true≢false e
    by_name false other e (inl is) after = true≢false (sym ((bytes_eq-Decides n name).1 (sym is)) ∙ other)
    by_name false other e (inr among) after = after e among
place_unknown slot (Some (Instruction i t) ∷ said) name e among = place_unknown (slot + slots_of i) said name e among

-- ---- tables

abbrev pub same : Bor (List ℕ) → Bor (List ℕ) → Bool
same x y = pointwise nat_eq x.now y.now

some_capped : (o : Option ℕ) → is_some (option_map slots_up_to_limit o) ≡ is_some o
some_capped None = refl
some_capped (Some n) = refl

-- a key that is there is a label that comes before
pub known_label : (table : Table) (said : List (Option Statement)) (name : Bor (List ℕ)) → Holds table said
    → is_some (get same table.label_slots name) ≡ true → IsNameAmong name.now (labels said)
known_label table said name holds there = place_known 0 said name.now (sym (some_capped _) ∙ ap is_some (sym (holds.label_slots name)) ∙ there)

or_none : {X : Type 0} (o : Option X) → or_else o None ≡ o
or_none None = refl
or_none (Some x) = refl

none_of : {X : Type 0} (o : Option X) → is_some o ≡ false → o ≡ None
none_of None e = refl
none_of (Some x) e = absurd (true≢false e)

-- a label at the end
place_labelled : (said : List (Option Statement)) (n q : Name) (o : Option ℕ) (b : Bool) → slot_of_label said q ≡ o → bytes_eq n q ≡ b
    → slot_of_label (said ++ Some (Labelled n) ∷ []) q ≡ or_else o (cond b (Some (slots_in said)) None)
place_labelled said n q o b is same = place_more 0 said (Some (Labelled n)) q
    ∙ ap (λ x. or_else x (slot_from (0 + slots_in said) (Some (Labelled n) ∷ []) q)) is
    ∙ ap (λ k. or_else o (slot_from k (Some (Labelled n) ∷ []) q)) (omega arith)
    ∙ ap (λ c. or_else o (cond c (Some (slots_in said)) None)) same

-- a line that is no label leaves the label_slots
pub place_kept : (said : List (Option Statement)) (s : Option Statement) (q : Name) → ((k : ℕ) → slot_from k (s ∷ []) q ≡ None)
    → slot_of_label (said ++ s ∷ []) q ≡ slot_of_label said q
place_kept said s q none = place_more 0 said s q ∙ ap (λ x. or_else (slot_of_label said q) x) (none _) ∙ or_none (slot_of_label said q)

-- the table with one label more
pub label_added : (table new : Table) (said : List (Option Statement)) (name : Bor (List ℕ)) → Holds table said
    → is_some (get same table.label_slots name) ≡ false
    → ((q : Bor (List ℕ)) → get same new.label_slots q ≡ cond (same name q) (Some table.slots) (get same table.label_slots q)) → new.slots ≡ table.slots
    → Holds new (said ++ Some (Labelled name.now) ∷ []) × (IsNameAmong name.now (labels said) → ⊥)
label_added table new said name holds none updated slots = (
  record {
    slots = slots ∙ holds.slots ∙ ap slots_up_to_limit (sym (slots_more said (Some (Labelled name.now)) ∙ none_more _));
    label_slots = λ q. updated q ∙ by_name q (same name q) refl;
  },
  place_unknown 0 said name.now absent,
)
  where
    none_more : (n : ℕ) → n + 0 ≡ n
    none_more n = omega arith

    absent : is_some (slot_of_label said name.now) ≡ false
    absent = sym (some_capped _) ∙ ap is_some (sym (holds.label_slots name)) ∙ none

    no_place : (q : Bor (List ℕ)) → same name q ≡ true → slot_of_label said q.now ≡ None
    no_place q e = none_of _ (subst (λ w. is_some (slot_of_label said w) ≡ false) ((bytes_eq-Decides name.now q.now).0 e) absent)

    by_name : (q : Bor (List ℕ)) (b : Bool) → same name q ≡ b
        → cond b (Some table.slots) (get same table.label_slots q) ≡ option_map slots_up_to_limit (slot_of_label (said ++ Some (Labelled name.now) ∷ []) q.now)
    by_name q true e = ap (λ k. Some k) holds.slots
        ∙ sym (ap (λ o. option_map slots_up_to_limit o) (place_labelled said name.now q.now None true (no_place q e) e))
    by_name q false e = holds.label_slots q
        ∙ sym (ap (λ o. option_map slots_up_to_limit o) (place_labelled said name.now q.now (slot_of_label said q.now) false refl e ∙ or_none (slot_of_label said q.now)))

-- the table after an instruction
pub insn_added : (table new : Table) (said : List (Option Statement)) (i : Insn) (target : Option Name) → Holds table said
    → new.label_slots ≡ table.label_slots → new.slots ≡ min (table.slots + slots_of i) (MAX_SLOTS + 1) → Holds new (said ++ Some (Instruction i target) ∷ [])
insn_added table new said i target holds label_slots slots = record {
  slots = omega (arith, slots, holds.slots, slots_more said (Some (Instruction i target)));
  label_slots = λ q. ap (λ m. get same m q) label_slots ∙ holds.label_slots q
      ∙ sym (ap (λ o. option_map slots_up_to_limit o) (place_kept said (Some (Instruction i target)) q.now (λ k. refl)));
}

-- the table after an empty line
pub nothing_added : (table : Table) (said : List (Option Statement)) → Holds table said → Holds table (said ++ None ∷ [])
nothing_added table said holds = record {
  slots = omega (arith, holds.slots, slots_more said None);
  label_slots = λ q. holds.label_slots q ∙ sym (ap (λ o. option_map slots_up_to_limit o) (place_kept said None q.now (λ k. refl)));
}
