-- The text with slots of one more instruction, and the slot of the next.
use Rattle.std.proofs.Common.{◌≡◌, ◌∙◌, ◌+◌, ◌≤◌, ◌<◌, ap, sym, arith, ℕ, zero, suc, List, [], ◌∷◌, ◌++◌, length, take, get_or, Fits, w64}
use Rattle.std.proofs.lemmas.List.{append_assoc, append-nil, take_more}
use Rattle.insn.specs.Encoding.{slot_count, slots_of}
use Rattle.insn.specs.declared.decoding.TheConstants.{MAX_SLOTS}
use Rattle.insn.specs.declared.instruction.Insn.{Insn}
use Rattle.insn.proofs.Programs.{slot_count-push}
use Rattle.insn.proofs.TwoSlots.{slots_small}
use Rattle.disasm.specs.Slots.{line_with_slot, listing_from, listing_with_slots}

-- the line of the last instruction has the slot after those before it
listing_from-push : (slot : ℕ) (code : List Insn) (i : Insn)
    → listing_from slot (code ++ i ∷ []) ≡ listing_from slot code ++ line_with_slot (slot + slot_count code) i
listing_from-push slot [] i =
    let same : slot ≡ slot + 0 = omega arith in
    append-nil (line_with_slot slot i) ∙ ap (λ n. line_with_slot n i) same
listing_from-push slot (j ∷ code) i =
    let after = slot + slots_of j in
    let same : after + slot_count code ≡ slot + slot_count (j ∷ code) = omega arith in
    let last = line_with_slot (slot + slot_count (j ∷ code)) i in
    ap (λ text. line_with_slot slot j ++ text) (listing_from-push after code i)
    ∙ ap (λ n. line_with_slot slot j ++ (listing_from after code ++ line_with_slot n i)) same
    ∙ sym (append_assoc (line_with_slot slot j) (listing_from after code) last)

-- the slot after the instruction at a place, and the text up to its line

pub next_slot : (code : List Insn) (k : ℕ) (default : Insn) (slot size : ℕ) → k < length code
    → slot ≡ slot_count (take k code) → size ≡ slots_of (get_or code k default)
    → slot + size ≡ slot_count (take (k + 1) code)
next_slot code k default slot size within before is =
    let more = ap slot_count (take_more code k default within) in
    omega (arith, before, is, more, slot_count-push (take k code) (get_or code k default))

pub next_text : (code : List Insn) (k : ℕ) (default : Insn) (slot : ℕ) (old new : List ℕ) → k < length code
    → slot ≡ slot_count (take k code) → old ≡ listing_with_slots (take k code)
    → new ≡ old ++ line_with_slot slot (get_or code k default) → new ≡ listing_with_slots (take (k + 1) code)
next_text code k default slot old new within before listed written =
    let i = get_or code k default in
    let same : slot ≡ 0 + slot_count (take k code) = omega (arith, before) in
    written ∙ (λ j. listed j ++ line_with_slot (same j) i) ∙ sym (listing_from-push 0 (take k code) i)
    ∙ ap (listing_from 0) (sym (take_more code k default within))

-- the instructions before take no more slots than all of them
slots_before : (code : List Insn) (k : ℕ) → slot_count (take k code) ≤ slot_count code
slots_before code zero = omega arith
slots_before [] (suc k) = omega arith
slots_before (i ∷ code) (suc k) = omega (arith, slots_before code k)

pub slot_fits : (code : List Insn) (k : ℕ) (i : Insn) (slot size : ℕ) → slot ≡ slot_count (take k code)
    → slot_count code ≤ MAX_SLOTS → size ≡ slots_of i → Fits w64 (slot + size)
slot_fits code k i slot size before few is = omega (arith, before, few, is, slots_before code k, slots_small i)
