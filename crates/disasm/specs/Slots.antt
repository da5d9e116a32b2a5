-- Meaning. The text of a program with the slot of each instruction.
use Rattle.std.specs.Prelude.{ℕ, ◌+◌, List, [], ◌∷◌, ◌++◌, codes, decimal}
use Rattle.insn.specs.Encoding.{slots_of}
use Rattle.insn.specs.Spelling.{spelling}
use Rattle.insn.specs.declared.instruction.Insn.{Insn}

-- an instruction and its slot, which is a comment to the assembler
abbrev pub line_with_slot : ℕ → Insn → List ℕ
line_with_slot slot i = spelling i ++ codes " ; " ++ decimal slot ++ codes "\n"

-- the instructions from a slot on
abbrev pub listing_from : ℕ → List Insn → List ℕ
listing_from slot [] = []
listing_from slot (i ∷ code) = line_with_slot slot i ++ listing_from (slot + slots_of i) code

abbrev pub listing_with_slots : List Insn → List ℕ
listing_with_slots code = listing_from 0 code
