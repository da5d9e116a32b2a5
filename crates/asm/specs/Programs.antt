-- Meaning. The instructions that a text names, and why a text names none, with the texts of these refusals.
use Rattle.std.specs.Prelude.{◌≡◌, ℕ, ◌+◌, ◌≤◌, ◌<◌, true, ◌⊎◌, pos, ◌-ℤ◌, List, [], ◌∷◌, ◌++◌, length, codes, decimal, bytes_eq, Option, Some, None, is_some, option_map, option_and_then, if◌then◌else◌}
use Rattle.std.specs.List.{AllZip, AllByRecursion}
use Rattle.insn.specs.Encoding.{slots_of, Fits, slot_count, encodings}
use Rattle.insn.specs.Jumps.{with_distance}
use Rattle.insn.specs.declared.decoding.TheConstants.{MAX_SLOTS}
use Rattle.insn.specs.declared.instruction.Insn.{Insn}
use Rattle.asm.specs.Lines.{Token, lines_of, HasTokens}
use Rattle.asm.specs.Statements.{Name, Statement, Labelled, Instruction, Says}
use Rattle.asm.specs.declared.program.InsnLine.{InsnLine}
use Rattle.asm.specs.declared.refusal.AsmError.{AsmError}
use Rattle.asm.specs.declared.refusal.AsmError.TheVariants as error

-- ---- lines

-- a line says this
pub record Means (line : List ℕ) (said : Option Statement) : Type 0 where
  pub tokens : List Token
  pub has : HasTokens line tokens
  pub says : Says said tokens

-- the numbers of an instruction fit its fields
abbrev pub IsInRange : Option Statement → Type 0
IsInRange None = Unit {0}
IsInRange (Some (Labelled name)) = Unit {0}
IsInRange (Some (Instruction i target)) = Fits i

-- the labels, in their order
abbrev pub labels : List (Option Statement) → List Name
labels [] = []
labels (None ∷ more) = labels more
labels (Some (Labelled name) ∷ more) = name ∷ labels more
labels (Some (Instruction i target) ∷ more) = labels more

abbrev pub IsNameAmong : Name → List Name → Type 0
IsNameAmong name [] = ⊥
IsNameAmong name (n ∷ more) = (name ≡ n) ⊎ IsNameAmong name more

abbrev pub AreDistinct : List Name → Type 0
AreDistinct [] = Unit {0}
AreDistinct (name ∷ more) = (IsNameAmong name more → ⊥) × AreDistinct more

-- the lines say this, without a fault of their own: each is in the grammar, its numbers fit, and no label is there twice
pub record AreRead (lines : List (List ℕ)) (said : List (Option Statement)) : Type 0 where
  pub each : AllZip Means lines said
  pub fit : AllByRecursion IsInRange said
  pub distinct : AreDistinct (labels said)

-- ---- slots and labels

abbrev pub slots_in : List (Option Statement) → ℕ
slots_in [] = 0
slots_in (None ∷ more) = slots_in more
slots_in (Some (Labelled name) ∷ more) = slots_in more
slots_in (Some (Instruction i target) ∷ more) = slots_of i + slots_in more

-- the slot of a label, which is that of the next instruction; the first line has the slot given
abbrev pub slot_from : ℕ → List (Option Statement) → Name → Option ℕ
slot_from slot [] name = None
slot_from slot (None ∷ more) name = slot_from slot more name
slot_from slot (Some (Labelled n) ∷ more) name = if bytes_eq n name then Some slot else slot_from slot more name
slot_from slot (Some (Instruction i target) ∷ more) name = slot_from (slot + slots_of i) more name

abbrev pub slot_of_label : List (Option Statement) → Name → Option ℕ
slot_of_label said name = slot_from 0 said name

-- a distance counts from the slot after the jump
abbrev pub linked_one : (Name → Option ℕ) → ℕ → Insn → Option Name → Option Insn
linked_one label_slots slot i None = Some i
linked_one label_slots slot i (Some name) = option_map (λ p. with_distance i (pos p -ℤ pos (slot + 1))) (label_slots name)

-- the instructions, each jump to a label with its distance; none where a label is unknown
abbrev pub instructions_of : (Name → Option ℕ) → ℕ → List (Option Statement) → Option (List Insn)
instructions_of label_slots slot [] = Some []
instructions_of label_slots slot (None ∷ more) = instructions_of label_slots slot more
instructions_of label_slots slot (Some (Labelled name) ∷ more) = instructions_of label_slots slot more
instructions_of label_slots slot (Some (Instruction i target) ∷ more) = option_and_then
    (λ j. option_map (λ code. j ∷ code) (instructions_of label_slots (slot + slots_of i) more)) (linked_one label_slots slot i target)

-- the slot and the number of the line of each instruction; the first line has the slot and the number given
abbrev pub insn_lines : ℕ → ℕ → List (Option Statement) → List InsnLine
insn_lines slot line [] = []
insn_lines slot line (None ∷ more) = insn_lines slot (line + 1) more
insn_lines slot line (Some (Labelled name) ∷ more) = insn_lines slot (line + 1) more
insn_lines slot line (Some (Instruction i target) ∷ more) = record { slot = slot; line = line } ∷ insn_lines (slot + slots_of i) (line + 1) more

-- ---- texts

-- a text names these instructions
pub record Names (text : List ℕ) (code : List Insn) : Type 0 where
  pub said : List (Option Statement)
  pub read : AreRead (lines_of text) said
  pub linked : instructions_of (slot_of_label said) 0 said ≡ Some code

-- the bytes are the encoding of a program of at most 4,096 slots that the text names
pub record IsAssembled (text bytes : List ℕ) : Type 0 where
  pub code : List Insn
  pub named : Names text code
  pub few : slot_count code ≤ MAX_SLOTS
  pub spelled : bytes ≡ encodings code

-- the instructions of a text are at these slots, and on these of its lines, of which the first is line 1
pub record AreInsnLines (text : List ℕ) (lines : List InsnLine) : Type 0 where
  pub said : List (Option Statement)
  pub read : AreRead (lines_of text) said
  pub are : lines ≡ insn_lines 0 1 said

-- ---- refusals

-- the lines before the n-th have no fault, and of the n-th this holds
pub record StopsAt (text : List ℕ) (n : ℕ) (Fault : List (Option Statement) → List ℕ → Type 0) : Type 0 where
  pub before : List (List ℕ)
  pub line : List ℕ
  pub after : List (List ℕ)
  pub split : lines_of text ≡ before ++ line ∷ after
  pub count : n ≡ length before + 1
  pub said : List (Option Statement)
  pub read : AreRead before said
  pub fault : Fault said line

-- the line is not in the grammar
abbrev pub IsNoLine : List (Option Statement) → List ℕ → Type 0
IsNoLine said line = (s : Option Statement) → Means line s → ⊥

-- a number of the line does not fit
abbrev pub IsOutOfRange : List (Option Statement) → List ℕ → Type 0
IsOutOfRange said line = (s : Option Statement) × Means line s × (IsInRange s → ⊥)

-- the line is a label that comes before it already
abbrev pub IsRepeated : List (Option Statement) → List ℕ → Type 0
IsRepeated said line = (name : Name) × Means line (Some (Labelled name)) × IsNameAmong name (labels said)

-- the n-th line is the first whose target is unknown
pub record LacksLabel (said : List (Option Statement)) (n : ℕ) : Type 0 where
  pub before : List (Option Statement)
  pub insn : Insn
  pub name : Name
  pub after : List (Option Statement)
  pub split : said ≡ before ++ Some (Instruction insn (Some name)) ∷ after
  pub count : n ≡ length before + 1
  pub known : is_some (instructions_of (slot_of_label said) 0 before) ≡ true
  pub unknown : slot_of_label said name ≡ None

-- The faults of lines come first, in the order of the lines; then the number of slots; then the first unknown label.
abbrev pub IsRefusedText : List ℕ → AsmError → Type 0
IsRefusedText text (error.Syntax n) = StopsAt text n IsNoLine
IsRefusedText text (error.Range n) = StopsAt text n IsOutOfRange
IsRefusedText text (error.DoubleLabel n) = StopsAt text n IsRepeated
IsRefusedText text error.TooLong = (said : List (Option Statement)) × AreRead (lines_of text) said × (MAX_SLOTS < slots_in said)
IsRefusedText text (error.UnknownLabel n) = (said : List (Option Statement)) × AreRead (lines_of text) said × (slots_in said ≤ MAX_SLOTS)
    × LacksLabel said n
IsRefusedText text error.Memory = ⊥

-- the text of a refusal: its code, and the line where it has one
abbrev pub asm_error_text : AsmError → List ℕ
asm_error_text (error.Syntax line) = codes "L1 at line " ++ decimal line
asm_error_text (error.Range line) = codes "L2 at line " ++ decimal line
asm_error_text (error.UnknownLabel line) = codes "L3 at line " ++ decimal line
asm_error_text (error.DoubleLabel line) = codes "L4 at line " ++ decimal line
asm_error_text error.TooLong = codes "L5"
asm_error_text error.Memory = codes "L6"
