-- Internal. What the two passes over the lines of a text keep.
use Rattle.std.specs.Prelude.{◌≡◌, ℕ, ◌+◌, ◌≤◌, ◌<◌, min, List, [], ◌∷◌, ◌++◌, length, nat_eq, Option, Some, None, option_map, Result, Ok, Err}
use Rattle.std.specs.List.{AllZip, AllByRecursion}
use Rattle.std.specs.Cmp.Lexicographic.{pointwise}
use Rattle.indexmap.specs.IndexMap.{get}
use denote.Ref.{Bor}
use Rattle.insn.specs.Encoding.{encodings}
use Rattle.insn.specs.declared.decoding.TheConstants.{MAX_SLOTS}
use Rattle.insn.specs.declared.instruction.Insn.{Insn}
use Rattle.asm.specs.Lines.{lines_of}
use Rattle.asm.specs.Statements.{Statement, Labelled, Instruction}
use Rattle.asm.specs.Programs.{IsInRange, labels, IsNameAmong, AreDistinct, slots_in, slot_of_label, instructions_of, insn_lines, LacksLabel}
use Rattle.asm.specs.Reading.{line_statement}
use Rattle.asm.specs.Parsing.{IsUnfit, UnderstandsLine}
use Rattle.asm.specs.Faults.{fault_at}
use Rattle.asm.specs.declared.refusal.LineError.{LineError}
use Rattle.asm.specs.declared.program.InsnLine.{InsnLine}
use Rattle.asm.specs.declared.refusal.AsmError.{AsmError}
use Rattle.asm.specs.declared.refusal.AsmError.TheVariants as error
use Rattle.asm.specs.declared.table.Table.{Table}

-- the lines after a line feed, if there is one
abbrev pub following_lines : Option (Bor (List ℕ)) → List (List ℕ)
following_lines None = []
following_lines (Some rest) = lines_of rest.now

-- how many lines can follow
abbrev pub lines_left : Option (Bor (List ℕ)) → ℕ
lines_left None = 0
lines_left (Some rest) = length rest.now + 1

-- the first line of a text is read as this, its numbers fit, and these lines follow
pub record TextBegins (text : List ℕ) (s : Option Statement) (rest : List (List ℕ)) : Type 0 where
  pub line : List ℕ
  pub split : lines_of text ≡ line ∷ rest
  pub read : line_statement line ≡ Some s
  pub fit : IsInRange s

-- the first line of a text, which has this number, has a fault
pub record Fails (text : List ℕ) (n : ℕ) (e : AsmError) : Type 0 where
  pub line : List ℕ
  pub rest : List (List ℕ)
  pub split : lines_of text ≡ line ∷ rest
  pub fault : LineError
  pub named : e ≡ fault_at fault n
  pub fails : UnderstandsLine (line_statement line) (Err fault)

-- the lines are read as this, without a fault of their own
pub record AreUnderstood (lines : List (List ℕ)) (said : List (Option Statement)) : Type 0 where
  pub each : AllZip (λ line s. line_statement line ≡ Some s) lines said
  pub fit : AllByRecursion IsInRange said
  pub distinct : AreDistinct (labels said)

-- slots are counted up to one more than a program may have
abbrev pub slots_up_to_limit : ℕ → ℕ
slots_up_to_limit slots = min slots (MAX_SLOTS + 1)

-- a table has the slots, and the slot of each label
pub record Holds (table : Table) (said : List (Option Statement)) : Type 0 where
  pub slots : table.slots ≡ slots_up_to_limit (slots_in said)
  pub label_slots : (name : Bor (List ℕ))
      → get (λ x y. pointwise nat_eq x.now y.now) table.label_slots name ≡ option_map slots_up_to_limit (slot_of_label said name.now)

-- a label is new
abbrev pub IsNewLabel : List (Option Statement) → Option Statement → Type 0
IsNewLabel said None = Unit {0}
IsNewLabel said (Some (Labelled name)) = IsNameAmong name (labels said) → ⊥
IsNewLabel said (Some (Instruction i target)) = Unit {0}

-- a label comes before
abbrev pub IsOld : List (Option Statement) → Option Statement → Type 0
IsOld said None = ⊥
IsOld said (Some (Labelled name)) = IsNameAmong name (labels said)
IsOld said (Some (Instruction i target)) = ⊥

-- a table with what one more line says
abbrev pub Adds : List (Option Statement) → Option Statement → ℕ → Table → Result (Unit {0}) AsmError → Type 0
Adds said s n table (Ok x) = Holds table (said ++ s ∷ []) × IsNewLabel said s
Adds said s n table (Err (error.DoubleLabel m)) = (m ≡ n) × IsOld said s
Adds said s n table (Err error.Memory) = Unit {0}
Adds said s n table (Err (error.Syntax m)) = ⊥
Adds said s n table (Err (error.Range m)) = ⊥
Adds said s n table (Err (error.UnknownLabel m)) = ⊥
Adds said s n table (Err error.TooLong) = ⊥

-- ---- the first pass

-- so many lines are read, these are left, and the table is that of the lines read
pub record IsScanned (lines : List (List ℕ)) (n : ℕ) (rest : List (List ℕ)) (table : Table) : Type 0 where
  pub before : List (List ℕ)
  pub said : List (Option Statement)
  pub split : lines ≡ before ++ rest
  pub count : n ≡ length before
  pub read : AreUnderstood before said
  pub holds : Holds table said

-- the table of a whole text
pub record IsTableOf (text : List ℕ) (table : Table) : Type 0 where
  pub said : List (Option Statement)
  pub read : AreUnderstood (lines_of text) said
  pub few : slots_in said ≤ MAX_SLOTS
  pub holds : Holds table said

-- ---- refusals, in the words of the reader

pub record Halts (lines : List (List ℕ)) (n : ℕ)
    (Fault : List (Option Statement) → Option (Option Statement) → Type 0) : Type 0 where
  pub before : List (List ℕ)
  pub line : List ℕ
  pub after : List (List ℕ)
  pub split : lines ≡ before ++ line ∷ after
  pub count : n ≡ length before + 1
  pub said : List (Option Statement)
  pub read : AreUnderstood before said
  pub fault : Fault said (line_statement line)

abbrev pub IsUnread : List (Option Statement) → Option (Option Statement) → Type 0
IsUnread said statement = statement ≡ None

abbrev pub IsTooLarge : List (Option Statement) → Option (Option Statement) → Type 0
IsTooLarge said statement = IsUnfit statement

abbrev pub IsOldLabel : List (Option Statement) → Option (Option Statement) → Type 0
IsOldLabel said None = ⊥
IsOldLabel said (Some s) = IsOld said s

abbrev pub IsHalted : List (List ℕ) → AsmError → Type 0
IsHalted lines (error.Syntax n) = Halts lines n IsUnread
IsHalted lines (error.Range n) = Halts lines n IsTooLarge
IsHalted lines (error.DoubleLabel n) = Halts lines n IsOldLabel
IsHalted lines error.TooLong = (said : List (Option Statement)) × AreUnderstood lines said × (MAX_SLOTS < slots_in said)
IsHalted lines (error.UnknownLabel n) = (said : List (Option Statement)) × AreUnderstood lines said ×
    (slots_in said ≤ MAX_SLOTS)
    × LacksLabel said n
IsHalted lines error.Memory = Unit {0}

-- ---- the second pass

-- So many lines are read, and these are left. The code so far is that of the lines read, of which the next is at the slot, and so
-- are the lines of the instructions.
pub record IsLinked (lines : List (List ℕ)) (table : Table) (n slot : ℕ) (rest : List (List ℕ))
    (code : List Insn) (numbered : List InsnLine) : Type 0 where
  pub said : List (Option Statement)
  pub read : AreUnderstood lines said
  pub few : slots_in said ≤ MAX_SLOTS
  pub holds : Holds table said
  pub before : List (Option Statement)
  pub after : List (Option Statement)
  pub split : said ≡ before ++ after
  pub ahead : AllZip (λ line s. line_statement line ≡ Some s) rest after
  pub fit : AllByRecursion IsInRange after
  pub count : n ≡ length before
  pub slots : slot ≡ slots_in before
  pub linked : instructions_of (slot_of_label said) 0 before ≡ Some code
  pub are : numbered ≡ insn_lines 0 1 before

-- the instructions of a text without a fault
pub record IsCodeOf (text : List ℕ) (code : List Insn) : Type 0 where
  pub said : List (Option Statement)
  pub read : AreUnderstood (lines_of text) said
  pub few : slots_in said ≤ MAX_SLOTS
  pub linked : instructions_of (slot_of_label said) 0 said ≡ Some code

-- and their lines
pub record AreLinesOf (text : List ℕ) (lines : List InsnLine) : Type 0 where
  pub said : List (Option Statement)
  pub read : AreUnderstood (lines_of text) said
  pub are : lines ≡ insn_lines 0 1 said

-- the bytes are the encoding of those instructions
pub record IsBuilt (text bytes : List ℕ) : Type 0 where
  pub code : List Insn
  pub of : IsCodeOf text code
  pub spelled : bytes ≡ encodings code
