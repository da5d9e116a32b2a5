-- Meaning. The lines of an explanation, and the instruction with which each begins.
use Rattle.std.specs.Prelude.{◌≡◌, ℕ, Bool, ◌-◌, ◌==◌, ◌⊎◌, false, List, [], ◌∷◌, ◌++◌, length, take, flat_map, codes, decimal, Option, Result, Err}
use Rattle.std.specs.List.{list_any, before_first, repeat}
use Rattle.std.specs.Io.KnownBytes.{Appends}
use Rattle.insn.specs.Encoding.{Encodes}
use Rattle.insn.specs.Refusal.{IsRefused}
use Rattle.insn.specs.Spelling.{spelling}
use Rattle.insn.specs.declared.instruction.Insn.{Insn}
use Rattle.insn.specs.declared.refusal.DecodeError.{DecodeError}
use Rattle.interval.specs.Intervals.{interval_ops, LiesBetween}
use Rattle.loader.specs.Loads.{IsMemoryRefusal}
use Rattle.loader.specs.declared.loaded.TheConstants.{BUDGET}
use Rattle.loader.specs.declared.refusal.LoadError.TheVariants.{Verify}
use Rattle.verifier.specs.Refusing.{CountsSteps}
use Rattle.verifier.specs.Walks.{EndsWalk}
use Rattle.verifier.specs.declared.walk.Verified.{Verified}
use Rattle.interval.specs.declared.interval.Interval.{Interval}
use Rattle.semantics.specs.Slots.{fetch}
use Rattle.semantics.specs.declared.fetching.Fetched.{Fetched}
use Rattle.semantics.specs.declared.fetching.Fetched.TheVariants.{Begins, Inside, Past}
use Rattle.verifier.specs.declared.refusal.Refusal.{Refusal}
use Rattle.verifier.specs.declared.refusal.Refusal.TheVariants.{Stuck, Budget, Memory}
use Rattle.verifier.specs.declared.walk.Pending.{Pending}
use Rattle.explaining.specs.Paths.{IsStatePath, ShowsRefusal}
use Rattle.explaining.specs.declared.file.Explained.{Explained}
use Rattle.explaining.specs.declared.file.Explained.TheVariants.{Accepted, Refused}

abbrev pub is_newline : ℕ → Bool
is_newline byte = byte == 10

-- ---- one line

-- an instruction with its slot
abbrev pub step_text : ℕ → Insn → List ℕ
step_text slot i = decimal slot ++ codes " " ++ spelling i

-- what comes after it: the first line of a note, at a column of its own, where there is one
abbrev pub note_text : ℕ → List ℕ → List ℕ
note_text columns [] = []
note_text columns note = repeat (25 - columns) (codes " ") ++ codes " ; " ++ note

abbrev pub line_text : ℕ → Insn → List ℕ → List ℕ
line_text slot i note = step_text slot i ++ note_text (length (step_text slot i)) (before_first is_newline note) ++ codes "\n"

-- ---- lines

-- each line begins with a text, after which comes no line feed but at its end
abbrev pub BeginLines : List (List ℕ) → List ℕ → Type 0
BeginLines [] text = text ≡ []
BeginLines (first ∷ others) text = (note rest : List ℕ) × ((text ≡ (first ++ note ++ codes "\n") ++ rest)
    × ((list_any is_newline note ≡ false) × BeginLines others rest))

-- such lines are appended
abbrev pub AppendsLines : List (List ℕ) → Option (List ℕ) → Option (List ℕ) → Type 0
AppendsLines firsts old new = (text : List ℕ) × (BeginLines firsts text × Appends old new text)

abbrev pub AppendsText : Option (List ℕ) → Option (List ℕ) → Type 0
AppendsText old new = (text : List ℕ) × Appends old new text

-- ---- paths

-- the instruction that begins at a slot, with the slot, where one does
abbrev pub step_begun : Fetched → ℕ → List (List ℕ)
step_begun (Begins i) slot = step_text slot i ∷ []
step_begun Inside slot = []
step_begun Past slot = []

abbrev pub step_at : List Insn → ℕ → List (List ℕ)
step_at code slot = step_begun (fetch code slot) slot

-- those at the slots of the states of a path
abbrev pub steps_of : {D : Type 0} → List Insn → List (Pending D) → List (List ℕ)
steps_of code path = flat_map (λ p. step_at code p.slot) path

-- the states of a path from which a step was made
abbrev pub made_of : {D : Type 0} → List (Pending D) → List (Pending D)
made_of path = take (length path - 1) path

abbrev pub refusal_slot : Refusal → ℕ
refusal_slot (Stuck reason slot) = slot
refusal_slot (Budget slot) = slot
refusal_slot (Memory slot) = slot

-- the refusal with which the walk over the paths of a program ends, within the budget; memory hasn't run out
pub record IsRefusalOf (code : List Insn) (e : Refusal) : Type 0 where
  pub made : ℕ
  pub walked : EndsWalk {T = Verified} interval_ops LiesBetween code 0 made (Err e)
  pub counts : CountsSteps {T = Verified} BUDGET 0 made (Err e)
  pub other : IsMemoryRefusal (Verify e) → ⊥

-- what the walk has come to, after all of its steps
abbrev pub HasWalked : List Insn → Result Verified Refusal → Type 0
HasWalked code result = (made : ℕ) × (EndsWalk interval_ops LiesBetween code 0 made result × CountsSteps BUDGET 0 made result)

-- after the lines come the slots with most steps, where the steps are used up, and else nothing
abbrev pub IsRest : Refusal → List ℕ → Type 0
IsRest (Budget slot) text = Unit {0}
IsRest refusal text = text ≡ []

-- A refusal of a program is explained by the lines of a path that shows it: one for each step of the path, and one for the
-- instruction at the slot that it names.
pub record ExplainsRefusal (code : List Insn) (old new : Option (List ℕ)) : Type 0 where
  pub refusal : Refusal
  pub is_refusal : IsRefusalOf code refusal
  pub path : List (Pending Interval)
  pub is_path : IsStatePath interval_ops code path
  pub shows : ShowsRefusal code path refusal
  pub lines : List ℕ
  pub rest : List ℕ
  pub begin_lines : BeginLines (steps_of code (made_of path) ++ step_at code (refusal_slot refusal)) lines
  pub is_rest : IsRest refusal rest
  pub appends : Appends old new (lines ++ rest)

-- where the program is refused, it is explained
abbrev pub ExplainsCode : List Insn → Option (List ℕ) → Option (List ℕ) → Explained → Type 0
ExplainsCode code old new (Accepted cost effort) = Unit {0}
ExplainsCode code old new Refused = ExplainsRefusal code old new

-- so is that of a file, unless it encodes no program
abbrev pub ExplainsFile : List ℕ → Option (List ℕ) → Option (List ℕ) → Explained → Type 0
ExplainsFile file old new (Accepted cost effort) = Unit {0}
ExplainsFile file old new Refused = ((code : List Insn) × (Encodes code file × ExplainsRefusal code old new)) ⊎ ((e : DecodeError) × IsRefused file e)
