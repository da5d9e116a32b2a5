-- Internal. The text of a program names the instructions of the program.
pub mod Words
pub mod Arguments
pub mod Spellings
use Rattle.std.proofs.Common.{◌≡◌, ℕ, ◌+◌, false, List, [], ◌∷◌, Option, Some, None, refl, sym, ap, ◌∙◌, subst, append_assoc}
use Rattle.std.specs.Prelude.{codes, ◌==◌, option_map}
use Rattle.std.specs.List.{AllZip, AllByRecursion}
use Rattle.std.proofs.lemmas.List.Elements.{All-from_recursion}
use Rattle.std.proofs.lemmas.List.Splits.{slice_split_at}
use Rattle.insn.specs.Encoding.{Fits, AllFit, slots_of}
use Rattle.insn.specs.Spelling.{spelling, listing}
use Rattle.insn.specs.declared.instruction.Insn.{Insn}
use Rattle.asm.specs.Lines.{lines_of}
use Rattle.asm.specs.Statements.{Name, Statement, Instruction}
use Rattle.asm.specs.Programs.{Means, IsInRange, labels, AreDistinct, instructions_of, slot_of_label, Names}
use Rattle.asm.specs.laws.Grammar.{read_line_means}
use Rattle.asm.specs.laws.Listing.Spellings.{spelling_means, spelling_has_no_feed}

-- what the lines of a program's text say: an instruction each, and the empty line at the end nothing
abbrev pub statements_of : List Insn → List (Option Statement)
statements_of [] = None ∷ []
statements_of (i ∷ code) = Some (Instruction i None) ∷ statements_of code

-- the first line is the first instruction's spelling
first_line : (i : Insn) (code : List Insn) → Fits i
    → lines_of (listing (i ∷ code)) ≡ spelling i ∷ lines_of (listing code)
first_line i code fits =
    ap lines_of (append_assoc (spelling i) (codes "\n") (listing code))
    ∙ slice_split_at (λ c. c == 10) (spelling i) 10 (listing code)
    (All-from_recursion (λ c. (c == 10) ≡ false) (spelling i) (spelling_has_no_feed i fits)) refl

-- each line says its statement
each_means : (code : List Insn) → AllFit code → AllZip Means (lines_of (listing code)) (statements_of code)
each_means [] fit = (read_line_means [] None refl, tt)
each_means (i ∷ code) fit =
    subst (λ (lines : List (List ℕ)). AllZip Means lines (statements_of (i ∷ code))) (sym (first_line i code fit.0))
    (spelling_means i fit.0, each_means code fit.1)

-- the numbers of each statement fit
each_fits : (code : List Insn) → AllFit code → AllByRecursion IsInRange (statements_of code)
each_fits [] fit = (tt, tt)
each_fits (i ∷ code) fit = (fit.0, each_fits code fit.1)

-- no label is there twice, as there is none
no_label_twice : (code : List Insn) → AreDistinct (labels (statements_of code))
no_label_twice [] = tt
no_label_twice (i ∷ code) = no_label_twice code

-- each instruction is kept as it is
each_linked : (label_slots : Name → Option ℕ) (slot : ℕ) (code : List Insn)
    → instructions_of label_slots slot (statements_of code) ≡ Some code
each_linked label_slots slot [] = refl
each_linked label_slots slot (i ∷ code) =
    ap (option_map (λ (more : List Insn). i ∷ more)) (each_linked label_slots (slot + slots_of i) code)

-- the text of a program names its instructions
pub listing_names : (code : List Insn) → AllFit code → Names (listing code) code
listing_names code fit = record {
  said = statements_of code;
  read = record { each = each_means code fit; fit = each_fits code fit; distinct = no_label_twice code };
  linked = each_linked (slot_of_label (statements_of code)) 0 code;
}
