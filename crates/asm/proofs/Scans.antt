-- The first pass over the lines of a text, line by line.
use Rattle.std.proofs.Common.{◌≡◌, refl, ℕ, ◌+◌, List, [], ◌∷◌, ◌++◌, length, Option, Some, None, Ok, Err, sym, ap, ◌∙◌, arith, subst, inl, inr, Bor}
use Rattle.std.specs.Prelude.{◌⊎◌}
use Rattle.std.specs.List.{AllByRecursion}
use Rattle.std.proofs.lemmas.List.{append_assoc, append-nil}
use Rattle.indexmap.proofs.SetLemmas.{AllZip-push}
use Rattle.asm.specs.Lines.{lines_of}
use Rattle.asm.specs.Statements.{Name, Statement, Labelled, Instruction}
use Rattle.asm.specs.Programs.{IsInRange, labels, IsNameAmong, AreDistinct}
use Rattle.asm.specs.Reading.{line_statement}
use Rattle.asm.specs.Parsing.{UnderstandsLine}
use Rattle.asm.specs.Faults.{fault_at}
use Rattle.asm.specs.Scanning.{AreUnderstood, Holds, IsNewLabel, Adds, IsScanned, IsHalted, following_lines, TextBegins, Fails, Halts, IsUnread, IsTooLarge}
use Rattle.asm.specs.declared.refusal.LineError.{LineError}
use Rattle.asm.specs.declared.refusal.LineError.TheVariants as fault
use Rattle.asm.specs.declared.refusal.AsmError.{AsmError}
use Rattle.asm.specs.declared.refusal.AsmError.TheVariants as error
use Rattle.asm.specs.declared.table.Table.{Table}

-- ---- lists with one item more

pub length_more : {X : Type 0} (xs : List X) (x : X) → length (xs ++ x ∷ []) ≡ length xs + 1
length_more [] x = refl
length_more (y ∷ xs) x = omega (arith, length_more xs x)

each_more : {X : Type 0} (P : X → Type 0) (xs : List X) (x : X) → AllByRecursion P xs → P x
    → AllByRecursion P (xs ++ x ∷ [])
each_more P [] x each here = (here, tt)
each_more P (y ∷ xs) x each here = (each.0, each_more P xs x each.1 here)

-- ---- labels of one line more

among_more : (names : List Name) (name last : Name) → IsNameAmong name (names ++ last ∷ [])
    → IsNameAmong name names ⊎ (name ≡ last)
among_more [] name last (inl is) = inr is
among_more [] name last (inr among) = absurd among
among_more (n ∷ names) name last (inl is) = inl (inl is)
among_more (n ∷ names) name last (inr among) = by (among_more names name last among)
  where
    by : IsNameAmong name names ⊎ (name ≡ last) → IsNameAmong name (n ∷ names) ⊎ (name ≡ last)
    by (inl among) = inl (inr among)
    by (inr is) = inr is

distinct_more : (names : List Name) (last : Name) → AreDistinct names → (IsNameAmong last names → ⊥)
    → AreDistinct (names ++ last ∷ [])
distinct_more [] last distinct new = (λ among. among, tt)
distinct_more (n ∷ names) last distinct new =
    (λ among. by (among_more names n last among), distinct_more names last distinct.1 (λ among. new (inr among)))
  where
    by : IsNameAmong n names ⊎ (n ≡ last) → ⊥
    by (inl among) = distinct.0 among
    by (inr is) = new (inl (sym is))

labels_more : (said : List (Option Statement)) (s : Option Statement)
    → labels (said ++ s ∷ []) ≡ labels said ++ labels (s ∷ [])
labels_more [] s = refl
labels_more (None ∷ said) s = labels_more said s
labels_more (Some (Labelled n) ∷ said) s = ap (λ names. n ∷ names) (labels_more said s)
labels_more (Some (Instruction i t) ∷ said) s = labels_more said s

new_is_distinct : (said : List (Option Statement)) (s : Option Statement) → AreDistinct (labels said) → IsNewLabel said s
    → AreDistinct (labels said ++ labels (s ∷ []))
new_is_distinct said None distinct new = rw append-nil distinct
new_is_distinct said (Some (Labelled n)) distinct new = distinct_more (labels said) n distinct new
new_is_distinct said (Some (Instruction i t)) distinct new = rw append-nil distinct

-- ---- lines

-- one line more is understood
pub understood_more : (lines : List (List ℕ)) (said : List (Option Statement)) (line : List ℕ) (s : Option Statement)
    → AreUnderstood lines said
    → line_statement line ≡ Some s → IsInRange s → IsNewLabel said s → AreUnderstood (lines ++ line ∷ []) (said ++ s ∷ [])
understood_more lines said line s read is fit new = record {
  each = AllZip-push (λ l t. line_statement l ≡ Some t) lines said line s read.each is;
  fit = each_more IsInRange said s read.fit fit;
  distinct = subst AreDistinct (sym (labels_more said s)) (new_is_distinct said s read.distinct new);
}

-- before the first line nothing is read
pub scanned_none : (text : List ℕ) (table : Table) → Holds table [] → IsScanned (lines_of text) 0 (lines_of text) table
scanned_none text table holds = record {
  before = [];
  said = [];
  split = refl;
  count = refl;
  read = record { each = tt; fit = tt; distinct = tt };
  holds = holds;
}

-- what the table has after one line more
pub scanned_more : (lines : List (List ℕ)) (n : ℕ) (left : Option (Bor (List ℕ))) (text : Bor (List ℕ))
    (s : Option Statement) (rest : List (List ℕ))
    (table new : Table) (x : Unit {0}) → IsScanned lines n (following_lines left) table → left ≡ Some text
    → TextBegins text.now s rest
    → ((said : List (Option Statement)) → Holds table said → Adds said s (n + 1) new (Ok x))
    → IsScanned lines (n + 1) rest new
scanned_more lines n left text s rest table new x scanned is first added = record {
  before = scanned.before ++ first.line ∷ [];
  said = scanned.said ++ s ∷ [];
  split = scanned.split ∙ ap (λ ls. scanned.before ++ ls) (ap following_lines is ∙ first.split)
      ∙ sym (append_assoc scanned.before (first.line ∷ []) rest);
  count = omega (arith, scanned.count, length_more scanned.before first.line);
  read = understood_more scanned.before scanned.said first.line s scanned.read first.read first.fit
      (added scanned.said scanned.holds).1;
  holds = (added scanned.said scanned.holds).0;
}

-- a line with a fault of its own halts the pass
pub halted_at_fault : (lines : List (List ℕ)) (n : ℕ) (left : Option (Bor (List ℕ))) (text : Bor (List ℕ))
    (table : Table) (e : AsmError)
    → IsScanned lines n (following_lines left) table → left ≡ Some text → Fails text.now (n + 1) e → IsHalted lines e
halted_at_fault lines n left text table e scanned is fails = rw fails.named (by fails.fault fails.fails)
  where
    halted : (F : List (Option Statement) → Option (Option Statement) → Type 0) → F scanned.said (line_statement fails.line)
        → Halts lines (n + 1) F
    halted F fault = record {
      before = scanned.before;
      line = fails.line;
      after = fails.rest;
      split = scanned.split ∙ ap (λ ls. scanned.before ++ ls) (ap following_lines is ∙ fails.split);
      count = omega (arith, scanned.count);
      said = scanned.said;
      read = scanned.read;
      fault = fault;
    }

    by : (f : LineError) → UnderstandsLine (line_statement fails.line) (Err f) → IsHalted lines (fault_at f (n + 1))
    by fault.Syntax none = halted IsUnread none
    by fault.Range unfit = halted IsTooLarge unfit

-- so does a label that comes before
pub halted_at_label : (lines : List (List ℕ)) (n : ℕ) (left : Option (Bor (List ℕ))) (text : Bor (List ℕ))
    (s : Option Statement) (rest : List (List ℕ))
    (table new : Table) (e : AsmError) → IsScanned lines n (following_lines left) table → left ≡ Some text
    → TextBegins text.now s rest
    → ((said : List (Option Statement)) → Holds table said → Adds said s (n + 1) new (Err e)) → IsHalted lines e
halted_at_label lines n left text s rest table new e scanned is first added = by e (added scanned.said scanned.holds)
  where
    by : (e : AsmError) → Adds scanned.said s (n + 1) new (Err e) → IsHalted lines e
    by (error.DoubleLabel m) (here, old) = record {
      before = scanned.before;
      line = first.line;
      after = rest;
      split = scanned.split ∙ ap (λ ls. scanned.before ++ ls) (ap following_lines is ∙ first.split);
      count = here ∙ ap (λ k. k + 1) scanned.count;
      said = scanned.said;
      read = scanned.read;
      fault = rw first.read old;
    }
    by error.Memory added = tt
    by (error.Syntax m) added = absurd added
    by (error.Range m) added = absurd added
    by (error.UnknownLabel m) added = absurd added
    by error.TooLong added = absurd added
