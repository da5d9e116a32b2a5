-- The second pass over the lines of a text, line by line.
use Rattle.std.proofs.Common.{◌≡◌, refl, ℕ, ◌≤◌, ◌+◌, Bool, true, false, List, [], ◌∷◌, ◌++◌, length, Option, Some, None, Err, cond, sym, ap, ◌∙◌, arith, subst, Bor, pos, ◌-ℤ◌, FitsSigned, Fits, w16, w64, to_z, of_z}
use Rattle.std.specs.Prelude.{option_map, option_and_then, bytes_eq, is_some}
use Rattle.std.specs.List.{AllZip, AllByRecursion}
use Rattle.std.proofs.lemmas.List.{append_assoc, append-nil}
use Rattle.std.proofs.lemmas.Int.{ints}
use Rattle.indexmap.specs.IndexMap.{get}
use Rattle.insn.specs.Encoding.{slots_of}
use Rattle.insn.proofs.TwoSlots.{slots_small}
use Rattle.insn.specs.declared.decoding.TheConstants.{MAX_SLOTS}
use Rattle.insn.specs.declared.instruction.Insn.{Insn}
use Rattle.asm.specs.Lines.{lines_of}
use Rattle.asm.specs.Statements.{Name, Statement, Labelled, Instruction}
use Rattle.asm.specs.Programs.{IsInRange, slots_in, slot_from, slot_of_label, linked_one, instructions_of, insn_lines, LacksLabel}
use Rattle.asm.specs.Reading.{line_statement}
use Rattle.asm.specs.Parsing.{said_in, IsUnfit, UnderstandsLine}
use Rattle.asm.specs.Scanning.{Holds, IsTableOf, IsHalted, IsLinked, slots_up_to_limit, following_lines, TextBegins, Fails}
use Rattle.asm.specs.declared.program.InsnLine.{InsnLine}
use Rattle.asm.specs.declared.statement.Line.{Line}
use Rattle.asm.specs.declared.statement.Line.TheVariants as line
use Rattle.asm.specs.declared.refusal.LineError.{LineError}
use Rattle.asm.specs.declared.refusal.LineError.TheVariants as fault
use Rattle.asm.specs.declared.refusal.AsmError.{AsmError}
use Rattle.asm.specs.declared.refusal.AsmError.TheVariants as error
use Rattle.asm.specs.declared.table.Table.{Table}
use Rattle.asm.proofs.Tables.{same, slots_more}
use Rattle.asm.proofs.Scans.{length_more}

-- ---- label_slots

-- a label is at the end at most
place_within : (slot : ℕ) (said : List (Option Statement)) (name : Name) (p : ℕ) → slot_from slot said name ≡ Some p
    → p ≤ slot + slots_in said
place_within slot [] name p at = cc
place_within slot (None ∷ said) name p at = place_within slot said name p at
place_within slot (Some (Labelled n) ∷ said) name p at = by (bytes_eq n name) at (place_within slot said name p)
  where
    by : (b : Bool) → cond b (Some slot) (slot_from slot said name) ≡ Some p
        → (slot_from slot said name ≡ Some p → p ≤ slot + slots_in said)
        → p ≤ slot + slots_in said
    by true at following = let here : slot ≡ p = cc in omega arith
    by false at following = following at
place_within slot (Some (Instruction i t) ∷ said) name p at = omega
    (arith, place_within (slot + slots_of i) said name p at)

-- the table of a program that is not too long has the label_slots as they are
pub place_found : (table : Table) (said : List (Option Statement)) (name : Bor (List ℕ)) (p : ℕ) → Holds table said
    → slots_in said ≤ MAX_SLOTS
    → get same table.label_slots name ≡ Some p → (slot_of_label said name.now ≡ Some p) × (p ≤ MAX_SLOTS)
place_found table said name p holds few is = by (slot_of_label said name.now) refl (sym (holds.label_slots name) ∙ is)
  where
    by : (o : Option ℕ) → slot_of_label said name.now ≡ o → option_map slots_up_to_limit o ≡ Some p → (o ≡ Some p) × (p ≤ MAX_SLOTS)
    by None at e = absurd cc
    by (Some q) at e = let within : q ≤ 0 + slots_in said = place_within 0 said name.now q at in
        let counted : slots_up_to_limit q ≡ p = cc in
        let here : q ≡ p = omega arith in (ap (λ k. Some k) here, omega arith)

-- the distance of a jump within a program, as it is computed
pub short_distance : (p slot : ℕ) → p ≤ MAX_SLOTS → slot ≤ MAX_SLOTS
    → to_z w16 (of_z w16 (to_z w16 p -ℤ to_z w16 (slot + 1))) ≡ pos p -ℤ pos (slot + 1)
short_distance p slot few here = omega (arith, ints)

pub distance_fits : (p slot : ℕ) → p ≤ MAX_SLOTS → slot ≤ MAX_SLOTS → FitsSigned w16 (to_z w16 p -ℤ to_z w16 (slot + 1))
distance_fits p slot few here = omega (arith, ints)

pub place_fits : (p : ℕ) → p ≤ MAX_SLOTS → FitsSigned w16 (pos p)
place_fits p few = omega (arith, ints)

-- an instruction has one slot or two
pub slot_fits : (slot : ℕ) (i : Insn) → slot ≤ MAX_SLOTS → Fits w64 (slot + slots_of i)
slot_fits slot i few = omega (arith, slots_small i)

-- ---- instructions

-- the instructions of one line more
linked_more : (label_slots : Name → Option ℕ) (slot : ℕ) (before : List (Option Statement)) (s : Option Statement)
    (code more : List Insn)
    → instructions_of label_slots slot before ≡ Some code → instructions_of label_slots (slot + slots_in before) (s ∷ []) ≡ Some more
    → instructions_of label_slots slot (before ++ s ∷ []) ≡ Some (code ++ more)
linked_more label_slots slot [] s code more is here = let none : [] ≡ code = cc in
    ap (λ k. instructions_of label_slots k (s ∷ [])) (omega arith) ∙ here ∙ ap (λ c. Some (c ++ more)) none
linked_more label_slots slot (None ∷ before) s code more is here = linked_more label_slots slot before s code more is here
linked_more label_slots slot (Some (Labelled n) ∷ before) s code more is here = linked_more label_slots slot before s code more
    is here
linked_more label_slots slot (Some (Instruction i t) ∷ before) s code more is here =
    by (linked_one label_slots slot i t) (instructions_of label_slots (slot + slots_of i) before) refl is
    (λ tail at. linked_more label_slots (slot + slots_of i) before s tail more at
    (ap (λ k. instructions_of label_slots k (s ∷ [])) (omega arith) ∙ here))
  where
    by : (o : Option Insn) (q : Option (List Insn)) → instructions_of label_slots (slot + slots_of i) before ≡ q
        → option_and_then (λ j. option_map (λ c. j ∷ c) q) o ≡ Some code
        → ((tail : List Insn) → instructions_of label_slots (slot + slots_of i) before ≡ Some tail
        → instructions_of label_slots (slot + slots_of i) (before ++ s ∷ []) ≡ Some (tail ++ more))
        → option_and_then (λ j. option_map (λ c. j ∷ c) (instructions_of label_slots (slot + slots_of i) (before ++ s ∷ [])))
        o ≡ Some (code ++ more)
    by None q at e following = absurd cc
    by (Some j) None at e following = absurd cc
    by (Some j) (Some tail) at e following = let first : j ∷ tail ≡ code = cc in
        ap (option_map (λ c. j ∷ c)) (following tail at) ∙ ap (λ c. Some (c ++ more)) first

-- the lines of one line more
numbered_more : (slot line : ℕ) (before : List (Option Statement)) (s : Option Statement)
    → insn_lines slot line (before ++ s ∷ [])
    ≡ insn_lines slot line before ++ insn_lines (slot + slots_in before) (line + length before) (s ∷ [])
numbered_more slot line [] s = ap (λ k. insn_lines k line (s ∷ [])) (omega arith) ∙ ap (λ n. insn_lines (slot + 0) n (s ∷ [])) (omega arith)
numbered_more slot line (None ∷ before) s = numbered_more slot (line + 1) before s
    ∙ ap (λ n. insn_lines slot (line + 1) before ++ insn_lines (slot + slots_in before) n (s ∷ [])) (omega arith)
numbered_more slot line (Some (Labelled n) ∷ before) s = numbered_more slot (line + 1) before s
    ∙ ap (λ n. insn_lines slot (line + 1) before ++ insn_lines (slot + slots_in before) n (s ∷ [])) (omega arith)
numbered_more slot line (Some (Instruction i t) ∷ before) s = ap (λ lines. record { slot = slot; line = line } ∷ lines)
    (numbered_more (slot + slots_of i) (line + 1) before s
    ∙ ap (λ k. insn_lines (slot + slots_of i) (line + 1) before ++ insn_lines k (line + 1 + length before) (s ∷ [])) (omega arith)
    ∙ ap (λ n. insn_lines (slot + slots_of i) (line + 1) before ++ insn_lines (slot + (slots_of i + slots_in before)) n (s ∷ []))
    (omega arith))

slots_both : (before after : List (Option Statement)) → slots_in (before ++ after) ≡ slots_in before + slots_in after
slots_both [] after = omega arith
slots_both (None ∷ before) after = slots_both before after
slots_both (Some (Labelled n) ∷ before) after = slots_both before after
slots_both (Some (Instruction i t) ∷ before) after = omega (arith, slots_both before after)

-- ---- lines

-- before the first line there is no code
pub linked_none : (text : List ℕ) (table : Table) → IsTableOf text table
    → IsLinked (lines_of text) table 0 0 (lines_of text) [] []
linked_none text table t = record {
  said = t.said;
  read = t.read;
  few = t.few;
  holds = t.holds;
  before = [];
  after = t.said;
  split = refl;
  ahead = t.read.each;
  fit = t.read.fit;
  count = refl;
  slots = refl;
  linked = refl;
  are = refl;
}

pub slot_within : (lines : List (List ℕ)) (table : Table) (n slot : ℕ) (rest : List (List ℕ)) (code : List Insn)
    (numbered : List InsnLine) → IsLinked lines table n slot rest code numbered
    → slot ≤ MAX_SLOTS
slot_within lines table n slot rest code numbered k = omega
    (arith, k.few, k.slots, ap slots_in k.split, slots_both k.before k.after)

-- the code after one line more
linked_after : (lines : List (List ℕ)) (table : Table) (n slot : ℕ) (left : Option (Bor (List ℕ)))
    (text : Bor (List ℕ)) (s : Option Statement)
    (rest : List (List ℕ)) (code more : List Insn) (numbered : List InsnLine)
    (k : IsLinked lines table n slot (following_lines left) code numbered)
    → left ≡ Some text → TextBegins text.now s rest
    → instructions_of (slot_of_label k.said) slot (s ∷ []) ≡ Some more
    → IsLinked lines table (n + 1) (slot + slots_in (s ∷ [])) rest (code ++ more)
    (numbered ++ insn_lines slot (n + 1) (s ∷ []))
linked_after lines table n slot left text s rest code more numbered k is first here =
    by k.after k.split (subst (λ ls. AllZip (λ line t. line_statement line ≡ Some t) ls k.after)
    (ap following_lines is ∙ first.split) k.ahead) k.fit
  where
    by : (after : List (Option Statement)) → k.said ≡ k.before ++ after
        → AllZip (λ line t. line_statement line ≡ Some t) (first.line ∷ rest) after
        → AllByRecursion IsInRange after
        → IsLinked lines table (n + 1) (slot + slots_in (s ∷ [])) rest (code ++ more)
        (numbered ++ insn_lines slot (n + 1) (s ∷ []))
    by [] split ahead fit = absurd ahead
    by (t ∷ after) split ahead fit = let says : Some t ≡ Some s = sym ahead.0 ∙ first.read in let same : t ≡ s = cc in
        record {
          said = k.said;
          read = k.read;
          few = k.few;
          holds = k.holds;
          before = k.before ++ s ∷ [];
          after = after;
          split = split ∙ ap (λ u. k.before ++ u ∷ after) same ∙ sym (append_assoc k.before (s ∷ []) after);
          ahead = ahead.1;
          fit = fit.1;
          count = omega (arith, k.count, length_more k.before s);
          slots = omega (arith, k.slots, slots_more k.before s);
          linked = linked_more (slot_of_label k.said) 0 k.before s code more k.linked
              (ap (λ p. instructions_of (slot_of_label k.said) p (s ∷ [])) (omega (arith, k.slots)) ∙ here);
          are = ap (λ l. l ++ insn_lines slot (n + 1) (s ∷ [])) k.are
              ∙ ap (λ p. insn_lines 0 1 k.before ++ insn_lines p (n + 1) (s ∷ [])) (omega (arith, k.slots))
              ∙ ap (λ m. insn_lines 0 1 k.before ++ insn_lines (0 + slots_in k.before) m (s ∷ [])) (omega (arith, k.count))
              ∙ sym (numbered_more 0 1 k.before s);
        }

-- no line has a fault
pub no_fault : (lines : List (List ℕ)) (table : Table) (n slot : ℕ) (left : Option (Bor (List ℕ)))
    (text : Bor (List ℕ)) (code : List Insn) (numbered : List InsnLine) (m : ℕ) (e : AsmError)
    → IsLinked lines table n slot (following_lines left) code numbered → left ≡ Some text → Fails text.now m e → ⊥
no_fault lines table n slot left text code numbered m e k is first =
    by k.after (subst (λ ls. AllZip (λ line t. line_statement line ≡ Some t) ls k.after)
    (ap following_lines is ∙ first.split) k.ahead) k.fit first.fault first.fails
  where
    by : (after : List (Option Statement)) → AllZip (λ line t. line_statement line ≡ Some t) (first.line ∷ first.rest) after
        → AllByRecursion IsInRange after
        → (f : LineError) → UnderstandsLine (line_statement first.line) (Err f) → ⊥
    by [] ahead fit f fails = ahead
    by (t ∷ after) ahead fit fault.Syntax fails = let both : Some t ≡ None = sym ahead.0 ∙ fails in cc
    by (t ∷ after) ahead fit fault.Range fails = let unfit : IsUnfit (Some t) = subst IsUnfit ahead.0 fails in
        unfit fit.0

-- a line that is no instruction adds no code
pub linked_past : (lines : List (List ℕ)) (table : Table) (n slot : ℕ) (left : Option (Bor (List ℕ)))
    (text : Bor (List ℕ)) (l : Line)
    (rest : List (List ℕ)) (code : List Insn) (numbered : List InsnLine)
    → IsLinked lines table n slot (following_lines left) code numbered → left ≡ Some text
    → TextBegins text.now (said_in l) rest
    → ((i : Insn) (label : Option (Bor (List ℕ))) → l ≡ line.Insn i label → ⊥)
    → IsLinked lines table (n + 1) slot rest code numbered
linked_past lines table n slot left text l rest code numbered k is first other = by l first other
  where
    none : (s : Option Statement) → slots_in (s ∷ []) ≡ 0 → instructions_of (slot_of_label k.said) slot (s ∷ []) ≡ Some []
        → insn_lines slot (n + 1) (s ∷ []) ≡ []
        → TextBegins text.now s rest
        → IsLinked lines table (n + 1) slot rest code numbered
    none s nowhere nothing unnumbered first = subst (λ c. IsLinked lines table (n + 1) slot rest c numbered) (append-nil code)
        (subst (λ m. IsLinked lines table (n + 1) slot rest (code ++ []) m)
        (ap (λ m. numbered ++ m) unnumbered ∙ append-nil numbered)
        (subst (λ p. IsLinked lines table (n + 1) p rest (code ++ []) (numbered ++ insn_lines slot (n + 1) (s ∷ [])))
        (omega (arith, nowhere))
        (linked_after lines table n slot left text s rest code [] numbered k is first nothing)))

    by : (l : Line) → TextBegins text.now (said_in l) rest
        → ((i : Insn) (label : Option (Bor (List ℕ))) → l ≡ line.Insn i label → ⊥)
        → IsLinked lines table (n + 1) slot rest code numbered
    by line.Empty first other = none None refl refl refl first
    by (line.Label name) first other = none (Some (Labelled name.now)) refl refl refl first
    by (line.Insn i label) first other = absurd (other i label refl)

-- an instruction adds itself with the distance to its label
pub linked_insn : (lines : List (List ℕ)) (table : Table) (n slot : ℕ) (left : Option (Bor (List ℕ)))
    (text : Bor (List ℕ)) (i : Insn) (target : Option Name)
    (rest : List (List ℕ)) (code : List Insn) (j : Insn) (numbered : List InsnLine)
    (k : IsLinked lines table n slot (following_lines left) code numbered)
    → left ≡ Some text
    → TextBegins text.now (Some (Instruction i target)) rest → Some j ≡ linked_one (slot_of_label k.said) slot i target
    → IsLinked lines table (n + 1) (slot + slots_of i) rest (code ++ j ∷ []) (numbered ++ record { slot = slot; line = n + 1 } ∷ [])
linked_insn lines table n slot left text i target rest code j numbered k is first one = subst
    (λ p. IsLinked lines table (n + 1) p rest (code ++ j ∷ []) (numbered ++ record { slot = slot; line = n + 1 } ∷ [])) (omega arith)
    (linked_after lines table n slot left text (Some (Instruction i target)) rest code (j ∷ []) numbered k is first
    (ap (λ o. option_and_then (λ h. option_map (λ c. h ∷ c) (Some [])) o) (sym one)))

-- an unknown label halts the pass
pub unknown_label : (lines : List (List ℕ)) (table : Table) (n slot : ℕ) (left : Option (Bor (List ℕ)))
    (text : Bor (List ℕ)) (i : Insn) (target : Option Name)
    (rest : List (List ℕ)) (code : List Insn) (numbered : List InsnLine)
    (k : IsLinked lines table n slot (following_lines left) code numbered)
    → left ≡ Some text
    → TextBegins text.now (Some (Instruction i target)) rest → None ≡ linked_one (slot_of_label k.said) slot i target
    → IsHalted lines (error.UnknownLabel (n + 1))
unknown_label lines table n slot left text i target rest code numbered k is first none = by target first.read none
  where
    lacks : (name : Name) → slot_of_label k.said name ≡ None → (after : List (Option Statement)) → k.said ≡ k.before ++ after
        → AllZip (λ line t. line_statement line ≡ Some t) (first.line ∷ rest) after
        → line_statement first.line ≡ Some (Some (Instruction i (Some name)))
        → LacksLabel k.said (n + 1)
    lacks name unknown [] split ahead read = absurd ahead
    lacks name unknown (t ∷ after) split ahead read = let says : Some t ≡ Some
        (Some (Instruction i (Some name))) = sym ahead.0 ∙ read in
        let same : t ≡ Some (Instruction i (Some name)) = cc in record {
          before = k.before;
          insn = i;
          name = name;
          after = after;
          split = split ∙ ap (λ u. k.before ++ u ∷ after) same;
          count = ap (λ m. m + 1) k.count;
          known = ap is_some k.linked;
          unknown = unknown;
        }

    missing : {X : Type 0} (f : ℕ → X) (o : Option ℕ) → None ≡ option_map f o → o ≡ None
    missing f None e = refl
    missing f (Some p) e = absurd cc

    by : (target : Option Name) → line_statement first.line ≡ Some (Some (Instruction i target))
        → None ≡ linked_one (slot_of_label k.said) slot i target
        → IsHalted lines (error.UnknownLabel (n + 1))
    by None read none = absurd cc
    by (Some name) read none = (
      k.said,
      k.read,
      k.few,
      lacks name (missing _ _ none) k.after k.split
          (subst (λ ls. AllZip (λ line t. line_statement line ≡ Some t) ls k.after)
          (ap following_lines is ∙ first.split) k.ahead) read,
    )
