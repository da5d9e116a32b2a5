-- What a text means, from what the reader reads of its lines. The two laws of the reader are arguments.
use Rattle.std.proofs.Common.{◌≡◌, ◌≢◌, refl, ℕ, ◌≤◌, List, [], ◌∷◌, Option, Some, None, Result, Ok, Err, sym, ap, ◌∙◌, arith, subst, inl, inr}
use Rattle.std.specs.Prelude.{◌⊎◌, IfOk, IfErr, MatchResult, IsErrAnd}
use Rattle.std.specs.List.{AllZip}
use Rattle.insn.specs.Encoding.{slot_count, encodings}
use Rattle.insn.specs.declared.decoding.TheConstants.{MAX_SLOTS}
use Rattle.insn.specs.declared.instruction.Insn.{Insn}
use Rattle.asm.specs.Lines.{lines_of}
use Rattle.asm.specs.Statements.{Statement, Labelled, Instruction}
use Rattle.asm.specs.Programs.{Means, AreRead, slot_of_label, instructions_of, Names, AreInsnLines, IsAssembled, StopsAt, IsNoLine, IsOutOfRange, IsRepeated, IsRefusedText}
use Rattle.asm.specs.Reading.{line_statement}
use Rattle.asm.specs.Parsing.{IsUnfit}
use Rattle.asm.specs.Scanning.{AreUnderstood, Halts, IsUnread, IsTooLarge, IsOldLabel, IsHalted, IsCodeOf, AreLinesOf, IsBuilt}
use Rattle.asm.specs.declared.program.InsnLine.{InsnLine}
use Rattle.asm.specs.declared.refusal.AsmError.{AsmError}
use Rattle.asm.specs.declared.refusal.AsmError.TheVariants as error
use Rattle.asm.proofs.Refusals.{said_is_one, slots_of_code, halts_once, halts_or_code}

-- what the reader reads of a line is what the line says
pub record ReaderLaws : Type 0 where
  pub means : (line : List ℕ) (s : Option Statement) → line_statement line ≡ Some s → Means line s
  pub reads : (line : List ℕ) (s : Option Statement) → Means line s → line_statement line ≡ Some s

-- ---- lines

each_other : {P Q : List ℕ → Option Statement → Type 0}
    (of : (line : List ℕ) (s : Option Statement) → P line s → Q line s) (lines : List (List ℕ))
    (said : List (Option Statement)) → AllZip P lines said → AllZip Q lines said
each_other of [] [] each = tt
each_other of [] (s ∷ said) each = absurd each
each_other of (line ∷ lines) [] each = absurd each
each_other of (line ∷ lines) (s ∷ said) each = (of line s each.0, each_other of lines said each.1)

is_read : ReaderLaws → (lines : List (List ℕ)) (said : List (Option Statement)) → AreUnderstood lines said
    → AreRead lines said
is_read laws lines said read = record {
  each = each_other {P = λ line s. line_statement line ≡ Some s} {Q = Means} laws.means lines said read.each;
  fit = read.fit;
  distinct = read.distinct;
}

is_understood : ReaderLaws → (lines : List (List ℕ)) (said : List (Option Statement)) → AreRead lines said
    → AreUnderstood lines said
is_understood laws lines said read = record {
  each = each_other {P = Means} {Q = λ line s. line_statement line ≡ Some s} laws.reads lines said read.each;
  fit = read.fit;
  distinct = read.distinct;
}

-- ---- the faults of a line

unread_is_no_line : ReaderLaws → (said : List (Option Statement)) (line : List ℕ) → IsUnread said (line_statement line)
    → IsNoLine said line
unread_is_no_line laws said line none s means = let both : None ≡ Some s = sym none ∙ laws.reads line s means in cc

no_line_is_unread : ReaderLaws → (said : List (Option Statement)) (line : List ℕ) → IsNoLine said line
    → IsUnread said (line_statement line)
no_line_is_unread laws said line no_line = by (line_statement line) refl
  where
    by : (r : Option (Option Statement)) → line_statement line ≡ r → r ≡ None
    by None read = refl
    by (Some s) read = absurd (no_line s (laws.means line s read))

too_large_is_out : ReaderLaws → (said : List (Option Statement)) (line : List ℕ) → IsTooLarge said (line_statement line)
    → IsOutOfRange said line
too_large_is_out laws said line unfit = by (line_statement line) refl unfit
  where
    by : (r : Option (Option Statement)) → line_statement line ≡ r → IsUnfit r → IsOutOfRange said line
    by None read unfit = absurd unfit
    by (Some s) read unfit = (s, laws.means line s read, unfit)

out_is_too_large : ReaderLaws → (said : List (Option Statement)) (line : List ℕ) → IsOutOfRange said line
    → IsTooLarge said (line_statement line)
out_is_too_large laws said line (s, means, unfit) = subst IsUnfit (sym (laws.reads line s means)) unfit

old_is_repeated : ReaderLaws → (said : List (Option Statement)) (line : List ℕ) → IsOldLabel said (line_statement line)
    → IsRepeated said line
old_is_repeated laws said line old = by (line_statement line) refl old
  where
    by : (r : Option (Option Statement)) → line_statement line ≡ r → IsOldLabel said r → IsRepeated said line
    by None read old = absurd old
    by (Some None) read old = absurd old
    by (Some (Some (Labelled name))) read old = (name, laws.means line (Some (Labelled name)) read, old)
    by (Some (Some (Instruction i t))) read old = absurd old

repeated_is_old : ReaderLaws → (said : List (Option Statement)) (line : List ℕ) → IsRepeated said line
    → IsOldLabel said (line_statement line)
repeated_is_old laws said line (name, means, among) = subst (IsOldLabel said)
    (sym (laws.reads line (Some (Labelled name)) means)) among

-- ---- refusals

stops : ReaderLaws → (text : List ℕ) (n : ℕ) (F : List (Option Statement) → Option (Option Statement) → Type 0)
    (G : List (Option Statement) → List ℕ → Type 0)
    → ((said : List (Option Statement)) (line : List ℕ) → F said (line_statement line) → G said line)
    → Halts (lines_of text) n F → StopsAt text n G
stops laws text n F G of h = record {
  before = h.before;
  line = h.line;
  after = h.after;
  split = h.split;
  count = h.count;
  said = h.said;
  read = is_read laws h.before h.said h.read;
  fault = of h.said h.line h.fault;
}

halts : ReaderLaws → (text : List ℕ) (n : ℕ) (F : List (Option Statement) → Option (Option Statement) → Type 0)
    (G : List (Option Statement) → List ℕ → Type 0)
    → ((said : List (Option Statement)) (line : List ℕ) → G said line → F said (line_statement line)) → StopsAt text n G
    → Halts (lines_of text) n F
halts laws text n F G of h = record {
  before = h.before;
  line = h.line;
  after = h.after;
  split = h.split;
  count = h.count;
  said = h.said;
  read = is_understood laws h.before h.said h.read;
  fault = of h.said h.line h.fault;
}

halted_is_refused : ReaderLaws → (text : List ℕ) (e : AsmError) → IsHalted (lines_of text) e
    → (e ≡ error.Memory) ⊎ IsRefusedText text e
halted_is_refused laws text (error.Syntax n) h = inr (stops laws text n IsUnread IsNoLine (unread_is_no_line laws) h)
halted_is_refused laws text (error.Range n) h = inr
    (stops laws text n IsTooLarge IsOutOfRange (too_large_is_out laws) h)
halted_is_refused laws text (error.DoubleLabel n) h = inr
    (stops laws text n IsOldLabel IsRepeated (old_is_repeated laws) h)
halted_is_refused laws text error.TooLong h = inr (h.0, is_read laws (lines_of text) h.0 h.1, h.2)
halted_is_refused laws text (error.UnknownLabel n) h = inr (h.0, is_read laws (lines_of text) h.0 h.1, h.2, h.3)
halted_is_refused laws text error.Memory h = inl refl

refused_is_halted : ReaderLaws → (text : List ℕ) (e : AsmError) → IsRefusedText text e → IsHalted (lines_of text) e
refused_is_halted laws text (error.Syntax n) r = halts laws text n IsUnread IsNoLine (no_line_is_unread laws) r
refused_is_halted laws text (error.Range n) r = halts laws text n IsTooLarge IsOutOfRange (out_is_too_large laws) r
refused_is_halted laws text (error.DoubleLabel n) r = halts laws text n IsOldLabel IsRepeated (repeated_is_old laws) r
refused_is_halted laws text error.TooLong r = (r.0, is_understood laws (lines_of text) r.0 r.1, r.2)
refused_is_halted laws text (error.UnknownLabel n) r = (r.0, is_understood laws (lines_of text) r.0 r.1, r.2, r.3)
refused_is_halted laws text error.Memory r = absurd r

not_memory : (text : List ℕ) (e : AsmError) → IsRefusedText text e → e ≢ error.Memory
not_memory text e r is = subst (IsRefusedText text) is r

-- a text has at most one refusal
pub refusals_once : ReaderLaws → (text : List ℕ) (e f : AsmError) → IsRefusedText text e → IsRefusedText text f → e ≡ f
refusals_once laws text e f a b = halts_once (lines_of text) e f (not_memory text e a) (not_memory text f b)
    (refused_is_halted laws text e a) (refused_is_halted laws text f b)

-- ---- programs

code_is_named : ReaderLaws → (text : List ℕ) (code : List Insn) → IsCodeOf text code → Names text code
code_is_named laws text code a = record
    { said = a.said; read = is_read laws (lines_of text) a.said a.read; linked = a.linked }

few_slots : (text : List ℕ) (code : List Insn) → IsCodeOf text code → slot_count code ≤ MAX_SLOTS
few_slots text code a = omega (arith, a.few, slots_of_code (slot_of_label a.said) 0 a.said code a.linked)

named_is_code : ReaderLaws → (text : List ℕ) (code : List Insn) → Names text code → slot_count code ≤ MAX_SLOTS
    → IsCodeOf text code
named_is_code laws text code named few = record {
  said = named.said;
  read = is_understood laws (lines_of text) named.said named.read;
  few = omega (arith, slots_of_code (slot_of_label named.said) 0 named.said code named.linked);
  linked = named.linked;
}

-- a text names at most one list of instructions
pub names_once : ReaderLaws → (text : List ℕ) (code other : List Insn) → Names text code → Names text other
    → code ≡ other
names_once laws text code other a b =
    let same : a.said ≡ b.said = said_is_one (lines_of text) a.said b.said
    (is_understood laws (lines_of text) a.said a.read).each
    (is_understood laws (lines_of text) b.said b.read).each in
    let both : Some code ≡ Some other = sym a.linked ∙ ap (λ said. instructions_of (slot_of_label said) 0 said) same ∙ b.linked in cc

-- ---- the clauses of `assemble_with_lines`, by those of `build`

pub found : {V : Type 0} → ReaderLaws → (text : List ℕ) (items : V → List ℕ) (r : Result V AsmError)
    → IfOk r (λ v. IsBuilt text (items v))
    → IfOk r (λ v. IsAssembled text (items v))
found laws text items (Ok v) b = record {
  code = b.code;
  named = code_is_named laws text b.code b.of;
  few = few_slots text b.code b.of;
  spelled = b.spelled;
}
found laws text items (Err e) b = tt

pub lines_found : {V : Type 0} → ReaderLaws → (text : List ℕ) (items : V → List InsnLine) (r : Result V AsmError)
    → IfOk r (λ v. AreLinesOf text (items v)) → IfOk r (λ v. AreInsnLines text (items v))
lines_found laws text items (Ok v) l = record { said = l.said; read = is_read laws (lines_of text) l.said l.read; are = l.are }
lines_found laws text items (Err e) l = tt

pub only : {V : Type 0} → ReaderLaws → (text : List ℕ) (items : V → List ℕ) (r : Result V AsmError)
    → IfOk r (λ v. IsBuilt text (items v))
    → IfErr r (IsHalted (lines_of text)) → (code : List Insn) → Names text code → slot_count code ≤ MAX_SLOTS
    → MatchResult r (λ v. items v ≡ encodings code) (λ e. e ≡ error.Memory)
only laws text items (Ok v) b h code named few = b.spelled
    ∙ ap encodings (names_once laws text b.code code (code_is_named laws text b.code b.of) named)
only laws text items (Err e) b h code named few = by (halted_is_refused laws text e h)
  where
    by : (e ≡ error.Memory) ⊎ IsRefusedText text e → e ≡ error.Memory
    by (inl is) = is
    by (inr r) = absurd (halts_or_code text code e (not_memory text e r) (named_is_code laws text code named few) h)

pub refused : {V : Type 0} → ReaderLaws → (text : List ℕ) (r : Result V AsmError) → IfErr r (IsHalted (lines_of text))
    → IfErr r (λ e. (e ≡ error.Memory) ⊎ IsRefusedText text e)
refused laws text (Ok v) h = tt
refused laws text (Err e) h = halted_is_refused laws text e h

pub exact : {V : Type 0} → ReaderLaws → (text : List ℕ) (items : V → List ℕ) (r : Result V AsmError)
    → IfOk r (λ v. IsBuilt text (items v))
    → IfErr r (IsHalted (lines_of text)) → (e : AsmError) → IsRefusedText text e
    → IsErrAnd r (λ f. (f ≡ e) ⊎ (f ≡ error.Memory))
exact laws text items (Ok v) b h e is = absurd
    (halts_or_code text b.code e (not_memory text e is) b.of (refused_is_halted laws text e is))
exact laws text items (Err f) b h e is = by (halted_is_refused laws text f h)
  where
    by : (f ≡ error.Memory) ⊎ IsRefusedText text f → (f ≡ e) ⊎ (f ≡ error.Memory)
    by (inl memory) = inr memory
    by (inr other) = inl (refusals_once laws text f e other is)
