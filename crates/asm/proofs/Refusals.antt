-- A text names at most one program, or has one refusal.
use Rattle.std.proofs.Common.{◌≡◌, ◌≢◌, refl, ℕ, ◌<◌, ◌≤◌, ◌+◌, true, false, List, [], ◌∷◌, ◌++◌, length, Option, Some, None, sym, ap, ◌∙◌, arith, subst, inl, inr, ℤ, pos, ◌-ℤ◌}
use Rattle.std.specs.Prelude.{◌⊎◌, option_map, option_and_then, is_some}
use Rattle.std.specs.List.{AllZip, AllByRecursion}
use Rattle.insn.specs.Encoding.{slots_of, slot_count}
use Rattle.insn.specs.Jumps.{with_distance}
use Rattle.insn.specs.declared.decoding.TheConstants.{MAX_SLOTS}
use Rattle.insn.specs.declared.instruction.Insn.{Insn}
use Rattle.insn.specs.declared.instruction.Insn.TheVariants.{Jump}
use Rattle.asm.specs.Lines.{lines_of}
use Rattle.asm.specs.Statements.{Name, Statement, Labelled, Instruction}
use Rattle.asm.specs.Programs.{IsInRange, labels, IsNameAmong, AreDistinct, slots_in, slot_of_label, linked_one, instructions_of, LacksLabel}
use Rattle.asm.specs.Reading.{line_statement}
use Rattle.asm.specs.Parsing.{IsUnfit}
use Rattle.asm.specs.Scanning.{AreUnderstood, IsOld, IsUnread, IsTooLarge, IsOldLabel, IsHalted, IsCodeOf, Halts}
use Rattle.asm.specs.declared.refusal.AsmError.{AsmError}
use Rattle.asm.specs.declared.refusal.AsmError.TheVariants as error

-- ---- how two cuts of a list lie to one another

data Cuts {X : Type 0} (front : List X) (x : X) (other : List X) (y : X) : Type 0 where
  Same : front ≡ other → x ≡ y → Cuts front x other y
  Before : (more : List X) → other ≡ front ++ x ∷ more → Cuts front x other y
  After : (more : List X) → front ≡ other ++ y ∷ more → Cuts front x other y

cuts : {X : Type 0} (front : List X) (x : X) (back other : List X) (y : X) (rest : List X)
    → front ++ x ∷ back ≡ other ++ y ∷ rest → Cuts front x other y
cuts [] x back [] y rest e = Same refl (cc)
cuts [] x back (z ∷ other) y rest e = let first : x ≡ z = cc in Before other (ap (λ w. w ∷ other) (sym first))
cuts (z ∷ front) x back [] y rest e = let first : z ≡ y = cc in After front (ap (λ w. w ∷ front) first)
cuts (z ∷ front) x back (w ∷ other) y rest e = by (cuts front x back other y rest cc)
  where
    first : z ≡ w
    first = cc

    by : Cuts front x other y → Cuts (z ∷ front) x (w ∷ other) y
    by (Same fronts here) = Same (cc) here
    by (Before more is) = Before more (cc)
    by (After more is) = After more (cc)

-- ---- lines are read in one way

pub said_is_one : (lines : List (List ℕ)) (said other : List (Option Statement))
    → AllZip (λ line s. line_statement line ≡ Some s) lines said
    → AllZip (λ line s. line_statement line ≡ Some s) lines other → said ≡ other
said_is_one [] [] [] each more = refl
said_is_one [] [] (t ∷ other) each more = absurd more
said_is_one [] (s ∷ said) other each more = absurd each
said_is_one (line ∷ lines) [] other each more = absurd each
said_is_one (line ∷ lines) (s ∷ said) [] each more = absurd more
said_is_one (line ∷ lines) (s ∷ said) (t ∷ other) each more = let both : Some s ≡ Some t = sym each.0 ∙ more.0 in
    let rest : said ≡ other = said_is_one lines said other each.1 more.1 in cc

-- ---- a line that is understood has no fault

among_at : (said : List (Option Statement)) (name : Name) (back : List (Option Statement))
    → IsNameAmong name (labels (said ++ Some (Labelled name) ∷ back))
among_at [] name back = inl refl
among_at (None ∷ said) name back = among_at said name back
among_at (Some (Labelled n) ∷ said) name back = inr (among_at said name back)
among_at (Some (Instruction i t) ∷ said) name back = among_at said name back

name_is_new : (said : List (Option Statement)) (name : Name) (back : List (Option Statement))
    → AreDistinct (labels (said ++ Some (Labelled name) ∷ back))
    → IsNameAmong name (labels said) → ⊥
name_is_new [] name back distinct among = among
name_is_new (None ∷ said) name back distinct among = name_is_new said name back distinct among
name_is_new (Some (Labelled n) ∷ said) name back distinct (inl is) =
    distinct.0 (subst (λ m. IsNameAmong m (labels (said ++ Some (Labelled name) ∷ back))) is (among_at said name back))
name_is_new (Some (Labelled n) ∷ said) name back distinct (inr among) = name_is_new said name back distinct.1 among
name_is_new (Some (Instruction i t) ∷ said) name back distinct among = name_is_new said name back distinct among

is_new : (said : List (Option Statement)) (s : Option Statement) (back : List (Option Statement))
    → AreDistinct (labels (said ++ s ∷ back)) → IsOld said s → ⊥
is_new said None back distinct old = old
is_new said (Some (Labelled name)) back distinct old = name_is_new said name back distinct old
is_new said (Some (Instruction i t)) back distinct old = old

fits_at : (said : List (Option Statement)) (s : Option Statement) (back : List (Option Statement))
    → AllByRecursion IsInRange (said ++ s ∷ back) → IsInRange s
fits_at [] s back fit = fit.0
fits_at (t ∷ said) s back fit = fits_at said s back fit.1

-- what lines with a line among them say
record SaysAt (before : List (List ℕ)) (line : List ℕ) (all : List (Option Statement)) : Type 0 where
  front : List (Option Statement)
  said : Option Statement
  back : List (Option Statement)
  split : all ≡ front ++ said ∷ back
  each : AllZip (λ l s. line_statement l ≡ Some s) before front
  read : line_statement line ≡ Some said

says_at : (before : List (List ℕ)) (line : List ℕ) (after : List (List ℕ)) (all : List (Option Statement))
    → AllZip (λ l s. line_statement l ≡ Some s) (before ++ line ∷ after) all → SaysAt before line all
says_at [] line after [] each = absurd each
says_at [] line after (s ∷ all) each = record
    { front = []; said = s; back = all; split = refl; each = tt; read = each.0 }
says_at (l ∷ before) line after [] each = absurd each
says_at (l ∷ before) line after (s ∷ all) each = let k = says_at before line after all each.1 in record {
  front = s ∷ k.front;
  said = k.said;
  back = k.back;
  split = ap (λ rest. s ∷ rest) k.split;
  each = (each.0, k.each);
  read = k.read;
}

-- the fault of one line, after lines that say this
abbrev LineFault : AsmError → ℕ → List (Option Statement) → Option (Option Statement) → Type 0
LineFault (error.Syntax m) n said s = (m ≡ n) × IsUnread said s
LineFault (error.Range m) n said s = (m ≡ n) × IsTooLarge said s
LineFault (error.DoubleLabel m) n said s = (m ≡ n) × IsOldLabel said s
LineFault error.TooLong n said s = ⊥
LineFault (error.UnknownLabel m) n said s = ⊥
LineFault error.Memory n said s = ⊥

-- a line that fits, with a new label if any, has no fault
no_fault : (e : AsmError) (n : ℕ) (said : List (Option Statement)) (s : Option Statement) → LineFault e n said (Some s)
    → IsInRange s → (IsOld said s → ⊥) → ⊥
no_fault (error.Syntax m) n said s fault fits new = let none : Some s ≡ None = fault.1 in cc
no_fault (error.Range m) n said s fault fits new = fault.1 fits
no_fault (error.DoubleLabel m) n said s fault fits new = new fault.1
no_fault error.TooLong n said s fault fits new = fault
no_fault (error.UnknownLabel m) n said s fault fits new = fault
no_fault error.Memory n said s fault fits new = fault

-- a label has no numbers
fits_or_new : (said : List (Option Statement)) (s : Option (Option Statement)) → IsUnfit s → IsOldLabel said s → ⊥
fits_or_new said None unfit old = unfit
fits_or_new said (Some None) unfit old = old
fits_or_new said (Some (Some (Labelled name))) unfit old = unfit tt
fits_or_new said (Some (Some (Instruction i t))) unfit old = old

-- a line has at most one fault
one_fault : (e f : AsmError) (n : ℕ) (said : List (Option Statement)) (s : Option (Option Statement))
    → LineFault e n said s → LineFault f n said s → e ≡ f
one_fault (error.Syntax m) (error.Syntax k) n said s a b = ap (λ i. error.Syntax i) (a.0 ∙ sym b.0)
one_fault (error.Syntax m) (error.Range k) n said s a b = absurd (subst IsUnfit a.1 b.1)
one_fault (error.Syntax m) (error.DoubleLabel k) n said s a b = absurd (subst (IsOldLabel said) a.1 b.1)
one_fault (error.Range m) (error.Syntax k) n said s a b = absurd (subst IsUnfit b.1 a.1)
one_fault (error.Range m) (error.Range k) n said s a b = ap (λ i. error.Range i) (a.0 ∙ sym b.0)
one_fault (error.Range m) (error.DoubleLabel k) n said s a b = absurd (fits_or_new said s a.1 b.1)
one_fault (error.DoubleLabel m) (error.Syntax k) n said s a b = absurd (subst (IsOldLabel said) b.1 a.1)
one_fault (error.DoubleLabel m) (error.Range k) n said s a b = absurd (fits_or_new said s b.1 a.1)
one_fault (error.DoubleLabel m) (error.DoubleLabel k) n said s a b = ap (λ i. error.DoubleLabel i) (a.0 ∙ sym b.0)
one_fault error.TooLong f n said s a b = absurd a
one_fault (error.UnknownLabel m) f n said s a b = absurd a
one_fault error.Memory f n said s a b = absurd a
one_fault e error.TooLong n said s a b = absurd b
one_fault e (error.UnknownLabel m) n said s a b = absurd b
one_fault e error.Memory n said s a b = absurd b

-- ---- the first line with a fault

-- a line has this fault, and those before it have none
record FailsAt (lines : List (List ℕ)) (e : AsmError) : Type 0 where
  before : List (List ℕ)
  line : List ℕ
  after : List (List ℕ)
  split : lines ≡ before ++ line ∷ after
  said : List (Option Statement)
  read : AreUnderstood before said
  fault : LineFault e (length before + 1) said (line_statement line)

-- then the lines up to it are not understood
not_understood : (before : List (List ℕ)) (line : List ℕ) (after : List (List ℕ)) (said all : List (Option Statement))
    (e : AsmError) (n : ℕ)
    → AreUnderstood before said → LineFault e n said (line_statement line) → AreUnderstood (before ++ line ∷ after) all → ⊥
not_understood before line after said all e n read fault whole = let k = says_at before line after all whole.each in
    let fronts : k.front ≡ said = said_is_one before k.front said k.each read.each in
    no_fault e n k.front k.said (subst (λ s. LineFault e n k.front s) k.read
    (subst (λ front. LineFault e n front (line_statement line)) (sym fronts) fault))
    (fits_at k.front k.said k.back (subst (AllByRecursion IsInRange) k.split whole.fit))
    (is_new k.front k.said k.back (subst (λ all. AreDistinct (labels all)) k.split whole.distinct))

fails_once : (lines : List (List ℕ)) (e f : AsmError) → FailsAt lines e → FailsAt lines f → e ≡ f
fails_once lines e f a b = by (cuts a.before a.line a.after b.before b.line b.after (sym a.split ∙ b.split))
  where
    by : Cuts a.before a.line b.before b.line → e ≡ f
    by (Same fronts here) =
        let saids : a.said ≡ b.said = said_is_one b.before a.said b.said
        (subst (λ ls. AllZip (λ l s. line_statement l ≡ Some s) ls a.said) fronts a.read.each) b.read.each in
        let moved : LineFault f (length a.before + 1) a.said (line_statement a.line) = rw (here, fronts, saids) b.fault in
        one_fault e f (length a.before + 1) a.said (line_statement a.line) a.fault moved
    by (Before more is) = absurd (not_understood a.before a.line more a.said b.said e _ a.read a.fault
        (subst (λ ls. AreUnderstood ls b.said) is b.read))
    by (After more is) = absurd (not_understood b.before b.line more b.said a.said f _ b.read b.fault
        (subst (λ ls. AreUnderstood ls a.said) is a.read))

-- ---- texts without a fault of a line

-- an unknown label leaves no code
unknown_is_none : (label_slots : Name → Option ℕ) (slot : ℕ) (before : List (Option Statement)) (i : Insn) (name : Name)
    (after : List (Option Statement))
    → label_slots name ≡ None → instructions_of label_slots slot (before ++ Some (Instruction i (Some name)) ∷ after) ≡ None
unknown_is_none label_slots slot [] i name after unknown = rw unknown
unknown_is_none label_slots slot (None ∷ before) i name after unknown = unknown_is_none label_slots slot before i name after
    unknown
unknown_is_none label_slots slot (Some (Labelled n) ∷ before) i name after unknown = unknown_is_none label_slots slot before i
    name after unknown
unknown_is_none label_slots slot (Some (Instruction h t) ∷ before) i name after unknown =
    by (linked_one label_slots slot h t) (unknown_is_none label_slots (slot + slots_of h) before i name after unknown)
  where
    by : (o : Option Insn) → instructions_of label_slots (slot + slots_of h)
        (before ++ Some (Instruction i (Some name)) ∷ after) ≡ None
        → option_and_then (λ j. option_map (λ code. j ∷ code)
        (instructions_of label_slots (slot + slots_of h) (before ++ Some (Instruction i (Some name)) ∷ after))) o ≡ None
    by None none = refl
    by (Some j) none = ap (option_map (λ code. j ∷ code)) none

-- the first unknown label is on one line
lacks_once : (said : List (Option Statement)) (n m : ℕ) → LacksLabel said n → LacksLabel said m → n ≡ m
lacks_once said n m a b = by (cuts a.before _ a.after b.before _ b.after (sym a.split ∙ b.split))
  where
    by : Cuts a.before (Some (Instruction a.insn (Some a.name))) b.before (Some (Instruction b.insn (Some b.name)))
        → n ≡ m
    by (Same fronts here) = omega (arith, a.count, b.count, ap length fronts)
    by (Before more is) = let none : is_some (instructions_of (slot_of_label said) 0 b.before) ≡ false = rw is
        (ap is_some (unknown_is_none (slot_of_label said) 0 a.before a.insn a.name more a.unknown)) in
        let known : is_some (instructions_of (slot_of_label said) 0 b.before) ≡ true = b.known in absurd cc
    by (After more is) = let none : is_some (instructions_of (slot_of_label said) 0 a.before) ≡ false = rw is
        (ap is_some (unknown_is_none (slot_of_label said) 0 b.before b.insn b.name more b.unknown)) in
        let known : is_some (instructions_of (slot_of_label said) 0 a.before) ≡ true = a.known in absurd cc

-- the slots of a jump stay the same with another distance
slots_kept : (i : Insn) (distance : ℤ) → slots_of (with_distance i distance) ≡ slots_of i
slots_kept (Jump d) distance = refl
slots_kept _ distance = refl

slots_of_linked : (label_slots : Name → Option ℕ) (slot : ℕ) (i : Insn) (target : Option Name) (j : Insn)
    → linked_one label_slots slot i target ≡ Some j → slots_of j ≡ slots_of i
slots_of_linked label_slots slot i None j is = let same : i ≡ j = cc in ap slots_of (sym same)
slots_of_linked label_slots slot i (Some name) j is = by (label_slots name) is
  where
    by : (o : Option ℕ) → option_map (λ p. with_distance i (pos p -ℤ pos (slot + 1))) o ≡ Some j
        → slots_of j ≡ slots_of i
    by None is = absurd cc
    by (Some p) is = let same : with_distance i (pos p -ℤ pos (slot + 1)) ≡ j = cc in ap slots_of (sym same)
        ∙ slots_kept i (pos p -ℤ pos (slot + 1))

-- the code has the slots of the lines
pub slots_of_code : (label_slots : Name → Option ℕ) (slot : ℕ) (said : List (Option Statement)) (code : List Insn)
    → instructions_of label_slots slot said ≡ Some code
    → slot_count code ≡ slots_in said
slots_of_code label_slots slot [] code is = let none : [] ≡ code = cc in ap slot_count (sym none)
slots_of_code label_slots slot (None ∷ said) code is = slots_of_code label_slots slot said code is
slots_of_code label_slots slot (Some (Labelled n) ∷ said) code is = slots_of_code label_slots slot said code is
slots_of_code label_slots slot (Some (Instruction i t) ∷ said) code is =
    by (linked_one label_slots slot i t) (instructions_of label_slots (slot + slots_of i) said) refl is
    (slots_of_code label_slots (slot + slots_of i) said)
  where
    by : (o : Option Insn) (q : Option (List Insn)) → linked_one label_slots slot i t ≡ o
        → option_and_then (λ j. option_map (λ c. j ∷ c) q) o ≡ Some code
        → ((tail : List Insn) → q ≡ Some tail → slot_count tail ≡ slots_in said)
        → slot_count code ≡ slots_of i + slots_in said
    by None q one is following = absurd cc
    by (Some j) None one is following = absurd cc
    by (Some j) (Some tail) one is following = let first : j ∷ tail ≡ code = cc in
        omega (arith, ap slot_count first, slots_of_linked label_slots slot i t j one, following tail refl)

-- ---- a text has one program or one refusal

-- the fault of a text whose lines say this
abbrev WholeFault : List (Option Statement) → AsmError → Type 0
WholeFault said error.TooLong = MAX_SLOTS < slots_in said
WholeFault said (error.UnknownLabel n) = (slots_in said ≤ MAX_SLOTS) × LacksLabel said n
WholeFault said (error.Syntax n) = ⊥
WholeFault said (error.Range n) = ⊥
WholeFault said (error.DoubleLabel n) = ⊥
WholeFault said error.Memory = ⊥

record FailsWhole (lines : List (List ℕ)) (e : AsmError) : Type 0 where
  said : List (Option Statement)
  read : AreUnderstood lines said
  fault : WholeFault said e

-- a line at which reading halts is the first with a fault
line_fails : (lines : List (List ℕ)) (e : AsmError) (n : ℕ)
    (F : List (Option Statement) → Option (Option Statement) → Type 0) (h : Halts lines n F)
    → LineFault e (length h.before + 1) h.said (line_statement h.line) → FailsAt lines e
line_fails lines e n F h fault = record {
  before = h.before;
  line = h.line;
  after = h.after;
  split = h.split;
  said = h.said;
  read = h.read;
  fault = fault;
}

-- a refusal is for one line, or for the text
failing : (lines : List (List ℕ)) (e : AsmError) → e ≢ error.Memory → IsHalted lines e
    → FailsAt lines e ⊎ FailsWhole lines e
failing lines (error.Syntax n) other h = inl (line_fails lines (error.Syntax n) n IsUnread h (h.count, h.fault))
failing lines (error.Range n) other h = inl (line_fails lines (error.Range n) n IsTooLarge h (h.count, h.fault))
failing lines (error.DoubleLabel n) other h = inl
    (line_fails lines (error.DoubleLabel n) n IsOldLabel h (h.count, h.fault))
failing lines error.TooLong other h = inr (record { said = h.0; read = h.1; fault = h.2 })
failing lines (error.UnknownLabel n) other h = inr (record { said = h.0; read = h.1; fault = (h.2, h.3) })
failing lines error.Memory other h = absurd (other refl)

whole_once : (said : List (Option Statement)) (e f : AsmError) → WholeFault said e → WholeFault said f → e ≡ f
whole_once said error.TooLong error.TooLong a b = refl
whole_once said error.TooLong (error.UnknownLabel m) a b = absurd (omega (arith, a, b.0))
whole_once said (error.UnknownLabel n) error.TooLong a b = absurd (omega (arith, a.0, b))
whole_once said (error.UnknownLabel n) (error.UnknownLabel m) a b = ap (λ k. error.UnknownLabel k)
    (lacks_once said n m a.1 b.1)
whole_once said (error.Syntax n) f a b = absurd a
whole_once said (error.Range n) f a b = absurd a
whole_once said (error.DoubleLabel n) f a b = absurd a
whole_once said error.Memory f a b = absurd a
whole_once said e (error.Syntax n) a b = absurd b
whole_once said e (error.Range n) a b = absurd b
whole_once said e (error.DoubleLabel n) a b = absurd b
whole_once said e error.Memory a b = absurd b

-- where a line fails, the lines are not understood
line_or_whole : (lines : List (List ℕ)) (e : AsmError) (all : List (Option Statement)) → FailsAt lines e
    → AreUnderstood lines all → ⊥
line_or_whole lines e all a whole = not_understood a.before a.line a.after a.said all e _ a.read a.fault
    (subst (λ ls. AreUnderstood ls all) a.split whole)

pub halts_once : (lines : List (List ℕ)) (e f : AsmError) → e ≢ error.Memory → f ≢ error.Memory → IsHalted lines e
    → IsHalted lines f → e ≡ f
halts_once lines e f of_line of_other a b = by (failing lines e of_line a) (failing lines f of_other b)
  where
    by : FailsAt lines e ⊎ FailsWhole lines e → FailsAt lines f ⊎ FailsWhole lines f → e ≡ f
    by (inl a) (inl b) = fails_once lines e f a b
    by (inl a) (inr b) = absurd (line_or_whole lines e b.said a b.read)
    by (inr a) (inl b) = absurd (line_or_whole lines f a.said b a.read)
    by (inr a) (inr b) = whole_once a.said e f a.fault
        (subst (λ said. WholeFault said f) (said_is_one lines b.said a.said b.read.each a.read.each) b.fault)

-- a text that has a program is refused for a failed allocation alone
pub halts_or_code : (text : List ℕ) (code : List Insn) (e : AsmError) → e ≢ error.Memory → IsCodeOf text code
    → IsHalted (lines_of text) e → ⊥
halts_or_code text code e other a h = by (failing (lines_of text) e other h)
  where
    whole : (e : AsmError) → WholeFault a.said e → ⊥
    whole error.TooLong many = omega (arith, a.few, many)
    whole (error.UnknownLabel n) (few, lacks) = let none : instructions_of (slot_of_label a.said) 0 a.said ≡ None =
        ap (λ said. instructions_of (slot_of_label a.said) 0 said) lacks.split
        ∙ unknown_is_none (slot_of_label a.said) 0 lacks.before lacks.insn lacks.name lacks.after lacks.unknown in
        let both : Some code ≡ None = sym a.linked ∙ none in cc
    whole (error.Syntax n) fault = fault
    whole (error.Range n) fault = fault
    whole (error.DoubleLabel n) fault = fault
    whole error.Memory fault = fault

    by : FailsAt (lines_of text) e ⊎ FailsWhole (lines_of text) e → ⊥
    by (inl at) = line_or_whole (lines_of text) e a.said at a.read
    by (inr all) = whole e (subst (λ said. WholeFault said e)
        (said_is_one (lines_of text) all.said a.said all.read.each a.read.each) all.fault)
