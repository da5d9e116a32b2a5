-- Texts that are appended, and the lines that they have.
use Rattle.std.proofs.Common.{◌≡◌, ℕ, zero, suc, ◌+◌, ◌-◌, ◌<◌, Bool, true, false, not, ◌||◌, cond, List, [], ◌∷◌, ◌++◌, Option, None, Some, Result, Ok, Err, OnOk, IfOk, inl, inr, ◌≤◌, length, take, refl, sym, ap, ap₂, ◌∙◌, subst, arith, append-nil, append_assoc}
use Rattle.std.specs.Prelude.{codes, slice_index_or}
use Rattle.std.specs.List.{list_any, before_first, position_or_len, repeat}
use Rattle.std.specs.Io.KnownBytes.{Appends, Keeps}
use Rattle.interval.specs.Intervals.{interval_ops, LiesBetween}
use Rattle.loader.specs.Loads.{IsMemoryRefusal}
use Rattle.loader.specs.declared.loaded.TheConstants.{BUDGET}
use Rattle.loader.specs.declared.refusal.LoadError.TheVariants.{Verify}
use Rattle.verifier.specs.Refusing.{CountsSteps}
use Rattle.verifier.specs.Walks.{EndsWalk}
use Rattle.verifier.specs.declared.refusal.Refusal.{Refusal}
use Rattle.verifier.specs.declared.refusal.Refusal.TheVariants.{Stuck, Budget, Memory}
use Rattle.explaining.specs.Paths.{IsStatePath, ShowsRefusal}
use Rattle.insn.specs.Encoding.{Encodes}
use Rattle.insn.specs.declared.instruction.Insn.{Insn}
use Rattle.interval.specs.declared.interval.Interval.{Interval}
use Rattle.semantics.specs.Slots.{fetch}
use Rattle.semantics.specs.declared.fetching.Fetched.{Fetched}
use Rattle.semantics.specs.declared.fetching.Fetched.TheVariants.{Begins, Inside, Past}
use Rattle.verifier.specs.declared.walk.Pending.{Pending}
use Rattle.verifier.specs.declared.walk.Verified.{Verified}
use Rattle.explaining.specs.Lines.{is_newline, step_text, note_text, line_text, step_begun, step_at, steps_of, made_of, refusal_slot, BeginLines, AppendsLines, AppendsText, IsRest, IsRefusalOf, HasWalked, ExplainsRefusal, ExplainsCode, ExplainsFile}
use Rattle.explaining.specs.declared.file.Explained.{Explained}
use Rattle.explaining.specs.declared.file.Explained.TheVariants.{Accepted, Refused}

appends_then : (a b c : Option (List ℕ)) (s t : List ℕ) → Appends a b s → Appends b c t → Appends a c (s ++ t)
appends_then None b c s t p q = tt
appends_then (Some xs) None c s t p q = absurd p
appends_then (Some xs) (Some ys) None s t p q = absurd q
appends_then (Some xs) (Some ys) (Some zs) s t p q = q ∙ ap (λ (l : List ℕ). l ++ t) p ∙ append_assoc xs s t

appends_nothing : (a : Option (List ℕ)) → Appends a a []
appends_nothing None = tt
appends_nothing (Some xs) = sym (append-nil xs)

pub no_text : (a : Option (List ℕ)) → AppendsText a a
no_text a = ([], appends_nothing a)

pub more_text : (a b c : Option (List ℕ)) (t : List ℕ) → AppendsText a b → Appends b c t → AppendsText a c
more_text a b c t before after = (before.0 ++ t, appends_then a b c before.0 t before.1 after)

-- ---- lines

pub no_lines : (a : Option (List ℕ)) → AppendsLines [] a a
no_lines a = ([], (refl, appends_nothing a))

lines_then : (xs ys : List (List ℕ)) (s t : List ℕ) → BeginLines xs s → BeginLines ys t → BeginLines (xs ++ ys) (s ++ t)
lines_then [] ys s t p q = subst (λ (l : List ℕ). BeginLines ys (l ++ t)) (sym p) q
lines_then (x ∷ xs) ys s t (note, rest, (is, (one, others))) q =
    (note, rest ++ t, (ap (λ (l : List ℕ). l ++ t) is ∙ append_assoc (x ++ note ++ codes "\n") rest t, (one, lines_then xs ys rest t others q)))

pub both_lines : (xs ys : List (List ℕ)) (a b c : Option (List ℕ)) → AppendsLines xs a b → AppendsLines ys b c → AppendsLines (xs ++ ys) a c
both_lines xs ys a b c (s, (begins, appends)) (t, (others, more)) = (s ++ t, (lines_then xs ys s t begins others, appends_then a b c s t appends more))

-- ---- one line

any_append : (xs ys : List ℕ) → list_any is_newline xs ≡ false → list_any is_newline ys ≡ false → list_any is_newline (xs ++ ys) ≡ false
any_append [] ys none other = other
any_append (x ∷ xs) ys none other = by (is_newline x) none (any_append xs ys) where
  by : (b : Bool) → (b || list_any is_newline xs) ≡ false → (list_any is_newline xs ≡ false → list_any is_newline ys ≡ false → list_any is_newline (xs ++ ys) ≡ false) → (b || list_any is_newline (xs ++ ys)) ≡ false
  by true none rest = absurd cc
  by false none rest = rest none other

no_newline_in_blanks : (n : ℕ) → list_any is_newline (repeat n (codes " ")) ≡ false
no_newline_in_blanks zero = refl
no_newline_in_blanks (suc n) = no_newline_in_blanks n

no_newline_after : (columns : ℕ) (note : List ℕ) → list_any is_newline note ≡ false → list_any is_newline (note_text columns note) ≡ false
no_newline_after columns [] none = refl
no_newline_after columns (b ∷ note) none =
    any_append (repeat (25 - columns) (codes " ") ++ codes " ; ") (b ∷ note) (any_append (repeat (25 - columns) (codes " ")) (codes " ; ") (no_newline_in_blanks (25 - columns)) refl) none

no_newline_first : (note : List ℕ) → list_any is_newline (before_first is_newline note) ≡ false
no_newline_first [] = refl
no_newline_first (b ∷ note) = by (is_newline b) refl (no_newline_first note) where
  by : (test : Bool) → is_newline b ≡ test → list_any is_newline (before_first is_newline note) ≡ false → list_any is_newline (take (cond (not test) (1 + position_or_len is_newline note) 0) (b ∷ note)) ≡ false
  by true e rest = refl
  by false e rest =
      let next : 1 + position_or_len is_newline note ≡ suc (position_or_len is_newline note) = omega arith in
      ap (λ (n : ℕ). list_any is_newline (take n (b ∷ note))) next ∙ ap (λ (first : Bool). first || list_any is_newline (before_first is_newline note)) e ∙ rest

pub one_line : (slot : ℕ) (i : Insn) (note : List ℕ) (a b : Option (List ℕ)) → Appends a b (line_text slot i note) → AppendsLines (step_text slot i ∷ []) a b
one_line slot i note a b appends =
    let after : List ℕ = note_text (length (step_text slot i)) (before_first is_newline note) in (
      line_text slot i note,
      ((after, [], (sym (append-nil (line_text slot i note)), (no_newline_after (length (step_text slot i)) (before_first is_newline note) (no_newline_first note), refl))), appends),
    )

pub noted : (step note : List ℕ) → (note ≡ [] → ⊥) → step ++ repeat (25 - length step) (codes " ") ++ codes " ; " ++ note ++ codes "\n" ≡ step ++ note_text (length step) note ++ codes "\n"
noted step [] some = absurd (some refl)
noted step (b ∷ note) some =
    let blank : List ℕ = repeat (25 - length step) (codes " ") in
    ap (λ (l : List ℕ). l ++ codes "\n") (ap (λ (l : List ℕ). l ++ b ∷ note) (append_assoc step blank (codes " ; ")) ∙ append_assoc step (blank ++ codes " ; ") (b ∷ note))

pub if_ok : {A E : Type 0} {P Q : Type 0} (r : Result A E) → OnOk r P → (P → Q) → OnOk r Q
if_ok (Ok x) p f = f p
if_ok (Err e) p f = tt

-- ---- the steps of a path

step_is : (code : List Insn) (slot : ℕ) (fetched : Fetched) (i : Insn) → fetched ≡ fetch code slot → fetched ≡ Begins i → step_text slot i ∷ [] ≡ step_at code slot
step_is code slot fetched i read begins = ap (λ (f : Fetched). step_begun f slot) (sym begins ∙ read)

none_begun : (fetched : Fetched) (slot : ℕ) → ((i : Insn) → fetched ≡ Begins i → ⊥) → step_begun fetched slot ≡ []
none_begun (Begins i) slot none = absurd (none i refl)
none_begun Inside slot none = refl
none_begun Past slot none = refl

pub line_at : (code : List Insn) (slot : ℕ) (fetched : Fetched) (i : Insn) (note : List ℕ) (a b : Option (List ℕ)) → fetched ≡ fetch code slot → fetched ≡ Begins i → Appends a b (line_text slot i note) → AppendsLines (step_at code slot) a b
line_at code slot fetched i note a b read begins appends = subst (λ (firsts : List (List ℕ)). AppendsLines firsts a b) (step_is code slot fetched i read begins) (one_line slot i note a b appends)

pub no_line_at : (code : List Insn) (slot : ℕ) (fetched : Fetched) (a : Option (List ℕ)) → fetched ≡ fetch code slot → ((i : Insn) → fetched ≡ Begins i → ⊥) → AppendsLines (step_at code slot) a a
no_line_at code slot fetched a read none = subst (λ (firsts : List (List ℕ)). AppendsLines firsts a a) (sym (none_begun fetched slot none) ∙ ap (λ (f : Fetched). step_begun f slot) read) (no_lines a)

steps_append : (code : List Insn) (xs : List (Pending Interval)) (p : Pending Interval) → steps_of code (xs ++ p ∷ []) ≡ steps_of code xs ++ step_at code p.slot
steps_append code [] p = append-nil (step_at code p.slot)
steps_append code (x ∷ xs) p = ap (λ (l : List (List ℕ)). step_at code x.slot ++ l) (steps_append code xs p) ∙ sym (append_assoc (step_at code x.slot) (steps_of code xs) (step_at code p.slot))

take_next : (n : ℕ) (path : List (Pending Interval)) (here : Pending Interval) → n < length path → here ≡ slice_index_or path n here → take (suc n) path ≡ take n path ++ here ∷ []
take_next n [] here lt read = absurd (omega (arith, lt))
take_next zero (p ∷ path) here lt read = ap (λ (q : Pending Interval). q ∷ []) (sym read)
take_next (suc n) (p ∷ path) here lt read = ap (λ (l : List (Pending Interval)). p ∷ l) (take_next n path here (omega (arith, lt)) read)

pub next_step : (code : List Insn) (path : List (Pending Interval)) (i : ℕ) (here : Pending Interval) → 1 ≤ i → i < length path → here ≡ slice_index_or path (i - 1) here → (a b c : Option (List ℕ))
    → AppendsLines (steps_of code (take (i - 1) path)) a b → AppendsLines (step_at code here.slot) b c → AppendsLines (steps_of code (take (i + 1 - 1) path)) a c
next_step code path i here some lt read a b c before one =
    let next : i + 1 - 1 ≡ suc (i - 1) = omega (arith, some) in
    let more : steps_of code (take (i + 1 - 1) path) ≡ steps_of code (take (i - 1) path) ++ step_at code here.slot =
    ap (λ (n : ℕ). steps_of code (take n path)) next ∙ ap (steps_of code) (take_next (i - 1) path here (omega (arith, some, lt)) read) ∙ steps_append code (take (i - 1) path) here in
    subst (λ (firsts : List (List ℕ)). AppendsLines firsts a c) (sym more) (both_lines (steps_of code (take (i - 1) path)) (step_at code here.slot) a b c before one)

-- ---- explanations

pub steps_as : (program code : List Insn) (given path : List (Pending Interval)) (a b : Option (List ℕ)) → program ≡ code → given ≡ path → AppendsLines (steps_of program (made_of given)) a b → AppendsLines (steps_of code (made_of path)) a b
steps_as program code given path a b is same = subst (λ (firsts : List (List ℕ)). AppendsLines firsts a b) (ap₂ (λ (c : List Insn) (p : List (Pending Interval)). steps_of c (made_of p)) is same)

pub step_as : (program code : List Insn) (slot : ℕ) (a b : Option (List ℕ)) → program ≡ code → AppendsLines (step_at program slot) a b → AppendsLines (step_at code slot) a b
step_as program code slot a b is = subst (λ (firsts : List (List ℕ)). AppendsLines firsts a b) (ap (λ (c : List Insn). step_at c slot) is)

pub nothing_more : (refusal : Refusal) (a : Option (List ℕ)) → IsRest refusal (no_text a).0
unfolding no_text
nothing_more (Stuck reason slot) a = refl
nothing_more (Budget slot) a = tt
nothing_more (Memory slot) a = refl

pub after_budget : (refusal : Refusal) (slot : ℕ) (text : List ℕ) → refusal ≡ Budget slot → IsRest refusal text
after_budget refusal slot text is = subst (λ (r : Refusal). IsRest r text) (sym is) tt

-- the refusal that the walk has come to, where memory hasn't run out
pub refusal_of : (code : List Insn) (verdict : Result Verified Refusal) (e : Refusal) → verdict ≡ Err e → HasWalked code verdict → (IsMemoryRefusal (Verify e) → ⊥) → IsRefusalOf code e
refusal_of code verdict e is (made, (walked, counts)) other = record {
  made = made;
  walked = subst (λ (r : Result Verified Refusal). EndsWalk interval_ops LiesBetween code 0 made r) is walked;
  counts = subst (λ (r : Result Verified Refusal). CountsSteps BUDGET 0 made r) is counts;
  other = other;
}

pub explained : (code : List Insn) (path : List (Pending Interval)) (refusal : Refusal) (a b c d : Option (List ℕ)) → IsRefusalOf code refusal → IsStatePath interval_ops code path → ShowsRefusal code path refusal
    → AppendsLines (steps_of code (made_of path)) a b → AppendsLines (step_at code (refusal_slot refusal)) b c → (text : AppendsText c d) → IsRest refusal text.0 → ExplainsRefusal code a d
explained code path refusal a b c d is_refusal is_path shows steps last text rest =
    let both : AppendsLines (steps_of code (made_of path) ++ step_at code (refusal_slot refusal)) a c = both_lines (steps_of code (made_of path)) (step_at code (refusal_slot refusal)) a b c steps last in
    record {
      refusal = refusal;
      is_refusal = is_refusal;
      path = path;
      is_path = is_path;
      shows = shows;
      lines = both.0;
      rest = text.0;
      begin_lines = both.1.0;
      is_rest = rest;
      appends = appends_then a c d both.0 text.0 both.1.1 text.1;
    }

keeps_appended : (a b c : Option (List ℕ)) (t : List ℕ) → Appends a b t → Keeps b c → Appends a c t
keeps_appended None b c t p q = tt
keeps_appended (Some xs) None c t p q = absurd p
keeps_appended (Some xs) (Some ys) None t p q = absurd q
keeps_appended (Some xs) (Some ys) (Some zs) t p q = q ∙ p

-- the lines of a file, from those of the program that it encodes, or from why it encodes none
pub code_lines : (code : List Insn) (file : List ℕ) (a b : Option (List ℕ)) → Encodes code file → (found : Explained) → ExplainsCode code a b found → ExplainsFile file a b found
code_lines code file a b encodes (Accepted cost effort) explains = tt
code_lines code file a b encodes Refused explains = inl (code, (encodes, explains))

pub kept_explained : (file : List ℕ) (a b c : Option (List ℕ)) (found : Explained) → Keeps b c → ExplainsFile file a b found → ExplainsFile file a c found
kept_explained file a b c (Accepted cost effort) keeps explains = tt
kept_explained file a b c Refused keeps (inl (code, (encodes, e))) = inl (
  code,
  (
    encodes,
    record {
      refusal = e.refusal;
      is_refusal = e.is_refusal;
      path = e.path;
      is_path = e.is_path;
      shows = e.shows;
      lines = e.lines;
      rest = e.rest;
      begin_lines = e.begin_lines;
      is_rest = e.is_rest;
      appends = keeps_appended a b c (e.lines ++ e.rest) e.appends keeps;
    },
  ),
)
kept_explained file a b c Refused keeps (inr fault) = inr fault

pub if_value : {A E : Type 0} (P Q : A → Type 0) (r : Result A E) → IfOk r P → ((x : A) → P x → Q x) → IfOk r Q
if_value P Q (Ok x) p f = f x p
if_value P Q (Err e) p f = tt

pub if_both : {A E : Type 0} (P Q R : A → Type 0) (r : Result A E) → IfOk r P → IfOk r Q → ((x : A) → P x → Q x → R x) → IfOk r R
if_both P Q R (Ok x) p q f = f x p q
if_both P Q R (Err e) p q f = tt
