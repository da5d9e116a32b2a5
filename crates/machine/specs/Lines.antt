-- Interface. The lines that an output has of steps.
use Rattle.std.specs.Prelude.{◌≡◌, ℕ, true, false, List, [], ◌∷◌, ◌++◌, Option, None, Some, codes, decimal}
use Rattle.std.specs.Io.KnownBytes.{Appends}
use Rattle.std.specs.List.{flat_map}
use Rattle.std.proofs.Common.{sym, ap, ◌∙◌, subst, append_assoc}
use Rattle.std.proofs.lemmas.List.{append-nil}
use Rattle.basics.specs.Outputs.{OutputState}
use Rattle.insn.specs.declared.instruction.Insn.{Insn}
use Rattle.insn.specs.Spelling.{spelling}
use Rattle.semantics.specs.declared.fetching.Visit.{Visit}
use Rattle.machine.specs.Tracing.{Reports}

-- the line of a step: the slot, a space, and the spelling of the instruction
abbrev pub step_line : ℕ → Insn → List ℕ
step_line slot i = decimal slot ++ codes " " ++ spelling i ++ codes "\n"

-- the lines of steps
abbrev pub step_lines : List Visit → List ℕ
step_lines path = flat_map (λ v. step_line v.slot v.insn) path

-- one more step: where the output has not failed, it holds the line of the step more; once it has failed nothing changes
pub record WritesLine (old : OutputState) (v : Visit) (new : OutputState) : Type 0 where
  pub going : new.failed ≡ false → old.failed ≡ false
  pub written : new.failed ≡ false → Appends old.contents new.contents (step_line v.slot v.insn)
  pub after_a_failure : old.failed ≡ true → new ≡ old

-- ---- laws

pub appends_nothing : (known : Option (List ℕ)) → Appends known known []
appends_nothing None = tt
appends_nothing (Some xs) = sym (append-nil xs)

pub appends_more : (old between new : Option (List ℕ)) (front back : List ℕ) → Appends old between front → Appends between new back → Appends old new (front ++ back)
appends_more None between new front back f b = tt
appends_more (Some xs) None new front back f b = absurd f
appends_more (Some xs) (Some ys) None front back f b = absurd b
appends_more (Some xs) (Some ys) (Some zs) front back f b = b ∙ ap (λ (l : List ℕ). l ++ back) f ∙ append_assoc xs front back

-- the lines of a path, where the output has not failed
pub record WritesLines (old : OutputState) (path : List Visit) (new : OutputState) : Type 0 where
  pub going : new.failed ≡ false → old.failed ≡ false
  pub written : new.failed ≡ false → Appends old.contents new.contents (step_lines path)

pub lines_written : (old : OutputState) (path : List Visit) (new : OutputState) → Reports WritesLine old path new → WritesLines old path new
lines_written old [] new same = subst (λ (w : OutputState). WritesLines old [] w) same (record {
  going = λ none. none;
  written = λ none. appends_nothing old.contents;
})
lines_written old (v ∷ path) new logs =
    let between : OutputState = logs.0 in
    let first = logs.1 in
    let more = lines_written between path new logs.2 in
    record {
      going = λ none. first.going (more.going none);
      written = λ none. appends_more old.contents between.contents new.contents (step_line v.slot v.insn) (step_lines path) (first.written (more.going none)) (more.written none);
    }
