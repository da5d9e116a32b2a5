use Rattle.std.proofs.Common.{ℕ, ◌+◌, length, sym, ap, ◌∙◌, subst}
use denote.Memory.{lone}
use Rattle.verifier.specs.Keeping.{kept_at, is_covered}
use Rattle.verifier.specs.Searches.{HasPassed, Finds, Weighs, passed_after}
use Rattle.verifier.specs.Slices.{passed_of, passed_at, HasDoneUnit}
use Rattle.verifier.specs.declared.kept.KeptStates.{KeptStates}
use Rattle.verifier.specs.declared.kept.SearchProgress.{SearchProgress}
use Rattle.verifier.specs.declared.kept.SearchProgress.TheVariants.{Covered, Uncovered}
use Rattle.verifier.specs.declared.slices.Frontier.{Frontier}
use Rattle.verifier.specs.declared.walk.Path.{Path}
use Rattle.verifier.specs.declared.walk.Pending.{Pending}
use Rattle.verifier.specs.declared.weights.TheConstants.{UNIT}
use Rattle.verifier.proofs.Sizes.{pending_fits}
use Rattle.verifier.proofs.Slicing.{IsResumed, unit_ends, settles_unit, opens_unit}
use Rattle.verifier.proofs.slices.run_unit.Goals as goal
use Rattle.verifier.proofs.slices.run_unit.Goals.{in-Covered+in_ok-settle-in-Covered, in-Uncovered+in_ok-settle-in-Uncovered, in-Open}

pub returns-in-Ended-clause-ended : goal.returns-in-Ended-clause-ended
returns-in-Ended-clause-ended g c =
    unit_ends g.D.Domain.ops g.D.Domain.Member c.args.program.now c.args.budget c.args.at.now c.requires.pauses c.requires.within c.args.steps.now (sym c.take_next.ensures.waits ∙ c.take_next.ensures.none c.in-Ended.is)

pub search-found-requires : goal.search-found-requires
search-found-requires g c =
    let here : HasPassed g.D.Domain.ops (kept_at c.take_next.new.at.kept c.take_next.new.at.here.value.slot) c.take_next.new.at.passed c.take_next.new.at.here.value.state =
    subst (λ (path : Path). HasPassed g.D.Domain.ops (kept_at c.take_next.new.at.kept c.take_next.new.at.here.value.slot) (passed_of path c.take_next.new.at.passed) c.take_next.new.at.here.value.state) (c.take_next.ensures.path ∙ c.in_default.is) (c.take_next.ensures.known c.requires.passed) in (
      pending_fits (lone g.row.D.mir) g.met.D.Domain.small,
      subst (λ (p : Pending g.row.D.Denot). HasPassed g.D.Domain.ops (kept_at c.take_next.new.at.kept p.slot) c.take_next.new.at.passed p.state) (sym c.deref.ensures) here,
    )

pub settle-requires-clause-covered : goal.settle-requires-clause-covered
settle-requires-clause-covered g c =
    let found : Finds g.D.Domain.ops g.D.Domain.Member (kept_at c.take_next.new.at.kept c.deref.result.now.slot) c.take_next.new.at.passed c.deref.result.now.state Covered =
    subst (Finds g.D.Domain.ops g.D.Domain.Member (kept_at c.take_next.new.at.kept c.deref.result.now.slot) c.take_next.new.at.passed c.deref.result.now.state) c.in-Covered.is c.search-found.ensures.found in
    sym (ap (λ (k : KeptStates g.row.D.Denot). is_covered g.D.Domain.ops (kept_at k) c.take_next.new.at.here.value) c.search-found.ensures.same
    ∙ ap (λ (p : Pending g.row.D.Denot). is_covered g.D.Domain.ops (kept_at c.take_next.new.at.kept) p) (sym c.deref.ensures) ∙ found.0)

pub settle-requires-in-Uncovered-clause-covered : goal.settle-requires-in-Uncovered-clause-covered
settle-requires-in-Uncovered-clause-covered g c =
    let found : Finds g.D.Domain.ops g.D.Domain.Member (kept_at c.take_next.new.at.kept c.deref.result.now.slot) c.take_next.new.at.passed c.deref.result.now.state Uncovered =
    subst (Finds g.D.Domain.ops g.D.Domain.Member (kept_at c.take_next.new.at.kept c.deref.result.now.slot) c.take_next.new.at.passed c.deref.result.now.state) c.in-Uncovered.is c.search-found.ensures.found in
    sym (ap (λ (k : KeptStates g.row.D.Denot). is_covered g.D.Domain.ops (kept_at k) c.take_next.new.at.here.value) c.search-found.ensures.same
    ∙ ap (λ (p : Pending g.row.D.Denot). is_covered g.D.Domain.ops (kept_at c.take_next.new.at.kept) p) (sym c.deref.ensures) ∙ found)

pub returns-clause-on : goal.returns-clause-on
returns-clause-on g c =
    let at : Frontier g.row.D.Denot = record c.take_next.new.at { kept = c.search-found.new.self } in
    let is : IsResumed g.D.Domain.ops g.D.Domain.Member c.args.program.now c.args.budget c.args.at.now at = record {
      pauses = c.requires.pauses;
      within = c.requires.within;
      on = c.take_next.ensures.path ∙ c.in_default.is;
      waits = c.take_next.ensures.waits;
      kept = c.search-found.ensures.same ∙ c.take_next.ensures.kept;
      made = c.take_next.ensures.made;
      passed = c.take_next.ensures.passed;
      ahead = c.take_next.ensures.ahead;
      has_passed = subst (λ (k : KeptStates g.row.D.Denot). HasPassed g.D.Domain.ops (kept_at k c.take_next.new.at.here.value.slot) (passed_at c.take_next.new.at) c.take_next.new.at.here.value.state) (sym c.search-found.ensures.same) (c.take_next.ensures.known c.requires.passed);
    } in
    let weighs : Weighs c.search-found.result.0 (length (kept_at c.search-found.new.self c.take_next.new.at.here.value.slot)) c.take_next.new.at.passed c.search-found.result.1 =
    subst (λ (k : KeptStates g.row.D.Denot). Weighs c.search-found.result.0 (length (kept_at k c.take_next.new.at.here.value.slot)) c.take_next.new.at.passed c.search-found.result.1) (sym c.search-found.ensures.same)
    (subst (λ (p : Pending g.row.D.Denot). Weighs c.search-found.result.0 (length (kept_at c.take_next.new.at.kept p.slot)) c.take_next.new.at.passed c.search-found.result.1) c.deref.ensures c.search-found.ensures.weight) in
    let finds : Finds g.D.Domain.ops g.D.Domain.Member (kept_at c.search-found.new.self c.take_next.new.at.here.value.slot) c.take_next.new.at.passed c.take_next.new.at.here.value.state c.search-found.result.0 =
    subst (λ (k : KeptStates g.row.D.Denot). Finds g.D.Domain.ops g.D.Domain.Member (kept_at k c.take_next.new.at.here.value.slot) c.take_next.new.at.passed c.take_next.new.at.here.value.state c.search-found.result.0) (sym c.search-found.ensures.same)
    (subst (λ (p : Pending g.row.D.Denot). Finds g.D.Domain.ops g.D.Domain.Member (kept_at c.take_next.new.at.kept p.slot) c.take_next.new.at.passed p.state c.search-found.result.0) c.deref.ensures c.search-found.ensures.found) in
    elim c.match-found.branch [
      | in-Covered+in_ok-settle-in-Covered w ↦
          subst (λ (to : Frontier g.row.D.Denot). HasDoneUnit g.D.Domain.ops g.D.Domain.Member c.args.program.now c.args.budget c.args.at.now to c.args.steps.now c.match-found.steps (UNIT + c.search-found.result.1)) (sym w.at-is)
          (subst (λ (n : ℕ). HasDoneUnit g.D.Domain.ops g.D.Domain.Member c.args.program.now c.args.budget c.args.at.now w.settle.new.at c.args.steps.now n (UNIT + c.search-found.result.1)) (sym w.steps-is)
          (settles_unit g.D.Domain.ops g.D.Domain.Member c.args.program.now c.args.budget c.args.at.now at is w.settle.new.at c.args.steps.now w.settle.new.steps c.search-found.result.1 c.search-found.result.0 w.in_ok-settle-in-Covered.ensures.settled w.in_ok-settle-in-Covered.ensures.ahead weighs
          (ap (λ (found : SearchProgress). passed_after found (length (kept_at c.search-found.new.self c.take_next.new.at.here.value.slot))) w.in-Covered.is)))
      | in-Uncovered+in_ok-settle-in-Uncovered w ↦
          subst (λ (to : Frontier g.row.D.Denot). HasDoneUnit g.D.Domain.ops g.D.Domain.Member c.args.program.now c.args.budget c.args.at.now to c.args.steps.now c.match-found.steps (UNIT + c.search-found.result.1)) (sym w.at-is)
          (subst (λ (n : ℕ). HasDoneUnit g.D.Domain.ops g.D.Domain.Member c.args.program.now c.args.budget c.args.at.now w.settle-in-Uncovered.new.at c.args.steps.now n (UNIT + c.search-found.result.1)) (sym w.steps-is)
          (settles_unit g.D.Domain.ops g.D.Domain.Member c.args.program.now c.args.budget c.args.at.now at is w.settle-in-Uncovered.new.at c.args.steps.now w.settle-in-Uncovered.new.steps c.search-found.result.1 c.search-found.result.0 w.in_ok-settle-in-Uncovered.ensures.settled w.in_ok-settle-in-Uncovered.ensures.ahead weighs
          (ap (λ (found : SearchProgress). passed_after found (length (kept_at c.search-found.new.self c.take_next.new.at.here.value.slot))) w.in-Uncovered.is)))
      | in-Open w ↦
          subst (λ (to : Frontier g.row.D.Denot). HasDoneUnit g.D.Domain.ops g.D.Domain.Member c.args.program.now c.args.budget c.args.at.now to c.args.steps.now c.match-found.steps (UNIT + c.search-found.result.1)) (sym w.at-is)
          (subst (λ (n : ℕ). HasDoneUnit g.D.Domain.ops g.D.Domain.Member c.args.program.now c.args.budget c.args.at.now (record at { passed = w.in-Open.passed }) c.args.steps.now n (UNIT + c.search-found.result.1)) (sym w.steps-is)
          (opens_unit g.D.Domain.ops g.D.Domain.Member c.args.program.now c.args.budget c.args.at.now at is c.args.steps.now c.search-found.result.1 w.in-Open.passed
          (subst (Finds g.D.Domain.ops g.D.Domain.Member (kept_at c.search-found.new.self c.take_next.new.at.here.value.slot) c.take_next.new.at.passed c.take_next.new.at.here.value.state) w.in-Open.is finds)
          (subst (λ (found : SearchProgress). Weighs found (length (kept_at c.search-found.new.self c.take_next.new.at.here.value.slot)) c.take_next.new.at.passed c.search-found.result.1) w.in-Open.is weighs)))
    ]
