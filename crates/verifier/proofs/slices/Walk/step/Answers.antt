use Rattle.std.proofs.Common.{◌≡◌, ℕ, List, Ok, Err, refl, subst}
use Rattle.insn.specs.declared.instruction.Insn.{Insn}
use Rattle.interval.specs.Domains.{Operations}
use Rattle.verifier.specs.SliceEnds.{GoesOnBy, EndsIn}
use Rattle.verifier.specs.Slices.{Walking, walking_at, HasSettled, IfContinues, Stops, StopsIn}
use Rattle.verifier.specs.declared.walk.Path.{Path}
use Rattle.verifier.specs.declared.walk.Path.TheVariants.{Continues, Ended}
use Rattle.verifier.proofs.Slicing.{goes_on_step, ends_slice, ended_safe, stops_with, refused_with}
use Rattle.verifier.proofs.slices.Walk.step.Goals as goal

-- where no state waits
stops_of : {D : Type 0} (ops : Operations D) (Member : D → ℕ → Type 0) (code other : List Insn) (budget made slice old new : ℕ) (path : Path) → path ≡ Ended → other ≡ code → StopsIn ops Member other budget made slice old new (Ok path) → Stops {T = Unit {0}} ops Member code budget made slice old new (Ok tt)
stops_of ops Member code other budget made slice old new path ended same stops =
    let there : StopsIn ops Member other budget made slice old new (Ok Ended) = subst (λ (p : Path). StopsIn ops Member other budget made slice old new (Ok p)) ended stops in
    subst (λ (k : List Insn). Stops {T = Unit {0}} ops Member k budget made slice old new (Ok tt)) same there

pub invariant_of-result : goal.invariant_of-result
invariant_of-result g c =
    let stops = stops_of g.D.Domain.ops g.D.Domain.Member c.self.inside.translation c.program.result.now c.self.inside.budget c.self.inside.at.made 1 c.args.steps.now c.step_next.new.steps c.in-Ok-Ended.field-0 c.in-Ok-Ended.field-0-is c.program.ensures c.in-Ok-Ended.ensures.ended in
    record { safe = ended_safe g.D.Domain.ops g.D.Domain.Member g.met.D.Domain.laws c.self.inside.translation c.self.invariant.0.laid_out stops.made stops.end.0 stops.end.1; few = c.self.invariant.0.few }

pub returns-in-Err-clause-slice : goal.returns-in-Err-clause-slice
returns-in-Err-clause-slice g c =
    let stops : Stops {T = Unit {0}} g.D.Domain.ops g.D.Domain.Member c.self.inside.translation c.self.inside.budget c.self.inside.at.made 1 c.args.steps.now c.step_next.new.steps (Err c.in-Err.refusal) =
    subst (λ (code : List Insn). Stops {T = Unit {0}} g.D.Domain.ops g.D.Domain.Member code c.self.inside.budget c.self.inside.at.made 1 c.args.steps.now c.step_next.new.steps (Err c.in-Err.refusal)) c.program.ensures c.in-Err.ensures.ended in
    subst (λ (w : Walking g.row.D.Denot). EndsIn g.D.Domain.ops g.D.Domain.Member w 1 c.args.steps.now c.step_next.new.steps (Err c.in-Err.refusal)) c.self.view_is
    (ends_slice g.D.Domain.ops g.D.Domain.Member g.met.D.Domain.laws _ c.self.invariant.0 1 c.args.steps.now c.step_next.new.steps (Err c.in-Err.refusal) tt
    (refused_with g.D.Domain.ops g.D.Domain.Member c.self.inside.translation c.self.inside.budget c.self.inside.at.made 1 c.args.steps.now c.step_next.new.steps c.in-Err.refusal stops))

pub returns-in-Ok-Ended-clause-slice : goal.returns-in-Ok-Ended-clause-slice
returns-in-Ok-Ended-clause-slice g c =
    subst (λ (w : Walking g.row.D.Denot). EndsIn g.D.Domain.ops g.D.Domain.Member w 1 c.args.steps.now c.step_next.new.steps (Ok c.self.inside.translation)) c.self.view_is
    (ends_slice g.D.Domain.ops g.D.Domain.Member g.met.D.Domain.laws _ c.self.invariant.0 1 c.args.steps.now c.step_next.new.steps (Ok c.self.inside.translation) refl
    (stops_with g.D.Domain.ops g.D.Domain.Member c.self.inside.translation c.self.inside.budget c.self.inside.at.made 1 c.args.steps.now c.step_next.new.steps tt c.self.inside.translation (stops_of g.D.Domain.ops g.D.Domain.Member c.self.inside.translation c.program.result.now c.self.inside.budget c.self.inside.at.made 1 c.args.steps.now c.step_next.new.steps c.in-Ok-Ended.field-0 c.in-Ok-Ended.field-0-is c.program.ensures c.in-Ok-Ended.ensures.ended)))

pub returns-in-Ok-Continues-clause-slice : goal.returns-in-Ok-Continues-clause-slice
returns-in-Ok-Continues-clause-slice g c =
    let done : IfContinues (HasSettled g.D.Domain.ops g.D.Domain.Member c.self.inside.translation c.self.inside.budget c.self.inside.at c.step_next.new.at c.args.steps.now c.step_next.new.steps) Continues =
    subst (λ (code : List Insn). IfContinues (HasSettled g.D.Domain.ops g.D.Domain.Member code c.self.inside.budget c.self.inside.at c.step_next.new.at c.args.steps.now c.step_next.new.steps) Continues) c.program.ensures
    (subst (λ (path : Path). IfContinues (HasSettled g.D.Domain.ops g.D.Domain.Member c.program.result.now c.self.inside.budget c.self.inside.at c.step_next.new.at c.args.steps.now c.step_next.new.steps) path) c.in-Ok-Continues.field-0-is c.in-Ok-Continues.ensures.on) in
    subst (λ (w : Walking g.row.D.Denot). GoesOnBy w (walking_at c.self.inside.translation c.self.inside.budget c.step_next.new.at) 1 c.args.steps.now c.step_next.new.steps) c.self.view_is
    (goes_on_step g.D.Domain.ops g.D.Domain.Member c.self.inside.translation c.self.inside.budget c.self.inside.at c.step_next.new.at c.args.steps.now c.step_next.new.steps c.self.invariant.0 c.self.invariant.1 done c.in-Ok-Continues.ensures.ahead)
