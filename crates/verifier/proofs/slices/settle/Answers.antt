use Rattle.std.proofs.Common.{inl, inr, refl, sym, ap, ◌∙◌, arith}
use Rattle.std.proofs.lemmas.Result.{err_from_is_err_and}
use denote.Memory.{lone}
use Rattle.verifier.specs.Keeping.{kept_at, is_covered}
use Rattle.verifier.specs.Walk.{state_to_follow}
use Rattle.verifier.specs.declared.walk.Pending.{Pending}
use Rattle.verifier.proofs.Sizes.{pending_fits}
use Rattle.verifier.proofs.Slicing.{skips_it, steps_on, refuses_it, unit_skips, unit_passes, unit_refused, unit_steps, walks_here, begins_inside}
use Rattle.verifier.proofs.slices.settle.Goals as goal

pub returns-then-covered-clause-settled : goal.returns-then-covered-clause-settled
returns-then-covered-clause-settled g c =
    unit_skips g.D.Domain.ops g.D.Domain.Member c.args.program.now c.args.budget c.args.at.now c.requires.pauses c.requires.within c.args.at.now.here.value c.requires.waits refl
    c.args.steps.now (sym c.requires.covered ∙ c.if-covered.true, c.requires.members c.if-covered.true)

pub returns-then-covered-clause-unit : goal.returns-then-covered-clause-unit
returns-then-covered-clause-unit g c =
    skips_it g.D.Domain.ops g.D.Domain.Member c.args.program.now c.args.budget c.args.at.now c.requires.pauses c.requires.within c.args.at.now.here.value c.requires.waits refl

pub returns-then-at-budget-clause-ended : goal.returns-then-at-budget-clause-ended
returns-then-at-budget-clause-ended g c =
    unit_passes g.D.Domain.ops g.D.Domain.Member c.args.program.now c.args.budget c.args.at.now c.requires.pauses c.requires.within c.deref.result.now c.requires.waits c.deref.ensures
    (ap (λ (p : Pending g.row.D.Denot). is_covered g.D.Domain.ops (kept_at c.args.at.now.kept) p) c.deref.ensures ∙ sym c.requires.covered ∙ c.if-covered.false) c.args.steps.now (omega (arith, c.if-at-budget.true))

pub returns-then-at-budget-clause-refused : goal.returns-then-at-budget-clause-refused
returns-then-at-budget-clause-refused g c =
    refuses_it g.D.Domain.ops g.D.Domain.Member c.args.program.now c.args.budget c.args.at.now c.requires.pauses c.requires.within c.deref.result.now c.requires.waits c.deref.ensures _ (inr refl)

pub step-requires : goal.step-requires
step-requires g c =
    let walks =
    walks_here g.D.Domain.ops g.D.Domain.Member c.args.program.now c.args.budget c.args.at.now c.requires.pauses c.requires.within c.deref_mut.result.now c.requires.waits c.deref_mut.ensures.value
    (ap (λ (p : Pending g.row.D.Denot). is_covered g.D.Domain.ops (kept_at c.args.at.now.kept) p) c.deref_mut.ensures.value ∙ sym c.requires.covered ∙ c.if-covered.false) in (
      pending_fits (lone g.row.D.mir) g.met.D.Domain.small,
      (c.requires.few, (c.requires.laid_out, begins_inside g.D.Domain.ops g.D.Domain.Member g.met.D.Domain.laws c.args.program.now c.requires.laid_out c.args.at.now.made c.args.at.now.pending.items c.deref_mut.result.now c.args.at.now.kept walks)),
    )

pub returns-in_err-at-clause-ended : goal.returns-in_err-at-clause-ended
returns-in_err-at-clause-ended g c =
    let p = err_from_is_err_and c.from_residual.result c.from_residual.ensures.1 in
    rw (p.1, p.2) (
    unit_refused g.D.Domain.ops g.D.Domain.Member c.args.program.now c.args.budget c.args.at.now c.requires.pauses c.requires.within c.deref_mut.result.now c.requires.waits c.deref_mut.ensures.value
    (ap (λ (p : Pending g.row.D.Denot). is_covered g.D.Domain.ops (kept_at c.args.at.now.kept) p) c.deref_mut.ensures.value ∙ sym c.requires.covered ∙ c.if-covered.false)
    c.args.steps.now c.tick.new.self c.in_err-at.field-0.0 (omega (arith, c.tick.ensures)) (omega (arith, c.if-at-budget.false, c.requires.within)) c.in_err-at.ensures.refused
    )

pub returns-in_err-at-clause-refused : goal.returns-in_err-at-clause-refused
returns-in_err-at-clause-refused g c =
    let p = err_from_is_err_and c.from_residual.result c.from_residual.ensures.1 in
    rw (p.1, p.2) (
    refuses_it g.D.Domain.ops g.D.Domain.Member c.args.program.now c.args.budget c.args.at.now c.requires.pauses c.requires.within c.deref_mut.result.now c.requires.waits c.deref_mut.ensures.value
    c.in_err-at.field-0.0 (inl c.in_err-at.ensures.refused)
    )

pub returns-clause-settled : goal.returns-clause-settled
returns-clause-settled g c =
    unit_steps g.D.Domain.ops g.D.Domain.Member c.args.program.now c.args.budget c.args.at.now c.requires.pauses c.requires.within c.deref_mut.result.now c.requires.waits c.deref_mut.ensures.value
    (ap (λ (p : Pending g.row.D.Denot). is_covered g.D.Domain.ops (kept_at c.args.at.now.kept) p) c.deref_mut.ensures.value ∙ sym c.requires.covered ∙ c.if-covered.false)
    _ (state_to_follow c.in_ok-at.field-0 c.step.new.here) c.args.steps.now c.tick.new.self (omega (arith, c.tick.ensures)) (omega (arith, c.if-at-budget.false, c.requires.within)) refl refl c.in_ok-at.ensures.kept c.in_ok-at.ensures.made refl

pub returns-clause-unit : goal.returns-clause-unit
returns-clause-unit g c =
    steps_on g.D.Domain.ops g.D.Domain.Member c.args.program.now c.args.budget c.args.at.now c.requires.pauses c.requires.within c.deref_mut.result.now c.requires.waits c.deref_mut.ensures.value
    _ c.step.new.pending.items _ (state_to_follow c.in_ok-at.field-0 c.step.new.here) refl c.in_ok-at.ensures.made refl
