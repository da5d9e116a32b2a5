use Rattle.std.proofs.Common.{ℕ, ◌+◌, Option, refl, subst, arith}
use Rattle.std.specs.Prelude.{IfSome}
use Rattle.verifier.specs.Slices.{HasDoneUnit}
use Rattle.verifier.proofs.Slicing.{none_worked, one_worked, worked_from}
use Rattle.verifier.proofs.slices.run_slice.Goals as goal

pub loop-left-init : goal.loop-left-init
loop-left-init g c = record {
  weight = 0;
  worked = none_worked g.D.Domain.ops g.D.Domain.Member c.args.program.now c.args.budget _ _ c.args.steps.now refl refl refl c.requires.pauses c.requires.passed c.requires.within;
  sum = omega arith;
  few = omega arith;
  light = omega (arith, c.saturating_sub-at.ensures, c.requires.light);
  none = λ some. omega (arith, c.saturating_sub-at.ensures, c.saturating_sub-left.ensures, some);
}

pub loop-left-preserved : goal.loop-left-preserved
loop-left-preserved g c =
    let unit : HasDoneUnit g.D.Domain.ops g.D.Domain.Member c.args.program.now c.args.budget c.loop-left.at c.run_unit.new.at c.loop-left.steps c.run_unit.new.steps c.in-Some.weight =
    subst (λ (done : Option ℕ). IfSome done (HasDoneUnit g.D.Domain.ops g.D.Domain.Member c.args.program.now c.args.budget c.loop-left.at c.run_unit.new.at c.loop-left.steps c.run_unit.new.steps)) c.in-Some.is c.in_ok-weight.ensures.on in
    let worked = one_worked g.D.Domain.ops g.D.Domain.Member c.args.program.now c.args.budget _ c.loop-left.at c.run_unit.new.at c.loop-left.invariant.weight c.in-Some.weight c.args.steps.now c.loop-left.steps c.run_unit.new.steps c.loop-left.invariant.worked unit.worked in
    let none = c.loop-left.invariant.none (omega (arith, c.loop-left-test.true)) in
    record {
      weight = c.loop-left.invariant.weight + c.in-Some.weight;
      worked = record { pauses = worked.pauses; has_passed = worked.has_passed; within = worked.within; count = worked.count; less = worked.less };
      sum = omega (arith, c.loop-left.invariant.sum, none, c.saturating_sub-at-in-loop-left.ensures, c.saturating_sub-left-in-loop-left.ensures);
      few = omega (arith, c.loop-left.invariant.few, unit.few, unit.some, c.loop-left-test.true, c.saturating_sub-left-in-loop-left.ensures);
      light = omega (arith, unit.light, c.saturating_sub-at-in-loop-left.ensures);
      none = λ some. omega (arith, some, c.saturating_sub-at-in-loop-left.ensures, c.saturating_sub-left-in-loop-left.ensures);
    }

pub returns-clause-on : goal.returns-clause-on
returns-clause-on g c = record {
  weight = c.loop-left.invariant.weight;
  worked = worked_from g.D.Domain.ops g.D.Domain.Member c.args.program.now c.args.budget c.args.at.now _ c.loop-left.at c.loop-left.invariant.weight c.args.steps.now c.loop-left.steps refl refl refl c.loop-left.invariant.worked;
  sum = omega (arith, c.loop-left.invariant.sum, c.saturating_sub-at.ensures, c.saturating_sub-left.ensures, c.loop-left-test.false);
  few = omega (arith, c.loop-left.invariant.few, c.saturating_sub-left.ensures);
  light = c.loop-left.invariant.light;
}
