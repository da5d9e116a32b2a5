use Rattle.std.proofs.Common.{◌≡◌, ℤ, Option, Some, None, Err, sym, ap, ◌∙◌, rules, to_z, of_z, w32}
use Rattle.std.proofs.lemmas.Int.{ints}
use Rattle.std.specs.Option.{ok_or}
use Rattle.std.proofs.lemmas.Result.{err_from_is_err_and}
use Rattle.interval.specs.Domains.{Operations}
use Rattle.insn.specs.declared.operator.AluOp.{AluOp}
use Rattle.insn.specs.declared.width.Width.{Width}
use Rattle.semantics.specs.declared.reason.Reason.{Reason}
use Rattle.semantics.specs.declared.reason.Reason.TheVariants.{PointerArithmetic}
use Rattle.absstate.specs.AbstractSteps.{moved_by, single_of, abstract_pointer_to, abstract_alu_result}
use Rattle.absstate.specs.declared.abstract_state.AbsState.{AbsState}
use Rattle.absstate.specs.declared.abstract_state.AbstractValue.{AbstractValue}
use Rattle.absstate.specs.declared.abstract_state.AbstractValue.TheVariants.{Scalar, Stack}
use Rattle.absstate.proofs.abstract_step.alu_result.Goals as goal

pointed : {D : Type 0} (o : Option ℤ) (e : Reason) → ok_or o PointerArithmetic ≡ Err e → ◌≡◌ (Err e) (abstract_pointer_to {D = D} Stack o)
pointed None e is = cc
pointed (Some k) e is = absurd cc

refused : {D : Type 0} (ops : Operations D) (a : AbsState D) (op : AluOp) (w : Width) (x y : AbstractValue D) (k : ℤ) (n : D) (e : Reason) → x ≡ Stack k → y ≡ Scalar n → ok_or (moved_by op w k (single_of ops n)) PointerArithmetic ≡ Err e
    → Err e ≡ abstract_alu_result ops a op w x y
refused ops a op w x y k n e p q is = pointed (moved_by op w k (single_of ops n)) e is ∙ (λ i. abstract_alu_result ops a op w (sym p i) (sym q i))

pub returns-in_err-offset-in-Stack-Scalar : goal.returns-in_err-offset-in-Stack-Scalar
returns-in_err-offset-in-Stack-Scalar g c =
    let offset : to_z w32 (of_z w32 c.in-Stack-Scalar.offset) ≡ c.in-Stack-Scalar.offset = search (rules, ints) in
    let p = err_from_is_err_and c.from_residual.result c.from_residual.ensures.1 in
    rw (p.1, p.2) (refused g.D.Domain.ops c.args.state.now c.args.op c.args.width c.args.a c.args.b c.in-Stack-Scalar.offset c.in-Stack-Scalar.b _ c.in-Stack-Scalar.is-0 c.in-Stack-Scalar.is-1
    (ap (λ o. ok_or (moved_by c.args.op c.args.width c.in-Stack-Scalar.offset o) PointerArithmetic) (sym c.single_of.ensures) ∙ ap (λ (k : ℤ). ok_or (moved_by c.args.op c.args.width k c.single_of.result) PointerArithmetic) (sym offset) ∙ sym c.moved.ensures ∙ c.in_err-offset-in-Stack-Scalar.was))
