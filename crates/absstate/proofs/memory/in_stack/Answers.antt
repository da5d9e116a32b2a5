use Rattle.std.proofs.Common.{◌≡◌, ℕ, Result, Ok, ◌+ℤ◌, pos, to_z, of_z, w64, w16, arith, sym, ap, ◌∙◌}
use Rattle.std.specs.Option.{ok_or}
use Rattle.std.proofs.lemmas.Int.{ints}
use Rattle.std.proofs.lemmas.Result.{err_from_is_err_and}
use Rattle.semantics.specs.Access.{index_within, stack_first}
use Rattle.basics.specs.Fallible.{◌>>=◌}
use Rattle.semantics.specs.declared.reason.Reason.{Reason}
use Rattle.semantics.specs.declared.reason.Reason.TheVariants.{StackBounds}
use Rattle.absstate.specs.declared.memory.Region.{Region}
use Rattle.absstate.specs.declared.memory.Region.TheVariants.{InStack}
use Rattle.absstate.proofs.memory.in_stack.Goals as goal

abbrev found_at : Result ℕ Reason → Result Region Reason
found_at index = do
  i ← index
  Ok (InStack i)

pub returns-in_err-index-clause-region : goal.returns-in_err-index-clause-region
returns-in_err-index-clause-region c =
    let place : to_z w64 (of_z w64 c.from.result) +ℤ to_z w16 (of_z w16 c.args.displacement) ≡ c.args.offset +ℤ c.args.displacement = omega (arith, ints) in
    let index = c.index_in_stack.ensures ∙ (λ i. index_within (place i) c.args.n stack_first stack_first (pos 0)) in
    let p = err_from_is_err_and c.from_residual.result c.from_residual.ensures.1 in
    rw (p.1, p.2) (ap found_at (sym c.in_err-index.was ∙ c.ok_or.ensures.value ∙ ap (λ o. ok_or o StackBounds) index))
