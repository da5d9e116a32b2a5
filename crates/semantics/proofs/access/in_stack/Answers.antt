use Rattle.std.proofs.Common.{◌≡◌, ℕ, Result, Ok, ◌+ℤ◌, pos, to_z, of_z, w64, w16, sym, ap, ◌∙◌}
use Rattle.std.specs.Option.{ok_or}
use Rattle.basics.specs.Fallible.{◌>>=◌}
use Rattle.std.proofs.lemmas.Int.{to_z-of_z}
use Rattle.std.proofs.lemmas.Result.{err_from_is_err_and}
use Rattle.semantics.specs.Access.{index_within, stack_first}
use Rattle.semantics.specs.declared.access.Location.{Location}
use Rattle.semantics.specs.declared.access.Location.TheVariants.{InStack}
use Rattle.semantics.specs.declared.reason.Reason.{Reason}
use Rattle.semantics.specs.declared.reason.Reason.TheVariants.{StackBounds}
use Rattle.semantics.proofs.access.in_stack.Goals as goal

abbrev located : Result ℕ Reason → Result Location Reason
located found = do
  i ← found
  Ok (InStack i)

pub returns-in_err-index : goal.returns-in_err-index
returns-in_err-index c =
    let base : to_z w64 (of_z w64 c.args.base) ≡ c.args.base = to_z-of_z w64 c.args.base c.ranges.base in
    let displacement : to_z w16 (of_z w16 c.args.displacement) ≡ c.args.displacement = to_z-of_z w16 c.args.displacement c.ranges.displacement in
    let index = c.index_in_stack.ensures ∙ (λ i. index_within (base i +ℤ displacement i) c.args.n stack_first stack_first (pos 0)) in
    let p = err_from_is_err_and c.from_residual.result c.from_residual.ensures.1 in
    rw (p.1, p.2) (ap located (sym c.in_err-index.was ∙ c.ok_or.ensures.value ∙ ap (λ o. ok_or o StackBounds) index))
