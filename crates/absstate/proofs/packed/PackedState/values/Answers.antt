use Rattle.std.proofs.Common.{◌≡◌, ◌+◌, ◌++◌, List, length, take, drop, ap, ◌∙◌, rules}
use Rattle.absstate.specs.Packing.{joined}
use Rattle.absstate.specs.laws.Step.Packing.{laid_out}
use Rattle.absstate.specs.declared.abstract_state.AbstractValue.{AbstractValue}
use Rattle.absstate.specs.declared.abstract_state.AbsState.{AbsState}
use Rattle.absstate.proofs.packed.PackedState.values.Goals as goal

pub returns : goal.returns
returns g c =
    let count : length c.self.inside.registers ≡ 11 = search rules in
    laid_out c.self.inside.registers (joined c.self.inside.chunks.items) c.put.new.values c.put_chunks.new.values count c.self.invariant.0 c.put.ensures
    (c.put_chunks.ensures ∙ ap (λ (xs : List (List (AbstractValue g.row.D.Denot))). take 11 c.put.new.values ++ joined xs ++ drop (11 + length (joined xs)) c.put.new.values) c.deref.ensures.value)
    ∙ ap (λ (a : AbsState g.row.D.Denot). a.values) c.self.view_is
