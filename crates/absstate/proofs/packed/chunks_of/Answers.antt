use Rattle.std.proofs.Common.{◌++◌, List, inl, inr, sym, ap, ◌∙◌}
use Rattle.absstate.specs.Packing.{joined}
use Rattle.absstate.specs.laws.Step.Packing.{groups_kept}
use Rattle.absstate.specs.declared.abstract_state.AbstractValue.{AbstractValue}
use Rattle.absstate.proofs.packed.chunks_of.Goals as goal

pub returns-then-are_unknown : goal.returns-then-are_unknown
returns-then-are_unknown g c =
    groups_kept (joined c.new-chunks.result.items) c.args.values.now c.requires (inl (ap joined c.new-chunks.ensures.items, sym c.are_unknown.ensures ∙ c.if-are_unknown.true))

pub returns : goal.returns
returns g c =
    groups_kept (joined c.push_chunks.new.chunks.items) c.args.values.now c.requires
    (inr (c.in_ok-push_chunks.ensures ∙ ap (λ (xs : List (List (AbstractValue g.row.D.Denot))). joined xs ++ c.args.values.now) c.new-chunks.ensures.items))
