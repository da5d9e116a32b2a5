use Rattle.std.proofs.Common.{◌≡◌, ◌+◌, ◌-◌, ◌++◌, ◌≤◌, List, length, take, drop, sym, ap, ◌∙◌, arith}
use Rattle.absstate.specs.Packing.{joined}
use Rattle.absstate.specs.laws.Step.Packing.{joined_first, written_after}
use Rattle.absstate.specs.declared.abstract_state.AbstractValue.{AbstractValue}
use Rattle.absstate.proofs.packed.+put_chunks.Goals as goal

pub returns-in-len1-up : goal.returns-in-len1-up
returns-in-len1-up g t c =
    let inside : c.args.at ≤ length c.args.values.now = omega (arith, c.requires) in
    let rest = take (length c.args.chunks.now - 1) (drop 1 c.args.chunks.now) in
    let first : c.values-part.result.now ++ joined (take (length c.args.chunks.now - 1) (drop 1 c.args.chunks.now)) ≡ joined c.args.chunks.now =
    ap (λ (xs : List (AbstractValue g.row.D.Denot)). xs ++ joined rest) c.values-part.ensures ∙ sym (joined_first c.args.chunks.now c.first-item.result c.in-len1-up.len_at_least c.first-item.is) in
    c.put_chunks.ensures ∙ written_after c.args.at c.values-part.result.now (joined rest) c.args.values.now c.put.new.values inside c.put.ensures
    ∙ ap (λ (xs : List (AbstractValue g.row.D.Denot)). take c.args.at c.args.values.now ++ xs ++ drop (c.args.at + length xs) c.args.values.now) first
