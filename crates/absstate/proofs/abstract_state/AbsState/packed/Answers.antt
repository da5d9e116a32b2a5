use Rattle.std.proofs.Common.{◌≡◌, ℤ, List, ◌++◌, take, drop, to_z, of_z, w64, sym, ap, ◌∙◌, rules}
use Rattle.std.proofs.lemmas.List.{take-append-drop}
use Rattle.absstate.specs.Packing.{joined, unpacked}
use Rattle.absstate.specs.declared.abstract_state.AbstractValue.{AbstractValue}
use Rattle.absstate.specs.laws.Step.Packing.{whole_state, words_kept}
use Rattle.absstate.proofs.abstract_state.AbsState.packed.Goals as goal

pub invariant_of-result : goal.invariant_of-result
invariant_of-result g c =
    let kept = words_kept c.words.result c.args.self.now.marks.cells c.words.ensures c.cells-marks.ensures.count in
    (c.in_ok-chunks.ensures.1, kept.0, kept.1)

pub returns : goal.returns
returns g c =
    let proved : to_z w64 (of_z w64 c.proved_of.result) ≡ c.args.self.now.proved = search rules in
    let whole : c.args.self.now.values ≡ c.eleven.result ++ c.split_at.result.1.now =
    sym (take-append-drop 11 c.args.self.now.values) ∙ ap (λ (xs : List (AbstractValue g.row.D.Denot)). xs ++ drop 11 c.args.self.now.values) front ∙ ap (λ (xs : List (AbstractValue g.row.D.Denot)). c.eleven.result ++ xs) back in
    ap (λ (n : ℤ). unpacked c.eleven.result (joined c.in_ok-chunks.chunks.items) c.words.result n) proved
    ∙ whole_state c.args.self.now c.eleven.result c.split_at.result.1.now (joined c.in_ok-chunks.chunks.items) c.words.result whole c.in_ok-chunks.ensures.0 c.words.ensures c.cells-marks.ensures.count
  where
    front : take 11 c.args.self.now.values ≡ c.eleven.result
    front = search rules

    back : drop 11 c.args.self.now.values ≡ c.split_at.result.1.now
    back = search rules
