use Rattle.std.proofs.Common.{◌≡◌, ◌<◌, List, length, sym, ap, ◌∙◌, arith}
use Rattle.std.specs.Prelude.{slice_index_or}
use Rattle.absstate.specs.Signatures.{lies_within}
use Rattle.absstate.specs.laws.Step.Packing.{same_item}
use Rattle.absstate.specs.declared.signature.StateSignature.{StateSignature}
use Rattle.verifier.proofs.signatures.Signatures.ruled_out.Goals as goal

pub returns-else-lies_within-clause-none : goal.returns-else-lies_within-clause-none
returns-else-lies_within-clause-none c = λ i s from to there.
    let is : i ≡ c.args.at = omega (arith, from, to) in
    let lt : c.args.at < length c.self.inside.each.items = omega (arith, c.requires.before, c.requires.inside, ap (λ (xs : List StateSignature). length xs) c.self.view_is) in
    let read : c.index-2.result.now ≡ s =
    c.index-2.ensures ∙ same_item c.args.at c.self.inside.each.items c.index-2.result.now s lt ∙ ap (λ (xs : List StateSignature). slice_index_or xs c.args.at s) c.self.view_is ∙ ap (λ n. slice_index_or c.args.self.now n s) (sym is) ∙ there in
    ap (λ (x : StateSignature). lies_within x c.args.other) (sym read) ∙ sym c.lies_within.ensures ∙ c.if-lies_within.false
