use Rattle.std.proofs.Common.{◌<◌, length, sym, ap₂, arith, ◌∙◌}
use Rattle.std.proofs.lemmas.Bool.{ltb-true, not-true}
use Rattle.absstate.specs.Covers.{have_one_anchor}
use Rattle.absstate.specs.laws.Step.Covering.{linked_at}
use Rattle.absstate.specs.laws.Step.Packing.{ruled_out, same_item, shares_of}
use Rattle.absstate.specs.declared.abstract_state.AbstractValue.TheVariants.{Nothing}
use Rattle.absstate.proofs.part.link_rules_out.Goals as goal

pub returns-in-Some-Some : goal.returns-in-Some-Some
returns-in-Some-Some g c = λ a is out. ruled_out _ c.shared.result (λ covered.
    let inside : c.args.second < length c.args.other.now.values = ltb-true c.args.second (length c.args.other.now.values) (sym c.in-Some-Some.ensures'.lookup.0) in
    let before : c.args.first < length c.args.other.now.values = omega (arith, inside, is.0) in
    c.shared.ensures
    ∙ ap₂ have_one_anchor (c.in-Some-Some.ensures.lookup.1 ∙ same_item c.args.first c.args.other.now.values c.in-Some-Some.known.now Nothing before) (c.in-Some-Some.ensures'.lookup.1 ∙ same_item c.args.second c.args.other.now.values c.in-Some-Some.linked.now Nothing inside)
    ∙ linked_at c.args.first c.args.second a.values c.args.other.now.values (shares_of g.D.Domain.ops a c.args.other.now covered) is.0 inside is.1) (not-true _ out)
