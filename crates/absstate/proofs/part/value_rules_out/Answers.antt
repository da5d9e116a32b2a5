use Rattle.std.proofs.Common.{◌<◌, length, sym, ap, ◌∙◌, rules}
use Rattle.std.proofs.lemmas.Bool.{ltb-true, not-true}
use Rattle.std.specs.Prelude.{slice_index_or}
use Rattle.absstate.specs.Covers.{covers_value}
use Rattle.absstate.specs.laws.Step.Covering.{values_at}
use Rattle.absstate.specs.laws.Step.Packing.{ruled_out, same_item, values_of}
use Rattle.absstate.specs.declared.abstract_state.AbstractValue.{AbstractValue}
use Rattle.absstate.specs.declared.abstract_state.AbstractValue.TheVariants.{Nothing}
use Rattle.absstate.proofs.part.value_rules_out.Goals as goal

pub returns-in-Some : goal.returns-in-Some
returns-in-Some g c = λ a is out. ruled_out _ c.covers_value.result (λ covered.
    let at = values_at g.D.Domain.ops a c.args.other.now a.values c.args.other.now.values c.args.index (values_of g.D.Domain.ops a c.args.other.now covered) in
    let inside : c.args.index < length c.args.other.now.values = ltb-true c.args.index (length c.args.other.now.values) (sym c.in-Some.ensures.lookup.0) in
    c.covers_value.ensures a c.args.other.now (search (rules, is.1)) (search rules) ∙ ap (λ (v : AbstractValue g.row.D.Denot). covers_value g.D.Domain.ops a c.args.other.now v c.in-Some.known.now) (sym is.0)
    ∙ ap (λ (v : AbstractValue g.row.D.Denot). covers_value g.D.Domain.ops a c.args.other.now (slice_index_or a.values c.args.index Nothing) v) (c.in-Some.ensures.lookup.1 ∙ same_item c.args.index c.args.other.now.values c.in-Some.known.now Nothing inside) ∙ at) (not-true _ out)
