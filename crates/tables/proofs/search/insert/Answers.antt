use Rattle.std.proofs.Common.{Ordering, length, sym, ap, ◌∙◌, subst, arith}
use Rattle.std.proofs.lemmas.Bool.{eqb-true}
use Rattle.std.proofs.lemmas.List.Edits.{length-insert}
use Rattle.tables.specs.Search.{IsFoundAt, IsMissingAt}
use Rattle.tables.proofs.Lists.{written}
use Rattle.tables.proofs.Searches.{row-found, row-missing}
use Rattle.tables.proofs.search.insert.Goals as goal

pub returns-in-Ok-clause-inserted : goal.returns-in-Ok-clause-inserted
returns-in-Ok-clause-inserted g c =
    let order : g.row.R.Denot → Ordering = λ row. g.R.Keyed.order row c.args.key.now in
    let rows = c.args.rows.now.items in
    let at = subst (λ s. IsFoundAt order s c.in-Ok.index) c.as_slice.ensures.value c.in-Ok.ensures.place in
    written c.deref_mut.result.now rows c.in-Ok.index (λ _. c.args.row) c.args.row c.deref_mut.ensures.value
    ∙ sym ((row-found order rows c.in-Ok.index c.args.row c.requires at).1 c.args.row)

pub returns-then-is_full-clause-full : goal.returns-then-is_full-clause-full
returns-then-is_full-clause-full g c =
    let order : g.row.R.Denot → Ordering = λ row. g.R.Keyed.order row c.args.key.now in
    let rows = c.args.rows.now.items in
    let none = subst (λ s. IsMissingAt order s c.in-Err.index) c.as_slice.ensures.value c.in-Err.ensures.place in
    let more = ap length ((row-missing order rows c.in-Err.index none).1 c.args.row) ∙ length-insert rows c.in-Err.index c.args.row none.inside in
    omega (arith, more, eqb-true _ _ (sym c.is_full.ensures.value ∙ c.if-is_full.true))

pub returns-else-is_full-clause-inserted : goal.returns-else-is_full-clause-inserted
returns-else-is_full-clause-inserted g c =
    let order : g.row.R.Denot → Ordering = λ row. g.R.Keyed.order row c.args.key.now in
    let rows = c.args.rows.now.items in
    let none = subst (λ s. IsMissingAt order s c.in-Err.index) c.as_slice.ensures.value c.in-Err.ensures.place in
    c.insert.ensures.items ∙ sym ((row-missing order rows c.in-Err.index none).1 c.args.row)
