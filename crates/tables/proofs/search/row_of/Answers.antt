use Rattle.std.proofs.Common.{Ordering, Some, sym, ap, ◌∙◌, subst, arith}
use Rattle.tables.specs.Search.{AreAscending, row_of}
use Rattle.tables.proofs.Searches.{row-found, row-missing}
use Rattle.tables.proofs.search.row_of.Goals as goal

pub search-requires : goal.search-requires
search-requires g c =
    let order : g.row.R.Denot → Ordering = λ row. g.R.Keyed.order row c.args.key.now in
    subst (AreAscending order) (sym c.as_slice-rows.ensures.value) c.requires

pub returns-in-Ok-clause-row : goal.returns-in-Ok-clause-row
returns-in-Ok-clause-row g c =
    let order : g.row.R.Denot → Ordering = λ row. g.R.Keyed.order row c.args.key.now in
    let row = c.index-rows-index.result in
    let up = subst (AreAscending order) (sym c.as_slice-rows.ensures.value) c.requires in
    ap Some c.index-rows-index.is ∙ sym (row-found order c.as_slice-rows.result.now c.in-Ok.index row up c.in-Ok.ensures.place).0 ∙ ap (row_of order) c.as_slice-rows.ensures.value

pub returns-in-Err-clause-row : goal.returns-in-Err-clause-row
returns-in-Err-clause-row g c =
    let order : g.row.R.Denot → Ordering = λ row. g.R.Keyed.order row c.args.key.now in
    sym (row-missing order c.as_slice-rows.result.now c.in-Err.field-0 c.in-Err.ensures.place).0 ∙ ap (row_of order) c.as_slice-rows.ensures.value

pub returns-in-Ok-clause-count : goal.returns-in-Ok-clause-count
returns-in-Ok-clause-count g c = λ k few. c.search.ensures.count k (omega (arith, few, c.as_slice-rows.ensures.fits))

pub returns-in-Err-clause-count : goal.returns-in-Err-clause-count
returns-in-Err-clause-count g c = λ k few. c.search.ensures.count k (omega (arith, few, c.as_slice-rows.ensures.fits))
