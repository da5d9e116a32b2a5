use Rattle.std.proofs.Common.{◌≡◌, Ordering, suc, length, nat_le, nat_lt, sym, ap, ◌∙◌, subst, arith}
use Rattle.std.proofs.lemmas.Bool.{le-leb}
use Rattle.std.proofs.lemmas.List.{length-set}
use Rattle.std.proofs.lemmas.List.Edits.{length-insert}
use Rattle.tables.specs.Search.{IsFoundAt, IsMissingAt}
use Rattle.tables.proofs.Searches.{row-found, row-missing}
use Rattle.tables.proofs.search.has_room.Goals as goal

pub returns-in-Ok : goal.returns-in-Ok
returns-in-Ok g c = λ row.
    let order : g.row.R.Denot → Ordering = λ row. g.R.Keyed.order row c.args.key.now in
    let rows = c.args.rows.now.items in
    let at = subst (λ s. IsFoundAt order s c.in-Ok.field-0) c.as_slice.ensures.value c.in-Ok.ensures.place in
    let same = ap length ((row-found order rows c.in-Ok.field-0 row c.requires at).1 row) ∙ length-set rows c.in-Ok.field-0 row in
    sym (le-leb _ _ (omega (arith, same, ap length c.as_slice.ensures.value, c.as_slice.ensures.fits)))

pub returns-in-Err : goal.returns-in-Err
returns-in-Err g c = λ row.
    let order : g.row.R.Denot → Ordering = λ row. g.R.Keyed.order row c.args.key.now in
    let rows = c.args.rows.now.items in
    let none = subst (λ s. IsMissingAt order s c.in-Err.field-0) c.as_slice.ensures.value c.in-Err.ensures.place in
    let more = ap length ((row-missing order rows c.in-Err.field-0 none).1 row) ∙ length-insert rows c.in-Err.field-0 row none.inside in
    let next : suc (length rows) ≡ length _ = omega (arith, more) in
    ap (λ n. nat_lt n g.row.N) c.len.ensures.value ∙ ap (λ n. nat_le n g.row.N) next
