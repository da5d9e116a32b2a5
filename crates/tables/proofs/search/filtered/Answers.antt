use Rattle.std.proofs.Common.{◌≡◌, Bool, Bor, filter, refl, rules, ap, subst, ◌∙◌}
use Rattle.std.proofs.iter.Next.{says_at}
use Rattle.arrayvec.proofs.ArrayVecLemmas.{filter-from_retain}
use Rattle.tables.proofs.search.filtered.Goals as goal

pub returns-clause-rows : goal.returns-clause-rows
returns-clause-rows g c = λ passes says.
    let copied : c.try_extend_from_slice.new.self.items ≡ c.args.rows.now.items = search rules in
    let gives : (row : Bor g.row.R.Denot) (is : Bool) → g.F.Fn.post c.args.test (row, tt) is → is ≡ passes row.now = λ row is post. says row.now is (says_at g.F.Fn post refl) in
    filter-from_retain _ passes _ (λ x b f' y called. (subst (λ row. b ≡ passes row) called.shows (search (rules, gives)), search rules, search rules)) _ _ c.retain.ensures.filtered
    ∙ ap (filter passes) copied
