use Rattle.std.proofs.Common.{rules, tests, ap, ◌∙◌}
use Rattle.std.proofs.lemmas.Iterator.Consumers.{YieldsList-from_filter, count_from_yields_List}
use Rattle.std.proofs.lemmas.List.Sums.{length-filter}
use Rattle.tables.specs.Counts.{allocations_of, is_owned_by}
use Rattle.tables.specs.Rows.{live_rows}
use Rattle.tables.proofs.Slots.{slots_read}
use Rattle.tables.proofs.storage.Tables.allocations_of.Goals as goal

pub returns : goal.returns
returns c =
    let t = c.moment_at-moment.result in
    let owner = c.args.owner.now in
    let slots = slots_read c.self.inside.moment c.self.inside.slots.items c.args.self.now c.self.view_is t c.moment_at-moment.ensures.later c.len.result c.filter.ensures.source (c.len.ensures ∙ c.self.inside.slots.ok.0) in
    count_from_yields_List c.filter.result _ c.count.ensures.ran (YieldsList-from_filter _ (is_owned_by owner) slots c.filter.ensures.closure (λ x b q k. search (rules, tests)))
    ∙ length-filter (is_owned_by owner) (live_rows t c.args.self.now).slots ∙ ap (λ m. allocations_of owner (live_rows m c.args.self.now)) c.moment_at-moment.ensures.moment
