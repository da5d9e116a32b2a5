use Rattle.std.proofs.Common.{is_some, rules, tests, ap, ◌∙◌}
use Rattle.std.proofs.lemmas.Iterator.Consumers.{YieldsList-from_filter, count_from_yields_List}
use Rattle.std.proofs.lemmas.List.Sums.{length-filter}
use Rattle.tables.specs.Counts.{allocation_count}
use Rattle.tables.specs.Rows.{live_rows}
use Rattle.tables.proofs.Slots.{slots_read}
use Rattle.tables.proofs.storage.Tables.allocation_count.Goals as goal

pub returns : goal.returns
returns c =
    let t = c.moment_at-moment.result in
    let slots = slots_read c.self.inside.moment c.self.inside.slots.items c.args.self.now c.self.view_is t c.moment_at-moment.ensures.later c.len.result c.filter.ensures.source (c.len.ensures ∙ c.self.inside.slots.ok.0) in
    count_from_yields_List c.filter.result _ c.count.ensures.ran (YieldsList-from_filter _ is_some slots c.filter.ensures.closure (λ x b q k. search (rules, tests)))
    ∙ length-filter is_some (live_rows t c.args.self.now).slots ∙ ap (λ m. allocation_count (live_rows m c.args.self.now)) c.moment_at-moment.ensures.moment
