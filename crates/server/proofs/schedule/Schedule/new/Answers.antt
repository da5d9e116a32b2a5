use Rattle.std.proofs.Common.{ap, ◌∙◌}
use Rattle.server.specs.Entries.{statuses_in}
use Rattle.server.proofs.EndpointEntries.{schedule_new, first_statuses}
use Rattle.server.proofs.schedule.Schedule.new.Goals as goal

pub invariant_of-result : goal.invariant_of-result
invariant_of-result c =
    schedule_new c.args.count c.in_ok-entries.entries.items (c.in_ok-entries.ensures.items_if_clones_equal (λ y is. is))

pub returns : goal.returns
returns c =
    ap (statuses_in 1) (c.in_ok-entries.ensures.items_if_clones_equal (λ y is. is)) ∙ first_statuses c.args.count
