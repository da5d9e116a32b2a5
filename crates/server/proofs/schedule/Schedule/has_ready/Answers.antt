use Rattle.std.proofs.Common.{ltb, ap, ◌∙◌}
use Rattle.server.specs.Entries.{statuses_in}
use Rattle.server.specs.Schedules.{has_ready}
use Rattle.server.proofs.EndpointEntries.{has_ready_by_count}
use Rattle.server.proofs.schedule.Schedule.has_ready.Goals as goal

pub returns : goal.returns
returns c =
    ap (ltb 0) c.self.invariant.count
    ∙ has_ready_by_count (statuses_in c.self.inside.round c.self.inside.entries.items) ∙ ap has_ready c.self.view_is
