use Rattle.std.proofs.Common.{◌≡◌, map, length, ap, ◌∙◌, sym, subst}
use Rattle.std.proofs.lemmas.List.{with_items_is, length-map}
use Rattle.server.specs.Entries.{statuses_in, unstamped, IsSchedule}
use Rattle.server.specs.Schedules.{begun}
use Rattle.server.proofs.EndpointEntries.{schedule_begun, schedule_unstamped, begun_statuses, begun_unstamped}
use Rattle.server.proofs.schedule.Schedule.begin.Goals as goal

pub invariant_of-self : goal.invariant_of-self
invariant_of-self c = schedule_begun c.self.inside.round c.self.inside.entries.items c.self.inside.ready c.self.inside.next c.self.invariant

pub returns-then-self-lt-LAST_ROUND : goal.returns-then-self-lt-LAST_ROUND
returns-then-self-lt-LAST_ROUND c = begun_statuses c.self.inside.round c.self.inside.entries.items c.self.invariant.stamps ∙ ap begun c.self.view_is

pub invariant_of-self-2 : goal.invariant_of-self-2
invariant_of-self-2 c =
    let is : c.unstamp.new.entries ≡ map unstamped c.self.inside.entries.items = c.unstamp.ensures ∙ ap (map unstamped) c.as_mut_slice.ensures.value in
    let same : length c.unstamp.new.entries ≡ c.self.inside.entries.len = ap length is ∙ length-map c.self.inside.entries.items unstamped ∙ sym c.self.inside.entries.ok.0 in
    subst (λ es. IsSchedule 1 es c.self.inside.ready 0) (sym (with_items_is c.self.inside.entries c.unstamp.new.entries same ∙ is))
    (schedule_unstamped c.self.inside.round c.self.inside.entries.items c.self.inside.ready c.self.inside.next c.self.invariant)

pub returns : goal.returns
returns c =
    let is : c.unstamp.new.entries ≡ map unstamped c.self.inside.entries.items = c.unstamp.ensures ∙ ap (map unstamped) c.as_mut_slice.ensures.value in
    let same : length c.unstamp.new.entries ≡ c.self.inside.entries.len = ap length is ∙ length-map c.self.inside.entries.items unstamped ∙ sym c.self.inside.entries.ok.0 in
    ap (statuses_in 1) (with_items_is c.self.inside.entries c.unstamp.new.entries same ∙ is) ∙ begun_unstamped c.self.inside.round c.self.inside.entries.items ∙ ap begun c.self.view_is
