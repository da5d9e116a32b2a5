use Rattle.std.proofs.Common.{arith, get_or, false}
use Rattle.std.proofs.lemmas.List.{get_or_default}
use Rattle.std.proofs.lemmas.List.Edits.{map_over_more}
use Rattle.server.specs.Entries.{unstamped}
use Rattle.server.proofs.schedule.unstamp.Goals as goal

pub loop-entry-preserved : goal.loop-entry-preserved
loop-entry-preserved c =
    map_over_more unstamped c.args.entries.now c.loop-entry.entries c.loop-entry.entry-index (get_or c.loop-entry.entries c.loop-entry.entry-index (record { is_ready = false; round = 0 }))
    (omega (arith, c.loop-entry-test.true, c.loop-entry.auto.entry-index-end)) c.loop-entry.invariant
    (get_or_default c.loop-entry.entries c.loop-entry.entry-index (record { is_ready = false; round = 0 }) (get_or c.loop-entry.entries c.loop-entry.entry-index (record { is_ready = false; round = 0 }))
    (omega (arith, c.loop-entry-test.true, c.loop-entry.auto.entries)))
