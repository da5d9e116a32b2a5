use Rattle.relay.proofs.Frames.{has_run}
use Rattle.relay.proofs.running.run_over.Goals as goal

pub returns : goal.returns
returns c =
    has_run _ _ _ _ _ _ c.law_room.ensures c.requires c.start.ensures _ _ c.run.ensures.outcome c.run.ensures.whole c.run.ensures.shows
