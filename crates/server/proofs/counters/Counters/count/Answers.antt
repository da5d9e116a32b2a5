use Rattle.server.proofs.CountedOnce.{has_counted}
use Rattle.server.proofs.counters.Counters.count.Goals as goal

pub returns-clause-counted : goal.returns-clause-counted
returns-clause-counted c = has_counted c.args.kind c.args.outcome _ _ _ _ _ c.arrival_counter.ensures c.counter.ensures c.raise.ensures.raised c.raise-2.ensures.raised
