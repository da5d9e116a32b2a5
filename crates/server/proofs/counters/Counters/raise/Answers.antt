use Rattle.std.proofs.Common.{rules, ◌<◌, length}
use Rattle.server.proofs.CounterValues.{has_raised}
use Rattle.server.proofs.counters.Counters.raise.Goals as goal

pub returns-clause-raised : goal.returns-clause-raised
returns-clause-raised c =
    let inside : c.index-index.result < length c.args.self.now.values = search rules in
    has_raised c.args.counter c.args.self.now c.index-index.result c.saturating_add.result c.index-index.ensures.index inside c.saturating_add.ensures
