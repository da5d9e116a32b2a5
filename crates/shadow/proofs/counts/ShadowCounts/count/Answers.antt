use Rattle.std.proofs.Common.{rules, ◌<◌, length}
use Rattle.shadow.proofs.CountIndices.{has_raised}
use Rattle.shadow.proofs.counts.ShadowCounts.count.Goals as goal

pub returns : goal.returns
returns c =
    let inside : c.index-index.result < length c.args.self.now.values = search rules in
    has_raised c.args.comparison c.args.self.now c.index-index.result c.saturating_add.result c.index-index.ensures.index inside c.saturating_add.ensures
