use Rattle.std.proofs.Common.{rules, ◌<◌, length}
use Rattle.server.proofs.CounterValues.{client_counted, peer_counted}
use Rattle.server.proofs.counters.Counters.count_verdict.Goals as goal

pub returns-in-Client-clause-counted : goal.returns-in-Client-clause-counted
returns-in-Client-clause-counted c =
    let inside : c.verdict_index-index.result < length c.args.self.now.verdicts.client = search rules in
    client_counted c.in-Some.verdict c.args.self.now c.verdict_index-index.result c.saturating_add.result c.verdict_index-index.ensures.index c.args.side c.args.verdict c.in-Some.is c.in-Client.is inside c.saturating_add.ensures

pub returns-in-Peer-clause-counted : goal.returns-in-Peer-clause-counted
returns-in-Peer-clause-counted c =
    let inside : c.verdict_index-index.result < length c.args.self.now.verdicts.peer = search rules in
    peer_counted c.in-Some.verdict c.args.self.now c.verdict_index-index.result c.saturating_add-in-Peer.result c.verdict_index-index.ensures.index c.args.side c.args.verdict c.in-Some.is c.in-Peer.is inside c.saturating_add-in-Peer.ensures
