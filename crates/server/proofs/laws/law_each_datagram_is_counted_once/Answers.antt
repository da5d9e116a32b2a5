use Rattle.server.proofs.CountedOnce.{counts_each_once}
use Rattle.server.proofs.laws.law_each_datagram_is_counted_once.Goals as goal

pub returns : goal.returns
returns c = counts_each_once
