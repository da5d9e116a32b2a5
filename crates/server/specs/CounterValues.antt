-- Internal. Where the value of each counter is stored, and the count of each verdict.
use Rattle.std.specs.Prelude.{ℕ, ◌+◌, ◌*◌, slice_index}
use Rattle.machine.specs.declared.context.Side.{Side}
use Rattle.machine.specs.declared.context.Side.TheVariants as side
use Rattle.server.specs.declared.counters.Counters.{Counters}
use Rattle.server.specs.declared.counters.Counter.{Counter}
use Rattle.server.specs.declared.counters.Counter.TheVariants as counter
use Rattle.server.specs.declared.counters.Kind.{Kind}
use Rattle.server.specs.declared.counters.Kind.TheVariants.{ChannelData, Message, Other, FromPeer}
use Rattle.rules.specs.declared.disposition.Discard.{Discard}
use Rattle.rules.specs.declared.disposition.Discard.TheVariants as discard

abbrev pub kind_index : Kind → ℕ
kind_index ChannelData = 0
kind_index Message = 1
kind_index Other = 2
kind_index FromPeer = 3

abbrev pub reason_index : Discard → ℕ
reason_index discard.NotServed = 0
reason_index discard.ByProgram = 1
reason_index discard.Malformed = 2
reason_index discard.NoRequest = 3
reason_index discard.NoAllocation = 4
reason_index discard.NoChannel = 5
reason_index discard.UnknownAttribute = 6
reason_index discard.Incomplete = 7
reason_index discard.NoPermission = 8
reason_index discard.OtherFamily = 9
reason_index discard.TooLong = 10
reason_index discard.Confined = 11

abbrev pub counter_index : Counter → ℕ
counter_index counter.FromClients = 0
counter_index counter.FromPeers = 1
counter_index counter.ToPeers = 2
counter_index counter.ToClients = 3
counter_index counter.Granted = 4
counter_index counter.Challenged = 5
counter_index counter.Unauthenticated = 6
counter_index counter.Refused = 7
counter_index counter.Denied = 8
counter_index counter.SendFaults = 9
counter_index counter.ReceiveFaults = 10
counter_index (counter.Discarded kind reason) = 11 + 12 * kind_index kind + reason_index reason

abbrev pub counter_value : Counters → Counter → ℕ
counter_value counters c = slice_index counters.values (counter_index c)

abbrev pub verdict_value : Counters → Side × ℕ → ℕ
verdict_value counters (side.Client, verdict) = slice_index counters.verdicts.client verdict
verdict_value counters (side.Peer, verdict) = slice_index counters.verdicts.peer verdict
