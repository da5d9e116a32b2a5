use Rattle.tables.proofs.ChannelRows.{are_channels}
use Rattle.tables.proofs.channels.Channels.into_rows.Goals as goal

pub returns-clause-distinct : goal.returns-clause-distinct
returns-clause-distinct c = are_channels c.self.inside.rows.items c.self.inside.by_peer.items c.self.invariant
