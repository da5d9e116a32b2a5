-- Meaning. Why the rules send nothing for a datagram: the tests of a peer's datagram, and what is done with a datagram of
-- either side. The first test that fails decides.
use Rattle.std.specs.Prelude.{ℕ, List, length, nat_le, Option, None, Some, Result}
use Rattle.std.specs.Option.{ok_or}
use Rattle.addresses.specs.declared.address.Addr.{Addr}
use Rattle.control.specs.declared.config.Config.{Config}
use Rattle.tables.specs.Rows.{Rows, rows_at}
use Rattle.tables.specs.LookUps.{allocation_at, channel_of, has_permission}
use Rattle.semantics.specs.declared.limits.TheConstants.{MAX_DATAGRAM}
use Rattle.events.specs.declared.meta.Source.{Source}
use Rattle.events.specs.declared.meta.Source.TheVariants.{Client, Peer}
use Rattle.basics.specs.Fallible.{◌>>=◌, check}
use Rattle.rules.specs.Rules.{message_to_client}
use Rattle.rules.specs.Dispositions.{client_disposition, relayed_if}
use Rattle.rules.specs.declared.disposition.Discard.{Discard}
use Rattle.rules.specs.declared.disposition.Discard.TheVariants.{NoAllocation, NoPermission, TooLong}
use Rattle.rules.specs.declared.disposition.Disposition.{Disposition}
use Rattle.rules.specs.declared.disposition.Disposition.TheVariants.{Relayed, Answered, Discarded}

-- the tests of a peer's datagram (RFC 8656, sections 11.3 and 12.7)
abbrev pub peer_test : ℕ → Addr → List ℕ → Rows → List ℕ → Result (Unit {0}) Discard
peer_test slot peer tx rows content = do
  _ ← ok_or (allocation_at slot rows) NoAllocation
  _ ← check (has_permission slot peer rows) NoPermission
  check (nat_le (length (message_to_client (channel_of slot peer rows) peer tx content)) MAX_DATAGRAM) TooLong

-- what the rules do with a datagram of either side
abbrev pub ruled_disposition : Config → ℕ → List ℕ → Source → Rows → List ℕ → Disposition
ruled_disposition config now tx (Client client) rows bytes = client_disposition config now client rows bytes
ruled_disposition config now tx (Peer slot peer) rows bytes =
    relayed_if (peer_test slot peer tx (rows_at now rows) bytes)

-- why nothing is sent, if nothing is
abbrev pub discard_in : Disposition → Option Discard
discard_in Relayed = None
discard_in (Answered response) = None
discard_in (Discarded reason) = Some reason
