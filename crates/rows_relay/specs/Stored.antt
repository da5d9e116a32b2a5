-- Internal. The calls that a link in memory stores.
use Rattle.std.specs.Prelude.{List, Option, None, Some, Bool, map, if◌then◌else◌}
use Rattle.server.specs.Calls.{Call, Received, Sent}
use Rattle.rows_relay.specs.declared.wire.StoredCall.{StoredCall}
use Rattle.rows_relay.specs.declared.wire.StoredCall.TheVariants as entry

abbrev pub call_of : StoredCall → Call
call_of (entry.Received endpoint buffer answer) = Received endpoint buffer.items answer
call_of (entry.Sent endpoint to bytes answer) = Sent endpoint to bytes.items answer

-- those of a link that stores each; none where one had no room
abbrev pub calls_stored : Bool → List StoredCall → Option (List Call)
calls_stored full entries = if full then None else Some (map call_of entries)
