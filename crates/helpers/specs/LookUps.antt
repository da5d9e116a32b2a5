-- Meaning. The answers of the helpers that look up, from the live rows.
use Rattle.std.specs.Prelude.{ℕ, Bool, ◌==◌, ◌&&◌, Option, Some, None, is_some, if◌then◌else◌}
use Rattle.std.specs.Option.{option_and_then}
use Rattle.semantics.specs.Calls.{is_valid, no_address}
use Rattle.semantics.specs.Machine.{AddressRecord}
use Rattle.addresses.specs.declared.address.Addr.{Addr}
use Rattle.tables.specs.Rows.{Rows}
use Rattle.tables.specs.declared.held.Held.{Held}
use Rattle.tables.specs.LookUps.{held_in, bound_peer, bound_channel, permission_of}
use Rattle.addresses.specs.declared.address.Addr.TheVariants.{V4, V6}
use Rattle.semantics.specs.declared.helper.RecordForm.{RecordForm}
use Rattle.semantics.specs.declared.helper.RecordForm.TheVariants.{Narrow, Wide}
use Rattle.semantics.specs.Records.{address_of, wide_record}
use Rattle.semantics.specs.Nothing.{empty_answer}

-- 1 and the record of a peer, or 0 and zeros; a record of IPv4 has no IPv6 peer
abbrev pub peer_answer : RecordForm → Option Addr → ℕ × AddressRecord
peer_answer form None = (0, no_address)
peer_answer Narrow (Some (V4 ip port)) = (1, wide_record (V4 ip port))
peer_answer Narrow (Some (V6 ip port)) = (0, no_address)
peer_answer Wide (Some peer) = (1, wide_record peer)

-- the number of a channel, or 0
abbrev pub number_answer : Option ℕ → ℕ × AddressRecord
number_answer None = (0, no_address)
number_answer (Some number) = (number, no_address)

-- 1 where it holds, and else 0
abbrev pub test_answer : Bool → ℕ × AddressRecord
test_answer holds = ((if holds then 1 else 0), no_address)

-- of a record that isn't valid nothing is found
abbrev pub channel_answer : RecordForm → Option Held → AddressRecord → ℕ × AddressRecord
channel_answer form slot address = number_answer (if is_valid form address then option_and_then (bound_channel (address_of address)) slot else None)

abbrev pub permission_answer : RecordForm → Option Held → AddressRecord → ℕ × AddressRecord
permission_answer form slot address = test_answer (is_valid form address && is_some (option_and_then (permission_of (address_of address)) slot))

-- in what a slot holds
abbrev pub held_answer : Option Held → ℕ → ℕ → AddressRecord → ℕ × AddressRecord
held_answer slot id number address =
    if id == 1 then peer_answer Narrow (option_and_then (bound_peer number) slot)
    else (if id == 2 then channel_answer Narrow slot address
    else (if id == 3 then permission_answer Narrow slot address
    else (if id == 6 then peer_answer Wide (option_and_then (bound_peer number) slot)
    else (if id == 7 then channel_answer Wide slot address
    else (if id == 8 then permission_answer Wide slot address
    else empty_answer id number address)))))

-- in a slot of the rows, if there is one
abbrev pub look_up_answer : Option ℕ → Rows → ℕ → ℕ → AddressRecord → ℕ × AddressRecord
look_up_answer None rows = empty_answer
look_up_answer (Some slot) rows = held_answer (held_in rows slot)
