-- Meaning. How many bytes a datagram may draw: no more than it has itself and 67, or a response of a bounded length.
use Rattle.std.specs.Prelude.{◌≡◌, ◌≤◌, ◌⊎◌, ℕ, ◌+◌, List, length, max, string_bytes}
use Rattle.stun.specs.Messages.{attribute_length}
use Rattle.control.specs.declared.config.Config.{Config}
use Rattle.semantics.specs.declared.limits.TheConstants.{HEADROOM, TAILROOM}
use Rattle.addresses.specs.declared.address.Addr.{Addr}
use Rattle.events.specs.Events.{Sending, ToPeer, ToClient}
use Rattle.tables.specs.Rows.{Rows}
use Rattle.rules.specs.Authentication.{IsAuthenticated}

-- ---- responses

-- the error 401, whose ERROR-CODE has 24 bytes, after a header of 20: no error with REALM and NONCE is longer
abbrev pub challenge_length : Config → ℕ
challenge_length config = 44 + attribute_length (string_bytes config.realm) + attribute_length config.nonce.bytes

-- the longest response without accepted credentials: the challenge, or the error 420 that names 16 attributes
abbrev pub longest_unauthenticated : Config → ℕ
longest_unauthenticated config = max 84 (challenge_length config)

-- the longest response with accepted credentials: that error, which is signed then, by an attribute of 24 bytes
abbrev pub longest_authenticated : ℕ
longest_authenticated = 108

-- ---- what is drawn

abbrev pub bytes_sent : Sending → List ℕ
bytes_sent (ToPeer slot peer bytes) = bytes
bytes_sent (ToClient client bytes) = bytes

-- a response to a client, of at most so many bytes
abbrev pub IsResponse : ℕ → Addr → Sending → Type 0
IsResponse most client (ToPeer slot peer bytes) = ⊥
IsResponse most client (ToClient to bytes) = (to ≡ client) × (length bytes ≤ most)

-- a response to a datagram, which is longer only where its credentials are accepted
abbrev pub RespondsTo : Config → ℕ → Addr → Rows → List ℕ → Sending → Type 0
RespondsTo config now client rows bytes sending =
    IsResponse (longest_unauthenticated config) client sending
    ⊎ (IsAuthenticated config now client rows bytes × IsResponse longest_authenticated client sending)

-- relayed: no more than came, and the room before and after it
abbrev pub IsRelayed : ℕ → Sending → Type 0
IsRelayed size sending = length (bytes_sent sending) ≤ size + (HEADROOM + TAILROOM)
