-- Interface. The event that was parsed, with the room that its bytes are in.
use Rattle.std.specs.Prelude.{ℕ, ◌≤◌, List, take, Option}
use Rattle.semantics.specs.declared.limits.TheConstants.{MAX_DATAGRAM}
use Rattle.std.specs.Borrow.{Bor}
use Rattle.events.specs.Events.{Event, Datagram, Nonce}
use Rattle.events.specs.declared.meta.Source.{Source}
use Rattle.events.specs.Reading.{client_in_text, peer_in}
use Rattle.events.specs.declared.parsing.Origin.{Origin}
use Rattle.events.specs.declared.parsing.Origin.TheVariants as side
use Rattle.events.specs.declared.parsing.Parsed.{Parsed}
use Rattle.events.specs.declared.parsing.Parsed.TheVariants as parsed

abbrev pub event_of : List ℕ → Parsed → Event
event_of room (parsed.Datagram given n) = Datagram given (take n room)
event_of room (parsed.Nonce text) = Nonce text.now

-- the bytes of a datagram are within the room
abbrev pub FitsRoom : Parsed → Type 0
FitsRoom (parsed.Datagram given n) = n ≤ MAX_DATAGRAM
FitsRoom (parsed.Nonce text) = Unit {0}

-- two texts, as lists
abbrev pub pair_of : Bor (List ℕ) × Bor (List ℕ) → List ℕ × List ℕ
pair_of p = (p.0.now, p.1.now)

-- a source, and the text after it
abbrev pub source_and_rest : Source × Bor (List ℕ) → Source × List ℕ
source_and_rest pair = (pair.0, pair.1.now)

-- the reader of a side's sources
abbrev pub source_of_side : Origin → ℕ → List ℕ → Option (Source × List ℕ)
source_of_side side.Client slots = client_in_text
source_of_side side.Peer slots = peer_in slots
