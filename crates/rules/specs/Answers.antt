-- Meaning. What is sent for an answer to a datagram of a client.
use Rattle.std.specs.Prelude.{ℕ, ◌<◌, ◌≤◌, List, [], ◌∷◌, take, length, Option, None, Some, option_map}
use Rattle.stun.specs.Datagrams.{message_in, channel_in}
use Rattle.stun.specs.declared.registry.attribute.TheConstants.{DATA}
use Rattle.addresses.specs.declared.address.Addr.{Addr}
use Rattle.credentials.specs.Checks.{first_value}
use Rattle.events.specs.Events.{Sending, ToPeer, ToClient}
use Rattle.basics.specs.Options.{◌>>=◌}
use Rattle.rules.specs.declared.answer.Answer.{Answer}
use Rattle.rules.specs.declared.answer.Answer.TheVariants as answer

-- the data of a datagram that is a ChannelData message, and of one that is a Send indication
abbrev pub channel_data_in : List ℕ → Option (List ℕ)
channel_data_in datagram = option_map (λ m. m.bytes) (channel_in datagram)

abbrev pub sent_data_in : List ℕ → Option (List ℕ)
sent_data_in datagram = do
  p ← message_in datagram
  first_value p DATA

-- the reply to a client; no bytes are none
abbrev pub reply_sent : Addr → List ℕ → Option Sending
reply_sent client [] = None
reply_sent client (b ∷ bytes) = Some (ToClient client (b ∷ bytes))

-- what is sent, over the datagram that is answered, and the room for replies
abbrev pub sending_of_answer : Addr → List ℕ → List ℕ → Answer → Option Sending
sending_of_answer client datagram reply (answer.Nothing reason) = None
sending_of_answer client datagram reply (answer.ChannelData slot peer) = option_map (ToPeer slot peer) (channel_data_in datagram)
sending_of_answer client datagram reply (answer.Send slot peer) = option_map (ToPeer slot peer) (sent_data_in datagram)
sending_of_answer client datagram reply (answer.Reply count response) = reply_sent client (take count reply)

-- a reply lies in the room for replies, and has some bytes
abbrev pub LiesInRoom : Answer → List ℕ → Type 0
LiesInRoom (answer.Nothing reason) reply = Unit {0}
LiesInRoom (answer.ChannelData slot peer) reply = Unit {0}
LiesInRoom (answer.Send slot peer) reply = Unit {0}
LiesInRoom (answer.Reply count response) reply = (0 < count) × (count ≤ length reply)
