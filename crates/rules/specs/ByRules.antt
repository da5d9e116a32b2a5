-- Meaning. The system by rules: requests are answered, ChannelData and Send indications are relayed, and the datagrams of
-- peers are.
use Rattle.std.specs.Prelude.{ℕ, List, [], ◌∷◌, ◌==◌, Option, None, Some, if◌then◌else◌}
use Rattle.stun.specs.Datagrams.{message_in}
use Rattle.stun.specs.Messages.{Parts, parts_bytes}
use Rattle.stun.specs.declared.registry.Class.TheVariants as class
use Rattle.addresses.specs.declared.address.Addr.{Addr}
use Rattle.credentials.specs.Checks.{user_in}
use Rattle.control.specs.Control.{Decision, grant_of, rows_of, decision, binding}
use Rattle.control.specs.Replies.{kind_of, reply_to}
use Rattle.control.specs.Responding.{check_of, key_for}
use Rattle.control.specs.declared.config.Config.{Config}
use Rattle.control.specs.declared.request.Request.{Request}
use Rattle.control.specs.declared.request.Request.TheVariants as request
use Rattle.control.specs.declared.request.TurnRequest.TheVariants as turn
use Rattle.tables.specs.Rows.{Rows, rows_at}
use Rattle.events.specs.Events.{ToClient}
use Rattle.events.specs.declared.meta.Source.TheVariants.{Client, Peer}
use Rattle.rules.specs.FastPart.{begins_as_stun}
use Rattle.rules.specs.Rules.{send_indication, channel_data_from, send_from, peer_data_to}
use Rattle.rules.specs.Systems.{SystemReply, no_answer, reply_of_relaying, System}

-- ---- requests

abbrev pub requests : List Request
requests =
    request.Binding
    ∷ request.Turn turn.Allocate
    ∷ request.Turn turn.Refresh
    ∷ request.Turn turn.CreatePermission
    ∷ request.Turn turn.ChannelBind
    ∷ []

-- the first of some requests that has a message type
abbrev pub request_among : ℕ → List Request → Option Request
request_among kind [] = None
request_among kind (r ∷ rest) = if kind_of r class.Request == kind then Some r else request_among kind rest

-- the request of a message type, if it is one that is answered
abbrev pub request_of : ℕ → Option Request
request_of kind = request_among kind requests

-- what is decided, and the key that the reply is signed under; that to Binding is not signed
abbrev pub decision_and_key : Config → ℕ → Request → Addr → Parts → Rows → Decision × Option (List ℕ)
decision_and_key config now request.Binding client p rows = (binding p, None)
decision_and_key config now (request.Turn r) client p rows =
    (decision r (user_in (check_of config now client p rows)) config client p (rows_at now rows), key_for (check_of config now client p rows))

abbrev pub reply_with : Config → Request → Addr → Parts → Rows → Decision × Option (List ℕ) → SystemReply
reply_with config r client p rows d = record {
  answer = Some (ToClient client (parts_bytes (reply_to config r client p d.1 (grant_of d.0))));
  rows = rows_of rows d.0;
}

abbrev pub reply_to_request : Config → ℕ → Addr → Parts → Rows → Option Request → SystemReply
reply_to_request config now client p rows None = no_answer rows
reply_to_request config now client p rows (Some r) = reply_with config r client p rows (decision_and_key config now r client p rows)

-- the answer to a message of a client: a message that is no request gets none
abbrev pub control : Config → ℕ → Addr → Parts → Rows → SystemReply
control config now client p rows = reply_to_request config now client p rows (request_of p.kind)

-- ---- datagrams

-- a Send indication is relayed, and every other message handled
abbrev pub message : Config → ℕ → Addr → Rows → Option Parts → SystemReply
message config now client rows None = no_answer rows
message config now client rows (Some p) =
    if p.kind == send_indication then reply_of_relaying rows (send_from client (rows_at now rows) p) else control config now client p rows

-- the first two bits 00 begin a STUN message, and 01 ChannelData
abbrev pub from_client : Config → ℕ → Addr → Rows → List ℕ → SystemReply
from_client config now client rows bytes =
    if begins_as_stun bytes then message config now client rows (message_in bytes)
    else reply_of_relaying rows (channel_data_from client (rows_at now rows) bytes)

abbrev pub by_rules : System
by_rules config now tx (Client client) rows bytes = from_client config now client rows bytes
by_rules config now tx (Peer slot peer) rows bytes = reply_of_relaying rows (peer_data_to slot peer tx (rows_at now rows) bytes)
