-- Meaning. What is done with a datagram of a client, by the rules: whether it is relayed, what the response to it says, or
-- why nothing is sent. The first test that fails decides.
use Rattle.std.specs.Prelude.{ℕ, List, Option, None, Some, option_map, Result, Ok, Err, ◌==◌, if◌then◌else◌}
use Rattle.std.specs.Option.{ok_or}
use Rattle.stun.specs.Datagrams.{message_in, channel_in}
use Rattle.stun.specs.Messages.{Parts}
use Rattle.stun.specs.declared.registry.attribute.TheConstants.{XOR_PEER_ADDRESS, DATA}
use Rattle.attributes.specs.Addresses.{address_in}
use Rattle.addresses.specs.Addresses.{is_of_family}
use Rattle.addresses.specs.declared.address.Addr.{Addr}
use Rattle.credentials.specs.Checks.{first_value, user_in}
use Rattle.control.specs.Control.{all_understood, binding, decision, grant_of}
use Rattle.control.specs.Responding.{check_of, response_of, response_of_result}
use Rattle.control.specs.declared.config.Config.{Config}
use Rattle.control.specs.declared.request.Request.{Request}
use Rattle.control.specs.declared.request.Request.TheVariants as request
use Rattle.control.specs.declared.response.Response.{Response}
use Rattle.tables.specs.Rows.{Rows, rows_at}
use Rattle.tables.specs.LookUps.{allocation_of, peer_of, has_permission}
use Rattle.basics.specs.Fallible.{◌>>=◌, check}
use Rattle.rules.specs.ByRules.{request_of}
use Rattle.rules.specs.FastPart.{begins_as_stun}
use Rattle.rules.specs.Rules.{send_indication}
use Rattle.rules.specs.declared.answer.Answer.{Answer}
use Rattle.rules.specs.declared.answer.Answer.TheVariants as answer
use Rattle.rules.specs.declared.disposition.Discard.{Discard}
use Rattle.rules.specs.declared.disposition.Discard.TheVariants.{Malformed, NoRequest, NoAllocation, NoChannel, UnknownAttribute, Incomplete, NoPermission, OtherFamily}
use Rattle.rules.specs.declared.disposition.Disposition.{Disposition}
use Rattle.rules.specs.declared.disposition.Disposition.TheVariants.{Relayed, Answered, Discarded}

-- ---- relaying

-- the tests of ChannelData (RFC 8656, section 12.6)
abbrev pub channel_data_test : Addr → Rows → List ℕ → Result (Unit {0}) Discard
channel_data_test client rows datagram = do
  a ← ok_or (allocation_of client rows) NoAllocation
  m ← ok_or (channel_in datagram) Malformed
  peer ← ok_or (peer_of a.slot m.number rows) NoChannel
  check (is_of_family a.family peer) OtherFamily

-- the tests of a Send indication (RFC 8656, section 11.2)
abbrev pub send_test : Addr → Rows → Parts → Result (Unit {0}) Discard
send_test client rows p = do
  a ← ok_or (allocation_of client rows) NoAllocation
  _ ← check (all_understood p) UnknownAttribute
  value ← ok_or (first_value p XOR_PEER_ADDRESS) Incomplete
  _ ← ok_or (first_value p DATA) Incomplete
  peer ← ok_or (address_in p.tx value) Incomplete
  _ ← check (has_permission a.slot peer rows) NoPermission
  check (is_of_family a.family peer) OtherFamily

abbrev pub relayed_if : Result (Unit {0}) Discard → Disposition
relayed_if (Ok passed) = Relayed
relayed_if (Err reason) = Discarded reason

-- ---- requests

abbrev pub disposition_of_response : Option Response → Disposition
disposition_of_response None = Discarded NoRequest
disposition_of_response (Some response) = Answered response

abbrev pub response_to : Config → ℕ → Request → Addr → Parts → Rows → Response
response_to config now request.Binding client p rows = response_of_result (grant_of (binding p))
response_to config now (request.Turn r) client p rows =
    response_of (user_in (check_of config now client p rows)) (decision r (user_in (check_of config now client p rows)) config client p (rows_at now rows))

abbrev pub disposition_of_request : Config → ℕ → Addr → Parts → Rows → Option Request → Disposition
disposition_of_request config now client p rows found = disposition_of_response (option_map (λ r. response_to config now r client p rows) found)

-- ---- datagrams

abbrev pub disposition_of_message : Config → ℕ → Addr → Rows → Option Parts → Disposition
disposition_of_message config now client rows None = Discarded Malformed
disposition_of_message config now client rows (Some p) =
    if p.kind == send_indication then relayed_if (send_test client (rows_at now rows) p)
    else disposition_of_request config now client p rows (request_of p.kind)

abbrev pub client_disposition : Config → ℕ → Addr → Rows → List ℕ → Disposition
client_disposition config now client rows bytes =
    if begins_as_stun bytes then disposition_of_message config now client rows (message_in bytes)
    else relayed_if (channel_data_test client (rows_at now rows) bytes)

-- what an answer does with its datagram
abbrev pub disposition_of : Answer → Disposition
disposition_of (answer.Nothing reason) = Discarded reason
disposition_of (answer.ChannelData slot peer) = Relayed
disposition_of (answer.Send slot peer) = Relayed
disposition_of (answer.Reply count response) = Answered response
