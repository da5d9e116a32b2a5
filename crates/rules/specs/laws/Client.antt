-- Interface. What the rules answer to a datagram of a client, by its kind.
use Rattle.std.proofs.Common.{◌≡◌, ℕ, true, false, List, ap, ◌∙◌}
use Rattle.std.specs.Prelude.{◌==◌, Option, None, Some}
use Rattle.std.proofs.lemmas.Bool.{cond-true, cond-false}
use Rattle.stun.specs.Datagrams.{message_in}
use Rattle.stun.specs.Messages.{Parts}
use Rattle.addresses.specs.declared.address.Addr.{Addr}
use Rattle.control.specs.declared.config.Config.{Config}
use Rattle.tables.specs.Rows.{Rows, rows_at}
use Rattle.rules.specs.FastPart.{begins_as_stun}
use Rattle.rules.specs.Rules.{send_indication, send_from, channel_data_from}
use Rattle.rules.specs.ByRules.{control, message, from_client, request_of}
use Rattle.rules.specs.Dispositions.{client_disposition, disposition_of_message, disposition_of_request, relayed_if, channel_data_test, send_test}
use Rattle.rules.specs.Systems.{SystemReply, no_answer, reply_of_relaying}

module _ (config : Config) (now : ℕ) (client : Addr) (rows : Rows) (datagram : List ℕ) where
  abbrev by_message : Option Parts → SystemReply
  by_message m = message config now client rows m

  -- ChannelData
  pub is_relayed : begins_as_stun datagram ≡ false → from_client config now client rows datagram ≡ reply_of_relaying rows (channel_data_from client (rows_at now rows) datagram)
  is_relayed other = cond-false (begins_as_stun datagram) (by_message (message_in datagram)) _ other

  is_message : (m : Option Parts) → begins_as_stun datagram ≡ true → message_in datagram ≡ m → from_client config now client rows datagram ≡ by_message m
  is_message m stun is = cond-true (begins_as_stun datagram) (by_message (message_in datagram)) _ stun ∙ ap by_message is

  -- what is no message
  pub is_silent : begins_as_stun datagram ≡ true → message_in datagram ≡ None → from_client config now client rows datagram ≡ no_answer rows
  is_silent stun is = is_message None stun is

  module _ (p : Parts) (stun : begins_as_stun datagram ≡ true) (is : message_in datagram ≡ Some p) where
    -- a Send indication
    pub is_sent : (p.kind == send_indication) ≡ true → from_client config now client rows datagram ≡ reply_of_relaying rows (send_from client (rows_at now rows) p)
    is_sent same = is_message (Some p) stun is ∙ cond-true (p.kind == send_indication) (reply_of_relaying rows (send_from client (rows_at now rows) p)) (control config now client p rows) same

    -- any other message
    pub is_handled : (p.kind == send_indication) ≡ false → from_client config now client rows datagram ≡ control config now client p rows
    is_handled other = is_message (Some p) stun is ∙ cond-false (p.kind == send_indication) (reply_of_relaying rows (send_from client (rows_at now rows) p)) (control config now client p rows) other

    pub disposition_is_handled : (p.kind == send_indication) ≡ false
        → client_disposition config now client rows datagram ≡ disposition_of_request config now client p rows (request_of p.kind)
    disposition_is_handled other =
        cond-true (begins_as_stun datagram) (disposition_of_message config now client rows (message_in datagram)) (relayed_if (channel_data_test client (rows_at now rows) datagram)) stun
        ∙ ap (disposition_of_message config now client rows) is
        ∙ cond-false (p.kind == send_indication) (relayed_if (send_test client (rows_at now rows) p)) (disposition_of_request config now client p rows (request_of p.kind)) other
