-- Of a nonce, what is answered depends on its bytes alone.
use Rattle.std.proofs.Common.{◌≡◌, ℕ, List, length, refl, ap, ◌∙◌}
use Rattle.std.specs.Prelude.{◌==◌, Option, None, Some, Result, Ok, Err, if◌then◌else◌}
use Rattle.stun.specs.Datagrams.{message_in}
use Rattle.stun.specs.Messages.{Parts, parts_bytes}
use Rattle.stun.specs.declared.registry.ErrorCode.{ErrorCode}
use Rattle.stun.specs.declared.registry.ErrorCode.TheVariants as error
use Rattle.addresses.specs.declared.address.Addr.{Addr}
use Rattle.credentials.specs.Checks.{user_in}
use Rattle.credentials.specs.declared.checking.AuthError.{AuthError}
use Rattle.control.specs.Control.{Decision, grant_of, rows_of, decision, binding}
use Rattle.control.specs.Replies.{reply_to}
use Rattle.control.specs.Responding.{check_of, key_for, response_of}
use Rattle.control.specs.declared.config.Config.{Config}
use Rattle.control.specs.declared.reply.Grant.{Grant}
use Rattle.control.specs.declared.reply.Grant.TheVariants as grant
use Rattle.control.specs.declared.request.Request.{Request}
use Rattle.control.specs.declared.request.Request.TheVariants as request
use Rattle.control.specs.declared.request.TurnRequest.{TurnRequest}
use Rattle.control.specs.declared.request.TurnRequest.TheVariants as turn
use Rattle.tables.specs.Rows.{Rows, rows_at}
use Rattle.events.specs.Events.{ToClient}
use Rattle.events.specs.declared.meta.Source.{Source}
use Rattle.semantics.specs.Runs.{Run}
use Rattle.programs.specs.Runs.{run_for}
use Rattle.relay.specs.ByPrograms.{Programs, program_for, of_run, is_there, disposition_of_sent, disposition_by_run, disposition_of_datagram}
use Rattle.rules.specs.declared.confinement.Confinement.{Confinement}
use Rattle.rules.specs.FastPart.{begins_as_stun}
use Rattle.rules.specs.Rules.{send_indication, send_from, channel_data_from}
use Rattle.rules.specs.ByRules.{reply_with, reply_to_request, message, from_client, request_of}
use Rattle.rules.specs.Dispositions.{channel_data_test, client_disposition, disposition_of_message, disposition_of_request, relayed_if, send_test}
use Rattle.rules.specs.Systems.{SystemReply, is_served, reply_of_relaying, with_nonce}
use Rattle.rules.specs.declared.disposition.Discard.TheVariants.{NotServed}
use Rattle.rules.specs.declared.disposition.Disposition.{Disposition}
use Rattle.rules.specs.declared.disposition.Disposition.TheVariants.{Answered, Discarded}

module _ (c : Config) where
  abbrev d : Config
  d = with_nonce c c.nonce.bytes

  reply_same : (r : Request) (client : Addr) (p : Parts) (key : Option (List ℕ)) (result : Result Grant ErrorCode) → reply_to d r client p key result ≡ reply_to c r client p key result
  reply_same r client p key (Ok grant.Mapped) = refl
  reply_same r client p key (Ok (grant.Allocated family slot lifetime)) = refl
  reply_same r client p key (Ok (grant.Refreshed lifetime)) = refl
  reply_same r client p key (Ok grant.Done) = refl
  reply_same r client p key (Err error.BadRequest) = refl
  reply_same r client p key (Err error.Unauthenticated) = refl
  reply_same r client p key (Err error.UnknownAttribute) = refl
  reply_same r client p key (Err error.AllocationMismatch) = refl
  reply_same r client p key (Err error.StaleNonce) = refl
  reply_same r client p key (Err error.AddressFamilyNotSupported) = refl
  reply_same r client p key (Err error.WrongCredentials) = refl
  reply_same r client p key (Err error.UnsupportedTransport) = refl
  reply_same r client p key (Err error.PeerAddressFamilyMismatch) = refl
  reply_same r client p key (Err error.InsufficientCapacity) = refl

  module _ (now : ℕ) (client : Addr) (rows : Rows) where
    with_same : (r : Request) (p : Parts) (x : Decision) (key : Option (List ℕ)) → reply_with d r client p rows (x, key) ≡ reply_with c r client p rows (x, key)
    with_same r p x key = λ i. record { answer = Some (ToClient client (parts_bytes (reply_same r client p key (grant_of x) i))); rows = rows_of rows x }

    decision_same : (t : TurnRequest) (checked : Result ℕ AuthError) (p : Parts) → decision t checked d client p (rows_at now rows) ≡ decision t checked c client p (rows_at now rows)
    decision_same turn.Allocate checked p = refl
    decision_same turn.Refresh checked p = refl
    decision_same turn.CreatePermission checked p = refl
    decision_same turn.ChannelBind checked p = refl

    answered_same : (p : Parts) (r : Option Request) → reply_to_request d now client p rows r ≡ reply_to_request c now client p rows r
    answered_same p None = refl
    answered_same p (Some request.Binding) = with_same request.Binding p (binding p) None
    answered_same p (Some (request.Turn t)) =
        let checked = check_of c now client p rows in
        ap (λ (x : Decision). reply_with d (request.Turn t) client p rows (x, key_for checked)) (decision_same t (user_in checked) p)
        ∙ with_same (request.Turn t) p (decision t (user_in checked) c client p (rows_at now rows)) (key_for checked)

    message_same : (m : Option Parts) → message d now client rows m ≡ message c now client rows m
    message_same None = refl
    message_same (Some p) = ap (λ (reply : SystemReply). if p.kind == send_indication then reply_of_relaying rows (send_from client (rows_at now rows) p) else reply) (answered_same p (request_of p.kind))

    pub from_client_same : (bytes : List ℕ) → from_client d now client rows bytes ≡ from_client c now client rows bytes
    from_client_same bytes = ap (λ (reply : SystemReply). if begins_as_stun bytes then reply else reply_of_relaying rows (channel_data_from client (rows_at now rows) bytes)) (message_same (message_in bytes))

    -- ---- what is done with a datagram

    response_same : (p : Parts) (r : Option Request) → disposition_of_request d now client p rows r ≡ disposition_of_request c now client p rows r
    response_same p None = refl
    response_same p (Some request.Binding) = refl
    response_same p (Some (request.Turn t)) =
        let checked = check_of c now client p rows in
        ap (λ (x : Decision). Answered (response_of (user_in checked) x)) (decision_same t (user_in checked) p)

    of_message_same : (m : Option Parts) → disposition_of_message d now client rows m ≡ disposition_of_message c now client rows m
    of_message_same None = refl
    of_message_same (Some p) = ap (λ (done : Disposition). if p.kind == send_indication then relayed_if (send_test client (rows_at now rows) p) else done) (response_same p (request_of p.kind))

    client_disposition_same : (bytes : List ℕ) → client_disposition d now client rows bytes ≡ client_disposition c now client rows bytes
    client_disposition_same bytes = ap (λ (done : Disposition). if begins_as_stun bytes then done else relayed_if (channel_data_test client (rows_at now rows) bytes)) (of_message_same (message_in bytes))

  by_run_same : (confinement : Option Confinement) (now : ℕ) (from : Source) (rows : Rows) (size : ℕ) (r : Run)
      → disposition_by_run confinement d now from rows size r ≡ disposition_by_run confinement c now from rows size r
  by_run_same confinement now from rows size r = λ i.
      of_run (λ client bytes. client_disposition_same now client rows bytes i) (disposition_of_sent confinement from (rows_at now rows)) from (rows_at now rows) size r

  pub disposition_of_datagram_same : (programs : Programs) (now : ℕ) (tx : List ℕ) (from : Source) (rows : Rows) (bytes : List ℕ)
      → disposition_of_datagram programs d now tx from rows bytes ≡ disposition_of_datagram programs c now tx from rows bytes
  disposition_of_datagram_same programs now tx from rows bytes =
      ap (λ (done : Disposition). if is_served from then (if is_there from rows then done else Discarded NotServed) else Discarded NotServed)
      (by_run_same programs.confinement now from rows (length bytes) (run_for (program_for programs from) tx from (rows_at now rows) bytes))
