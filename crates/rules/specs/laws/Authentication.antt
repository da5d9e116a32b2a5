-- Interface. Rows change only by requests whose credentials are accepted.
use Rattle.std.proofs.Common.{◌≡◌, ◌⊎◌, ℕ, List, Bool, true, false, inl, inr, refl}
use Rattle.std.specs.Prelude.{◌==◌, Option, None, Some, Result, Ok, Err, if◌then◌else◌}
use Rattle.stun.specs.Datagrams.{message_in}
use Rattle.stun.specs.Messages.{Parts}
use Rattle.stun.specs.declared.registry.ErrorCode.TheVariants.{UnknownAttribute}
use Rattle.addresses.specs.declared.address.Addr.{Addr}
use Rattle.credentials.specs.Checks.{user_in}
use Rattle.credentials.specs.TimeLimited.{Account}
use Rattle.credentials.specs.declared.checking.AuthError.{AuthError}
use Rattle.control.specs.Control.{all_understood, binding, decision, rows_of}
use Rattle.control.specs.Responding.{check_of, key_for}
use Rattle.control.specs.declared.config.Config.{Config}
use Rattle.control.specs.declared.reply.Grant.TheVariants.{Mapped}
use Rattle.control.specs.declared.request.Request.{Request}
use Rattle.control.specs.declared.request.Request.TheVariants as request
use Rattle.control.specs.declared.request.TurnRequest.{TurnRequest}
use Rattle.basics.specs.Fallible.{◌>>=◌, check}
use Rattle.tables.specs.Rows.{Rows, rows_at}
use Rattle.rules.specs.Authentication.{IsAuthenticated}
use Rattle.rules.specs.ByRules.{control, from_client, message, reply_to_request, reply_with, request_of}
use Rattle.rules.specs.FastPart.{begins_as_stun}
use Rattle.rules.specs.Rules.{send_indication, send_from, channel_data_from}
use Rattle.rules.specs.Systems.{SystemReply, reply_of_relaying}

-- a request to Binding changes nothing, granted or not
binding_keeps : (rows : Rows) (p : Parts) → rows_of rows (binding p) ≡ rows
binding_keeps rows p = of (all_understood p) where
  of : (b : Bool) → rows_of rows (check b UnknownAttribute >>= λ _. Ok (Mapped, None)) ≡ rows
  of true = refl
  of false = refl

module _ (config : Config) (now : ℕ) (client : Addr) (rows : Rows) (bytes : List ℕ) where
  abbrev ChangesByRequest : SystemReply → Type 0
  ChangesByRequest reply = (reply.rows ≡ rows) ⊎ IsAuthenticated config now client rows bytes

  module _ (p : Parts) (parsed : message_in bytes ≡ Some p) where
    of_check : (r : TurnRequest) → request_of p.kind ≡ Some (request.Turn r)
        → (checked : Result Account AuthError) → check_of config now client p rows ≡ checked
        → ChangesByRequest (reply_with config (request.Turn r) client p rows (decision r (user_in checked) config client p (rows_at now rows), key_for checked))
    of_check r kind (Ok account) accepted = inr (record { message = p; parsed = parsed; asked = r; kind = kind; account = account; accepted = accepted })
    of_check r kind (Err error) refused = inl refl

    of_request : (o : Option Request) → request_of p.kind ≡ o → ChangesByRequest (reply_to_request config now client p rows o)
    of_request None kind = inl refl
    of_request (Some request.Binding) kind = inl (binding_keeps rows p)
    of_request (Some (request.Turn r)) kind = of_check r kind (check_of config now client p rows) refl

    of_kind : (b : Bool) → ChangesByRequest (if b then reply_of_relaying rows (send_from client (rows_at now rows) p) else control config now client p rows)
    of_kind true = inl refl
    of_kind false = of_request (request_of p.kind) refl

  of_message : (o : Option Parts) → message_in bytes ≡ o → ChangesByRequest (message config now client rows o)
  of_message None parsed = inl refl
  of_message (Some p) parsed = of_kind p parsed (p.kind == send_indication)

  pub requests_change_rows : ChangesByRequest (from_client config now client rows bytes)
  requests_change_rows = of (begins_as_stun bytes) where
    of : (b : Bool) → ChangesByRequest (if b then message config now client rows (message_in bytes) else reply_of_relaying rows
        (channel_data_from client (rows_at now rows) bytes))
    of true = of_message (message_in bytes) refl
    of false = inl refl
