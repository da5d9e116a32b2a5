-- Meaning. Which datagrams of clients are requests whose credentials are accepted (RFC 8489, section 9.2.4).
use Rattle.std.specs.Prelude.{◌≡◌, ℕ, List, Some, Ok}
use Rattle.stun.specs.Datagrams.{message_in}
use Rattle.stun.specs.Messages.{Parts}
use Rattle.addresses.specs.declared.address.Addr.{Addr}
use Rattle.credentials.specs.TimeLimited.{Account}
use Rattle.control.specs.Responding.{check_of}
use Rattle.control.specs.declared.config.Config.{Config}
use Rattle.control.specs.declared.request.Request.TheVariants as request
use Rattle.control.specs.declared.request.TurnRequest.{TurnRequest}
use Rattle.tables.specs.Rows.{Rows}
use Rattle.rules.specs.ByRules.{request_of}

-- a request of TURN of an account whose credentials are accepted at a moment
pub record IsAuthenticated (config : Config) (now : ℕ) (client : Addr) (rows : Rows) (bytes : List ℕ) : Type 0 where
  pub message : Parts
  pub parsed : message_in bytes ≡ Some message
  pub asked : TurnRequest
  pub kind : request_of message.kind ≡ Some (request.Turn asked)
  pub account : Account
  pub accepted : check_of config now client message rows ≡ Ok account
