-- Meaning. The whole answer to a message: the rows afterwards, the bytes of a reply, none where there is no reply, and what
-- it says.
use Rattle.std.specs.Prelude.{◌≡◌, ℕ, pos, ◌+ℤ◌, Bool, true, false, List, [], bytes_eq, Vec, Option, None, Some, option_map, IsSomeAnd, Result, Ok, Err, string_bytes}
use Rattle.std.specs.declared.alloc.Global.{Global}
use Rattle.std.specs.Int.{w64, saturate_unsigned}
use Rattle.std.specs.List.{list_any}
use Rattle.stun.specs.Messages.{Parts, parts_bytes}
use Rattle.stun.specs.declared.registry.Class.TheVariants as class
use Rattle.addresses.specs.declared.address.Addr.{Addr}
use Rattle.credentials.specs.Checks.{Directory, users_of, user_in}
use Rattle.credentials.specs.Results.{check_result}
use Rattle.credentials.specs.TimeLimited.{Account}
use Rattle.credentials.specs.declared.checking.AuthError.{AuthError}
use Rattle.credentials.specs.declared.checking.AuthError.TheVariants.{UnknownUser}
use Rattle.tables.specs.Addresses.{is_ipv4}
use Rattle.tables.specs.LookUps.{allocation_of}
use Rattle.tables.specs.Rows.{Rows, rows_at}
use Rattle.control.specs.Control.{Decision, grant_of, rows_of, decision, binding, owner_in}
use Rattle.control.specs.Replies.{kind_of, reply_to}
use Rattle.control.specs.declared.config.Config.{Config}
use Rattle.control.specs.declared.request.Request.{Request}
use Rattle.control.specs.declared.request.Request.TheVariants as request
use Rattle.control.specs.declared.request.TurnRequest.{TurnRequest}
use Rattle.control.specs.declared.response.Response.{Response}
use Rattle.control.specs.declared.response.Response.TheVariants as response
use Rattle.control.specs.declared.response.Written.{Written}
use Rattle.control.specs.declared.reply.Grant.{Grant}
use Rattle.stun.specs.declared.registry.ErrorCode.{ErrorCode}

-- the user of the allocation that a client has, if it has one
abbrev pub user_held : Addr → Rows → Option ℕ
user_held client rows = option_map (λ allocation. allocation.user) (allocation_of client rows)

-- the time by the system's clock at a moment, in seconds since 1970: by as much ahead of it as is configured
abbrev pub time_at : Config → ℕ → ℕ
time_at config now = saturate_unsigned w64 (pos now +ℤ config.clock_ahead)

-- ---- credentials

-- whose credentials are accepted at a moment, where this is the secret, if there is one, and the client has an allocation of a user
abbrev pub directory_under : Config → Option (Vec ℕ Global) → ℕ → Option ℕ → Directory
directory_under config secret now held = record {
  users = users_of config.users.items;
  limits = option_map (λ secret. record { secret = secret.items; time = time_at config now; held = held }) secret;
}

abbrev pub check_under : Config → Option (Vec ℕ Global) → ℕ → Option ℕ → Parts → Result Account AuthError
check_under config secret now held p =
    check_result p (string_bytes config.realm) (directory_under config secret now held) config.nonce.bytes

-- what is refused may be accepted otherwise, and else is refused for the first reason
abbrev pub or_accepted : Result Account AuthError → Option (Result Account AuthError) → Result Account AuthError
or_accepted (Ok account) other = Ok account
or_accepted (Err error) None = Err error
or_accepted (Err error) (Some (Ok account)) = Ok account
or_accepted (Err error) (Some (Err other)) = Err error

-- under the secret, and under the former one, if there is one
abbrev pub check_under_each : Config → ℕ → Option ℕ → Parts → Result Account AuthError
check_under_each config now held p =
    or_accepted (check_under config config.secret now held p) (option_map (λ former. check_under config (Some former) now held p) config.former_secret)

-- whether those of the user whose name a request gives are revoked
abbrev pub is_revoked : Config → Parts → Bool
is_revoked config p = list_any (λ owner. bytes_eq owner (owner_in p)) config.revoked.items

-- what is revoked is nobody's
abbrev pub unless_revoked : Bool → Result Account AuthError → Result Account AuthError
unless_revoked false checked = checked
unless_revoked true (Ok account) = Err UnknownUser
unless_revoked true (Err error) = Err error

abbrev pub check_by : Config → ℕ → Option ℕ → Parts → Result Account AuthError
check_by config now held p = unless_revoked (is_revoked config p) (check_under_each config now held p)

-- the account whose credentials a request of a client has, or the first test that fails
abbrev pub check_of : Config → ℕ → Addr → Parts → Rows → Result Account AuthError
check_of config now client p rows = check_by config now (user_held client (rows_at now rows)) p

-- ---- responses

-- the key that a reply is signed under: that of the account whose credentials were accepted
abbrev pub key_for : Result Account AuthError → Option (List ℕ)
key_for (Ok account) = Some account.key
key_for (Err e) = None

-- what a response says: what is granted, or the error
abbrev pub response_of_result : Result Grant ErrorCode → Response
response_of_result (Ok grant) = response.Granted grant
response_of_result (Err error) = response.Refused error

-- to a request whose credentials are checked
abbrev pub response_of : Result ℕ AuthError → Decision → Response
response_of (Ok user) d = response_of_result (grant_of d)
response_of (Err error) d = response.Unauthenticated error

pub record IsAnswer (config : Config) (r : Request) (client : Addr) (p : Parts) (key : Option (List ℕ)) (result : Decision) (old new : Rows) (written : List ℕ) : Type 0 where
  pub rows : new ≡ rows_of old result
  pub bytes : written ≡ parts_bytes (reply_to config r client p key (grant_of result))

-- the answer to a request whose credentials are checked, with the result of the check
pub record IsCheckedAnswer (config : Config) (now : ℕ) (turn : TurnRequest) (client : Addr) (p : Parts) (checked : Result Account AuthError) (old new : Rows) (written : List ℕ) (says : Response) : Type 0 where
  pub answer : IsAnswer config (request.Turn turn) client p (key_for checked) (decision turn (user_in checked) config client p (rows_at now old)) old new written
  pub response : says ≡ response_of (user_in checked) (decision turn (user_in checked) config client p (rows_at now old))

-- the answer to a request: that to Binding is not signed, since its credentials are ignored
abbrev pub Answers : Config → ℕ → Request → Addr → Parts → Rows → Rows → List ℕ → Response → Type 0
Answers config now request.Binding client p old new written says =
    IsAnswer config request.Binding client p None (binding p) old new written × (says ≡ response_of_result (grant_of (binding p)))
Answers config now (request.Turn r) client p old new written says =
    IsCheckedAnswer config now r client p (check_of config now client p old) old new written says

-- no reply, and no change
pub record IsSilent (old new : Rows) (written : List ℕ) (says : Option Response) : Type 0 where
  pub rows : new ≡ old
  pub bytes : written ≡ []
  pub response : says ≡ None

-- A request of a client over IPv4 is answered; a message that is none of the five requests is not, and neither is a client
-- over IPv6.
pub record Responds (config : Config) (now : ℕ) (client : Addr) (p : Parts) (old new : Rows) (written : List ℕ) (says : Option Response) : Type 0 where
  pub answered : (r : Request) → kind_of r class.Request ≡ p.kind → is_ipv4 client ≡ true
      → IsSomeAnd says (Answers config now r client p old new written)
  pub other : ((r : Request) → kind_of r class.Request ≡ p.kind → ⊥) → IsSilent old new written says
  pub ipv6 : is_ipv4 client ≡ false → IsSilent old new written says

-- the length of what was written
abbrev pub count_of : Option Written → ℕ
count_of None = 0
count_of (Some w) = w.count

-- what it says
abbrev pub response_in : Option Written → Option Response
response_in written = option_map (λ w. w.response) written
