-- Meaning. The ordered check of a request's credentials (RFC 8489, section 9.2.4).
use Rattle.std.specs.Prelude.{◌≡◌, ◌≢◌, ℕ, ◌<◌, ◌⊎◌, List, [], length, map, slice_index_or, string_bytes, Option, Some, None, option_map, is_some, ◌&&◌, if◌then◌else◌, Result, Ok, Err}
use Rattle.std.specs.Option.{option_and_then}
use Rattle.stun.specs.Registry.{message_integrity}
use Rattle.stun.specs.declared.registry.attribute.TheConstants.{USERNAME, REALM, NONCE}
use Rattle.stun.specs.Messages.{Parts, message_of}
use Rattle.stun.specs.Attributes.{value_of}
use Rattle.credentials.specs.Integrity.{integrity_under}
use Rattle.credentials.specs.Keys.{key_of, key_bytes}
use Rattle.credentials.specs.TimeLimited.{Account, Limits, limits_of, expiry_of, limited_account}
use Rattle.credentials.specs.declared.checking.Authenticated.{Authenticated}
use Rattle.credentials.specs.declared.checking.AuthError.{AuthError}
use Rattle.credentials.specs.declared.checking.AuthError.TheVariants.{Missing, Incomplete, StaleNonce, UnknownUser, WrongIntegrity, Expired}
use Rattle.credentials.specs.declared.checking.Directory.{Directory as Checked}
use Rattle.credentials.specs.declared.checking.User.{User}

-- the value of the first attribute of a type
abbrev pub first_value : Parts → ℕ → Option (List ℕ)
first_value p kind = value_of kind (message_of p).attributes

-- ---- accounts

-- users: names and passwords
abbrev pub Users : Type 0
Users = List (List ℕ × List ℕ)

abbrev pub users_of : List User → Users
users_of users = map (λ u. (string_bytes u.name, string_bytes u.password)) users

-- whose credentials are accepted: those of a list of users, and time-limited ones where there is a secret
pub record Directory : Type 0 where
  pub users : Users
  pub limits : Option Limits

abbrev pub directory_of : Checked → Directory
directory_of directory = record { users = users_of directory.users.now; limits = option_map limits_of directory.time_limited }

-- the directory of a list of users without a secret
abbrev pub listed_only : List User → Directory
listed_only users = record { users = users_of users; limits = None }

-- the first user of a name
pub record IsUser (users : Users) (name : List ℕ) (index : ℕ) : Type 0 where
  pub inside : index < length users
  pub named : (slice_index_or users index ([], [])).0 ≡ name
  pub first : (k : ℕ) → k < index → (slice_index_or users k ([], [])).0 ≢ name

-- no user has a name
abbrev pub IsNoUser : Users → List ℕ → Type 0
IsNoUser users name = (k : ℕ) → k < length users → (slice_index_or users k ([], [])).0 ≢ name

-- the account of the user at an index
abbrev pub listed_account : List ℕ → Users → ℕ → Account
listed_account realm users index =
    record { user = index; key = key_of (slice_index_or users index ([], [])).0 realm (slice_index_or users index ([], [])).1 }

-- the account of a name that no user of the list has
abbrev pub unlisted_account : List ℕ → Directory → List ℕ → Option Account
unlisted_account realm directory name = option_and_then (λ limits. limited_account realm limits name) directory.limits

-- a name's account: that of the first user of the list who has it, else a time-limited one
abbrev pub HasAccount : List ℕ → Directory → List ℕ → Account → Type 0
HasAccount realm directory name account =
    ((index : ℕ) × IsUser directory.users name index × (account ≡ listed_account realm directory.users index))
    ⊎ (IsNoUser directory.users name × (unlisted_account realm directory name ≡ Some account))

-- why a name that has no account has none: it says when it expires, and has expired, or nobody has it
abbrev pub lacking : Directory → List ℕ → AuthError
lacking directory name = if is_some directory.limits && is_some (expiry_of name) then Expired else UnknownUser

abbrev pub HasNoAccount : List ℕ → Directory → List ℕ → Type 0
HasNoAccount realm directory name = IsNoUser directory.users name × (unlisted_account realm directory name ≡ None)

abbrev pub account_of : Authenticated → Account
account_of authenticated = record { user = authenticated.user; key = key_bytes authenticated.key }

-- ---- the tests, in their order

-- a message has a MESSAGE-INTEGRITY, a name, a realm and the nonce
pub record HasCredentials (p : Parts) (nonce integrity name : List ℕ) : Type 0 where
  pub integrity_is : first_value p message_integrity ≡ Some integrity
  pub name_is : first_value p USERNAME ≡ Some name
  pub realm : List ℕ
  pub realm_is : first_value p REALM ≡ Some realm
  pub nonce_is : first_value p NONCE ≡ Some nonce

-- a message's name has no account for a reason
abbrev pub LacksAccount : Parts → List ℕ → Directory → List ℕ → AuthError → Type 0
LacksAccount p realm directory nonce reason =
    (integrity : List ℕ) × (name : List ℕ) × HasCredentials p nonce integrity name × HasNoAccount realm directory name × (lacking directory name ≡ reason)

-- the result of the check: an account, or the first test that fails; the realm that a message names is not compared
abbrev pub IsChecked : Parts → List ℕ → Directory → List ℕ → Result Account AuthError → Type 0
IsChecked p realm directory nonce (Ok account) =
    (integrity : List ℕ) × (name : List ℕ) × HasCredentials p nonce integrity name × HasAccount realm directory name account
    × (integrity_under account.key p ≡ Some integrity)
IsChecked p realm directory nonce (Err Missing) = first_value p message_integrity ≡ None
IsChecked p realm directory nonce (Err Incomplete) =
    (first_value p message_integrity ≢ None) × ((first_value p USERNAME ≡ None) ⊎ (first_value p REALM ≡ None) ⊎ (first_value p NONCE ≡ None))
IsChecked p realm directory nonce (Err StaleNonce) =
    (other : List ℕ) × (integrity : List ℕ) × (name : List ℕ) × HasCredentials p other integrity name × (other ≢ nonce)
IsChecked p realm directory nonce (Err UnknownUser) = LacksAccount p realm directory nonce UnknownUser
IsChecked p realm directory nonce (Err Expired) = LacksAccount p realm directory nonce Expired
IsChecked p realm directory nonce (Err WrongIntegrity) =
    (integrity : List ℕ) × (name : List ℕ) × (account : Account) × HasCredentials p nonce integrity name
    × HasAccount realm directory name account × (integrity_under account.key p ≢ Some integrity)

-- the user that a check gives
abbrev pub user_in : Result Account AuthError → Result ℕ AuthError
user_in (Ok account) = Ok account.user
user_in (Err error) = Err error
