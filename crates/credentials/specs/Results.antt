-- Meaning. The result of the check of a request's credentials, as a function: the tests in their order, of which the
-- first that fails gives the error.
use Rattle.std.specs.Prelude.{ℕ, List, bytes_eq, Option, None, Some, Result, Ok, ok_or}
use Rattle.std.specs.List.{position}
use Rattle.basics.specs.Fallible.{◌>>=◌, check}
use Rattle.stun.specs.Registry.{message_integrity}
use Rattle.stun.specs.declared.registry.attribute.TheConstants.{USERNAME, REALM, NONCE}
use Rattle.stun.specs.Messages.{Parts}
use Rattle.credentials.specs.Checks.{Users, Directory, first_value, listed_account, unlisted_account, lacking}
use Rattle.credentials.specs.Integrity.{integrity_under}
use Rattle.credentials.specs.TimeLimited.{Account}
use Rattle.credentials.specs.declared.checking.AuthError.{AuthError}
use Rattle.credentials.specs.declared.checking.AuthError.TheVariants.{Missing, Incomplete, StaleNonce, WrongIntegrity}

-- the index of the first user of a name, if there is one
abbrev pub user_of : Users → List ℕ → Option ℕ
user_of users name = position (λ user. bytes_eq user.0 name) users

-- the account of the user at an index, or that of a name that no user has
abbrev pub account_at : List ℕ → Directory → List ℕ → Option ℕ → Option Account
account_at realm directory name (Some index) = Some (listed_account realm directory.users index)
account_at realm directory name None = unlisted_account realm directory name

-- the account whose credentials a message has, or the first test that fails
abbrev pub check_result : Parts → List ℕ → Directory → List ℕ → Result Account AuthError
check_result p realm directory nonce = do
  integrity ← ok_or (first_value p message_integrity) Missing
  name ← ok_or (first_value p USERNAME) Incomplete
  _ ← ok_or (first_value p REALM) Incomplete
  given ← ok_or (first_value p NONCE) Incomplete
  _ ← check (bytes_eq given nonce) StaleNonce
  account ← ok_or (account_at realm directory name (user_of directory.users name)) (lacking directory name)
  right ← ok_or (integrity_under account.key p) WrongIntegrity
  _ ← check (bytes_eq right integrity) WrongIntegrity
  Ok account
