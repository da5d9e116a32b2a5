-- Meaning. Time-limited credentials (draft-uberti-behave-turn-rest-00, section 2.2): a name says how long it is accepted, and
-- a secret gives each name its password.
use Rattle.std.specs.Prelude.{ℕ, ◌+◌, ◌^◌, ◌∷◌, ◌==◌, ◌||◌, Bool, false, List, length, take, drop, position, nat_le, nat_lt, Option, None, Some, if◌then◌else◌}
use Rattle.std.specs.List.{before_first}
use Rattle.std.specs.Int.{w64, from_be_bytes}
use Rattle.base64.specs.Engines.{standard}
use Rattle.base64.specs.GeneralPurpose.{encode_of}
use Rattle.sha1.specs.Sha1.{sha1}
use Rattle.basics.specs.Decimals.{decimal_in}
use Rattle.basics.specs.Options.{◌>>=◌, guard}
use Rattle.credentials.specs.Hmac.{hmac}
use Rattle.credentials.specs.Keys.{key_of}
use Rattle.credentials.specs.declared.time_limited.TimeLimited.{TimeLimited}

-- a user, by number, and its key
pub record Account : Type 0 where
  pub user : ℕ
  pub key : List ℕ

-- a secret, the current time in seconds since 1970, and the user of the allocation that the client has, if it has one
pub record Limits : Type 0 where
  pub secret : List ℕ
  pub time : ℕ
  pub held : Option ℕ

abbrev pub limits_of : TimeLimited → Limits
limits_of limited = record { secret = limited.secret.now; time = limited.time; held = limited.held }

-- ---- names

abbrev pub is_colon : ℕ → Bool
is_colon byte = byte == 0x3a

-- the time at which a name of at most 128 bytes expires: what precedes its first colon, or all of it
abbrev pub expiry_of : List ℕ → Option ℕ
expiry_of name = if nat_le (length name) 128 then decimal_in (2 ^ 64) (before_first is_colon name) else None

-- the name of its user: what follows its first colon, or all of it where it has none
abbrev pub name_after : Option ℕ → List ℕ → List ℕ
name_after None name = name
name_after (Some colon) name = drop (colon + 1) name

abbrev pub user_name : List ℕ → List ℕ
user_name name = name_after (position is_colon name) name

-- whose allocations are counted together: those of all names of one user, whatever time they say
abbrev pub owner_of : List ℕ → List ℕ
owner_of name = sha1 (user_name name)

-- the password of a name
abbrev pub password_of : List ℕ → List ℕ → List ℕ
password_of secret name = encode_of standard (hmac secret name)

-- the number of a name: 7 bytes of a digest after a byte 1, so that it is the index of no user of a list
abbrev pub user_number : List ℕ → List ℕ → ℕ
user_number secret name = from_be_bytes w64 (1 ∷ take 7 (hmac secret name))

-- ---- accounts

abbrev pub is_held_by : Option ℕ → ℕ → Bool
is_held_by None user = false
is_held_by (Some held) user = held == user

-- whether a name that expires at a time is accepted: it hasn't expired, or the client's allocation is its own
abbrev pub is_accepted : Limits → List ℕ → ℕ → Bool
is_accepted limits name expiry = nat_lt limits.time expiry || is_held_by limits.held (user_number limits.secret name)

-- the account of a name, if it is accepted
abbrev pub limited_account : List ℕ → Limits → List ℕ → Option Account
limited_account realm limits name = do
  expiry ← expiry_of name
  _ ← guard (is_accepted limits name expiry)
  Some (record { user = user_number limits.secret name; key = key_of name realm (password_of limits.secret name) })
