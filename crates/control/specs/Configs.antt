-- Meaning. Configurations, and the first of their fields that is outside its limits.
use Rattle.std.specs.Prelude.{ℕ, ◌+◌, Bool, true, not, ◌&&◌, List, [], ◌∷◌, length, find, ◌==◌, nat_le, bytes_eq, string_bytes, Option, None, Some, is_some, Vec, if◌then◌else◌}
use Rattle.std.specs.declared.alloc.Global.{Global}
use Rattle.std.specs.List.{list_all, list_any}
use Rattle.stun.specs.Ranges.{is_between}
use Rattle.credentials.specs.Texts.{is_text, is_nonce}
use Rattle.credentials.specs.declared.checking.User.{User}
use Rattle.control.specs.declared.config.TheConstants.{MAX_TEXT}
use Rattle.control.specs.declared.config.Config.{Config}
use Rattle.control.specs.declared.config.Field.{Field}
use Rattle.control.specs.declared.config.Field.TheVariants.{FirstPort, Slots, Realm, Nonce, Users, Secret}

-- a name has no blank, and no colon, which ends it where user and password are written as one
abbrev pub is_user_name : List ℕ → Bool
is_user_name name = is_text 0x21 MAX_TEXT name && not (list_any (λ b. b == 0x3a) name)

abbrev pub is_user : User → Bool
is_user user = is_user_name (string_bytes user.name) && is_text 0x20 MAX_TEXT (string_bytes user.password)

-- whether one of these users has a name
abbrev pub has_name : List User → List ℕ → Bool
has_name users name = list_any (λ user. bytes_eq name (string_bytes user.name)) users

-- whether no two users have one name
abbrev pub are_distinct : List User → Bool
are_distinct [] = true
are_distinct (user ∷ users) = not (has_name users (string_bytes user.name)) && are_distinct users

-- the least number of users: one, where no secret gives others their passwords
abbrev pub least_users : Bool → ℕ
least_users has_secret = if has_secret then 0 else 1

-- whether these can be the users of a relay
abbrev pub are_users : Bool → List User → Bool
are_users has_secret users = is_between (least_users has_secret) 64 (length users) && list_all is_user users && are_distinct users

-- the secret of time-limited credentials, if there is one, has any bytes
abbrev pub is_secret : Option (Vec ℕ Global) → Bool
is_secret None = true
is_secret (Some secret) = is_between 16 MAX_TEXT (length secret.items)

-- whether a field is within its limits
abbrev pub is_valid_field : Config → Field → Bool
is_valid_field c FirstPort = nat_le 1 c.first_port
is_valid_field c Slots = is_between 1 256 c.slots && nat_le (c.first_port + c.slots) 0x10000
is_valid_field c Realm = is_text 0x20 MAX_TEXT (string_bytes c.realm)
is_valid_field c Nonce = is_nonce c.nonce.bytes
is_valid_field c Users = are_users (is_some c.secret) c.users.items
is_valid_field c Secret = is_secret c.secret && is_secret c.former_secret

-- the fields that have limits, in their order
abbrev pub fields : List Field
fields = FirstPort ∷ Slots ∷ Realm ∷ Nonce ∷ Users ∷ Secret ∷ []

abbrev pub fault : Config → Option Field
fault c = find (λ field. not (is_valid_field c field)) fields
