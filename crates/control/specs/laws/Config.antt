-- Interface. The limits of a configuration without a fault.
use Rattle.std.specs.Prelude.{◌≡◌, ℕ, ◌+◌, ◌≤◌, Bool, true, false, not, cond, ◌&&◌, List, length, string_bytes, Option, None, Some, is_some, refl}
use Rattle.std.specs.List.{list_all}
use Rattle.std.proofs.lemmas.Bool.{both_ways, leb-true}
use Rattle.std.proofs.lemmas.Option.{none-some}
use Rattle.std.proofs.Common.{sym}
use Rattle.stun.specs.Ranges.{is_between}
use Rattle.credentials.specs.Texts.{is_text}
use Rattle.control.specs.Configs.{is_user, are_distinct, least_users, is_secret, is_valid_field, fault}
use Rattle.control.specs.declared.config.TheConstants.{MAX_TEXT}
use Rattle.control.specs.declared.config.Config.{Config}
use Rattle.control.specs.declared.config.Field.TheVariants.{FirstPort, Slots, Realm, Nonce, Users, Secret}

-- a number from `low` to `high`
abbrev pub IsBetween : ℕ → ℕ → ℕ → Type 0
IsBetween low high n = (low ≤ n) × (n ≤ high)

-- `low` is the least byte of a text
pub record IsText (low longest : ℕ) (text : List ℕ) : Type 0 where
  pub long : IsBetween 1 longest (length text)
  pub bytes : list_all (is_between low 0x7e) text ≡ true

pub record IsWithinLimits (c : Config) : Type 0 where
  pub first_port : 1 ≤ c.first_port
  pub slots : IsBetween 1 256 c.slots
  pub ports : c.first_port + c.slots ≤ 0x10000
  pub realm : IsText 0x20 MAX_TEXT (string_bytes c.realm)
  pub nonce : IsText 0x21 64 c.nonce.bytes
  pub users : IsBetween (least_users (is_some c.secret)) 64 (length c.users.items)
  pub each_user : list_all is_user c.users.items ≡ true
  pub distinct : are_distinct c.users.items ≡ true
  pub secret : is_secret c.secret ≡ true
  pub former_secret : is_secret c.former_secret ≡ true

-- the first of some fields that is not valid: there is none, so each is
passes : (b : Bool) {X : Type 0} (x : X) (rest : Option X) → cond (not b) (Some x) rest ≡ None → (b ≡ true) × (rest ≡ None)
passes true x rest e = (refl, e)
passes false x rest e = absurd (none-some x (sym e))

both : (a b : Bool) → (a && b) ≡ true → (a ≡ true) × (b ≡ true)
both true b e = (refl, e)
both false b e = absurd (both_ways false refl e)

between : (low high n : ℕ) → is_between low high n ≡ true → IsBetween low high n
between low high n e = let parts = both _ _ e in (leb-true _ _ parts.0, leb-true _ _ parts.1)

is_text-text : (low longest : ℕ) (text : List ℕ) → is_text low longest text ≡ true → IsText low longest text
is_text-text low longest text e = let parts = both _ _ e in record { long = between 1 longest (length text) parts.0; bytes = parts.1 }

pub within_limits : (c : Config) → fault c ≡ None → IsWithinLimits c
within_limits c e =
    let first = passes (is_valid_field c FirstPort) FirstPort _ e in
    let second = passes (is_valid_field c Slots) Slots _ first.1 in
    let third = passes (is_valid_field c Realm) Realm _ second.1 in
    let fourth = passes (is_valid_field c Nonce) Nonce _ third.1 in
    let fifth = passes (is_valid_field c Users) Users _ fourth.1 in
    let sixth = passes (is_valid_field c Secret) Secret _ fifth.1 in
    let ports = both _ _ second.0 in
    let users = both _ _ fifth.0 in
    let few = both _ _ users.0 in
    let secrets = both _ _ sixth.0 in
    record {
      first_port = leb-true _ _ first.0;
      slots = between 1 256 c.slots ports.0;
      ports = leb-true _ _ ports.1;
      realm = is_text-text 0x20 MAX_TEXT (string_bytes c.realm) third.0;
      nonce = is_text-text 0x21 64 c.nonce.bytes fourth.0;
      users = between (least_users (is_some c.secret)) 64 (length c.users.items) few.0;
      each_user = few.1;
      distinct = users.1;
      secret = secrets.0;
      former_secret = secrets.1;
    }
