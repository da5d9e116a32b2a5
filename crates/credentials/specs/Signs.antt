-- Meaning. Messages that are signed (RFC 8489, section 14.5).
use Rattle.std.specs.Prelude.{◌≡◌, List, ℕ, Some, None}
use Rattle.stun.specs.Registry.{message_integrity}
use Rattle.stun.specs.Messages.{Parts, with_attribute, before_first}
use Rattle.stun.specs.declared.registry.attribute.TheConstants.{USERNAME, REALM, NONCE}
use Rattle.stun.specs.Builders.{parts_of}
use Rattle.stun.specs.declared.building.Builder.{Builder}
use Rattle.credentials.specs.declared.key.Key.{Key}
use Rattle.credentials.specs.Keys.{key_bytes}
use Rattle.credentials.specs.Integrity.{integrity_of}
use Rattle.credentials.specs.Checks.{first_value}

-- the message with a MESSAGE-INTEGRITY after its attributes
abbrev pub with_integrity : List ℕ → Parts → Parts
with_integrity key p = with_attribute p message_integrity (integrity_of key p)

-- the MESSAGE-INTEGRITY of a builder's message
abbrev pub integrity_in : Builder → Key → List ℕ
integrity_in builder key = integrity_of (key_bytes key) (parts_of builder)

-- a message that lacks only its MESSAGE-INTEGRITY: it has a name, a realm and the nonce
pub record IsUnsigned (p : Parts) (nonce name : List ℕ) : Type 0 where
  pub no_integrity : before_first p.attributes ≡ None
  pub name_is : first_value p USERNAME ≡ Some name
  pub realm : List ℕ
  pub realm_is : first_value p REALM ≡ Some realm
  pub nonce_is : first_value p NONCE ≡ Some nonce
