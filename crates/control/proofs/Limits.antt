-- What a configuration without a fault keeps.
use Rattle.std.proofs.Common.{◌≡◌, ◌+◌, ◌≤◌, length, string_bytes, None, arith}
use Rattle.control.specs.Configs.{fault}
use Rattle.control.specs.laws.Config.{within_limits}
use Rattle.control.specs.Serving.{HasSlotBelow}
use Rattle.control.specs.Serving.{HasPort}
use Rattle.control.specs.declared.config.TheConstants.{MAX_TEXT}
use Rattle.control.specs.declared.config.Config.{Config}
use Rattle.control.specs.declared.reply.Grant.{Grant}
use Rattle.control.specs.declared.reply.Grant.TheVariants as grant

pub realm_fits : (c : Config) → fault c ≡ None → length (string_bytes c.realm) ≤ MAX_TEXT
realm_fits c e = (within_limits c e).realm.long.1

pub ports_fit : (c : Config) → fault c ≡ None → c.first_port + c.slots ≤ 0x10000
ports_fit c e = (within_limits c e).ports

-- the slots of the relay have ports
pub has_port : (c : Config) (g : Grant) → c.first_port + c.slots ≤ 0x10000 → HasSlotBelow c.slots g → HasPort c g
has_port c grant.Mapped few inside = tt
has_port c (grant.Allocated family slot lifetime) few inside = omega (arith, few, inside)
has_port c (grant.Refreshed lifetime) few inside = tt
has_port c grant.Done few inside = tt
