-- Meaning. The numbers that the grammar itself has (RFC 8489, sections 5 and 14.5).
use Rattle.std.specs.Prelude.{ℕ}
use Rattle.stun.specs.declared.registry.TheConstants.{MAGIC_COOKIE}
use Rattle.stun.specs.declared.registry.attribute.TheConstants.{MESSAGE_INTEGRITY}

-- the magic cookie of every message
abbrev pub magic_cookie : ℕ
magic_cookie = MAGIC_COOKIE

-- the type of the attribute MESSAGE-INTEGRITY
abbrev pub message_integrity : ℕ
message_integrity = MESSAGE_INTEGRITY
