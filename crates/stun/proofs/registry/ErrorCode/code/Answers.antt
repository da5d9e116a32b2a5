use Rattle.std.proofs.Common.{rules}
use Rattle.stun.proofs.registry.ErrorCode.code.Goals as goal

pub returns-in-StaleNonce : goal.returns-in-StaleNonce
returns-in-StaleNonce c = search rules
