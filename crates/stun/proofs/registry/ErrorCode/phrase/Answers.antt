use Rattle.std.proofs.Common.{ap, sym}
use Rattle.stun.specs.ErrorCodes.{phrase_of}
use Rattle.stun.proofs.registry.ErrorCode.phrase.Goals as goal

pub returns-in-StaleNonce : goal.returns-in-StaleNonce
returns-in-StaleNonce c = sym (ap phrase_of c.in-StaleNonce.is)
