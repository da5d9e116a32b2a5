use Rattle.std.proofs.Common.{rules}
use Rattle.stun.proofs.registry.Class.from_bits.Goals as goal

pub returns-in-272-clause-only : goal.returns-in-272-clause-only
returns-in-272-clause-only c = search rules
