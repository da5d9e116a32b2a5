use Rattle.std.proofs.Common.{rules}
use Rattle.stun.proofs.value.RefSliceU8AttributeValue.write.Goals as goal

pub returns : goal.returns
returns c = search rules
