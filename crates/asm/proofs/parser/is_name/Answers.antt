use Rattle.std.proofs.Common.{rules}
use Rattle.asm.proofs.parser.is_name.Goals as goal

pub returns : goal.returns
returns c = search rules
