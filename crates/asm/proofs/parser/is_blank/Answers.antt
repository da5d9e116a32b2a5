use Rattle.std.proofs.Common.{rules}
use Rattle.asm.proofs.parser.is_blank.Goals as goal

pub returns-else-c-eq32 : goal.returns-else-c-eq32
returns-else-c-eq32 c = search rules
