use Rattle.std.proofs.Common.{rules}
use Rattle.stun.proofs.reading.test_header.Goals as goal

pub returns-then-length-ne0-clause-refused : goal.returns-then-length-ne0-clause-refused
returns-then-length-ne0-clause-refused c = search rules

pub returns-then-read_u32-ne-MAGIC_COOKIE-clause-refused : goal.returns-then-read_u32-ne-MAGIC_COOKIE-clause-refused
returns-then-read_u32-ne-MAGIC_COOKIE-clause-refused c = search rules
