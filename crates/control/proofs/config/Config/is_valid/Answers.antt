use Rattle.std.proofs.Common.{rules}
use Rattle.control.proofs.config.Config.is_valid.Goals as goal

pub returns-then-contains : goal.returns-then-contains
returns-then-contains c = search rules
