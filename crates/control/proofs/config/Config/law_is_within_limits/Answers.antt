use Rattle.control.specs.laws.Config.{within_limits}
use Rattle.control.proofs.config.Config.law_is_within_limits.Goals as goal

pub returns : goal.returns
returns c = within_limits c.args.self.now c.requires
