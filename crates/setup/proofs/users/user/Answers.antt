use Rattle.std.proofs.Common.{rules}
use Rattle.credentials.specs.TimeLimited.{is_colon}
use Rattle.setup.proofs.Parted.{none_found}
use Rattle.setup.proofs.users.user.Goals as goal

pub returns-in_default : goal.returns-in_default
returns-in_default c = none_found is_colon c.args.text.now (search rules)
