use Rattle.std.proofs.Common.{rules}
use Rattle.control.proofs.channel_bind.is_bindable.Goals as goal

pub returns : goal.returns
returns c = search rules
