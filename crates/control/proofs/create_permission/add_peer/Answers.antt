use Rattle.std.proofs.Common.{rules}
use Rattle.control.proofs.create_permission.add_peer.Goals as goal

pub returns-else-not-has_ip : goal.returns-else-not-has_ip
returns-else-not-has_ip c = search rules
