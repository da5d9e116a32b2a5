use Rattle.rules.proofs.Controls.{request_is}
use Rattle.rules.proofs.discarding.request_of.Goals as goal

pub returns : goal.returns
returns c = request_is c.args.message.now.kind c.of.result c.of.ensures.found c.of.ensures.only
