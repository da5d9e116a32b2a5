use Rattle.events.proofs.Events.{no_nonce}
use Rattle.events.proofs.parsing.nonce.Goals as goal

pub returns-in_default-clause-reads : goal.returns-in_default-clause-reads
returns-in_default-clause-reads c = λ room. no_nonce c.args.text.now c.in_default.ensures.cases.0
