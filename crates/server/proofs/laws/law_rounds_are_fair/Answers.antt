use Rattle.server.proofs.Turns.{fair}
use Rattle.server.proofs.laws.law_rounds_are_fair.Goals as goal

pub returns : goal.returns
returns c = fair
