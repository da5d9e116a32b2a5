use Rattle.server.proofs.TurnsOfDuties.{done_in_turn}
use Rattle.server.proofs.laws.law_each_duty_has_its_turn.Goals as goal

pub returns : goal.returns
returns c = done_in_turn
