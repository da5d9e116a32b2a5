use Rattle.relay.proofs.Confined.{sends_what_is_permitted}
use Rattle.relay.proofs.confining.law_confined_programs_send_what_is_permitted.Goals as goal

pub returns : goal.returns
returns c = λ programs config s. sends_what_is_permitted programs config s
