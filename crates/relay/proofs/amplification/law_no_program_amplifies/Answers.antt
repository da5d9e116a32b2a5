use Rattle.relay.proofs.BoundedAnswers.{is_no_amplifier}
use Rattle.relay.proofs.amplification.law_no_program_amplifies.Goals as goal

pub returns : goal.returns
returns c = λ programs config s. is_no_amplifier programs config s
