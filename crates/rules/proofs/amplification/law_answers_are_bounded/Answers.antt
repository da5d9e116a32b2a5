use Rattle.rules.specs.laws.Amplification.{answer_bounded}
use Rattle.rules.proofs.amplification.law_answers_are_bounded.Goals as goal

pub returns : goal.returns
returns c = λ config now client rows bytes. answer_bounded config now client rows bytes
