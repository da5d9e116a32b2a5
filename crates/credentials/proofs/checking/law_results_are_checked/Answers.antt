use Rattle.credentials.proofs.Results.{result_is_checked}
use Rattle.credentials.proofs.checking.law_results_are_checked.Goals as goal

pub returns : goal.returns
returns c = λ p realm users nonce r h. result_is_checked p realm users nonce r h
