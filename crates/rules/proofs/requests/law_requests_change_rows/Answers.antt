use Rattle.rules.specs.laws.Authentication.{requests_change_rows}
use Rattle.rules.proofs.requests.law_requests_change_rows.Goals as goal

pub returns : goal.returns
returns c = λ config now client rows bytes. requests_change_rows config now client rows bytes
