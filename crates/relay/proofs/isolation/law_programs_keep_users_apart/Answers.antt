use Rattle.relay.proofs.OwnRuns.{programs_keep_users_apart}
use Rattle.relay.proofs.isolation.law_programs_keep_users_apart.Goals as goal

pub returns : goal.returns
returns c = λ programs config now tx from bytes. programs_keep_users_apart programs config now tx from bytes
