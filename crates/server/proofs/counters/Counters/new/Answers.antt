use Rattle.server.specs.CounterValues.{counter_index}
use Rattle.server.proofs.CounterValues.{by_side, zeros}
use Rattle.server.proofs.counters.Counters.new.Goals as goal

pub returns-clause-counters : goal.returns-clause-counters
returns-clause-counters c = λ d. zeros 59 (counter_index d)

pub returns-clause-verdicts : goal.returns-clause-verdicts
returns-clause-verdicts c = by_side _ (λ v. zeros 17 v) (λ v. zeros 17 v)
