use Rattle.std.proofs.Common.{refl}
use Rattle.semantics.specs.Machine.{start}
use Rattle.events.specs.Lines.{answer_line}
use Rattle.programs.specs.Runs.{environment_for}
use Rattle.relay.specs.ByPrograms.{program_for, by_programs}
use Rattle.rules.specs.Systems.{system_step}
use Rattle.relay.proofs.ExitReasons.{unsent_holds}
use Rattle.relay.proofs.ExitSlots.{exits_at}
use Rattle.relay.proofs.explaining.law_reasons_are_of_the_answers.Goals as goal

pub returns-clause-exit : goal.returns-clause-exit
returns-clause-exit c = λ programs tx from live bytes verdict.
    exits_at (environment_for tx from live) (program_for programs from) _ (start bytes) 0 verdict

pub returns-clause-unsent : goal.returns-clause-unsent
returns-clause-unsent c = λ programs config now tx from rows bytes slot unsent verdict named exits.
    unsent_holds programs config now tx from rows bytes verdict exits slot unsent named

pub returns-clause-line : goal.returns-clause-line
returns-clause-line c = λ programs config s e. (answer_line (system_step (by_programs programs) config s e).answer, refl, refl)
