use Rattle.std.proofs.Common.{◌-◌, ◌+◌, length}
use Rattle.semantics.specs.Views.{memory_with}
use Rattle.machine.specs.Execution.{HasWindowInside, traced_environment}
use Rattle.machine.proofs.Executions.{HasRun}
use Rattle.machine.proofs.execution.execute_from.Given as goal

abbrev pub invariant-loop-insn : goal.invariant-loop-insn
invariant-loop-insn g l =
    HasWindowInside l.given.length l.state.plan × HasRun g.S.Sink.Logs (traced_environment g.H.Helpers.answers l.given) l.given.code.now (memory_with l.initial.stack l.initial.bytes l.given.length) (memory_with l.stack l.bytes l.given.length) l.state.plan l.state.at l.state.registers l.steps (g.S.Sink.log l.initial.sink) (g.S.Sink.log l.sink)

abbrev pub decreases-loop-insn : goal.decreases-loop-insn
decreases-loop-insn g l = length l.given.code.now + 1 - l.state.at.index
