use Rattle.std.proofs.Common.{sym, rules}
use Rattle.semantics.specs.laws.Slot.{begins_at}
use Rattle.machine.proofs.Executions.{starts, goes_on, over_at_exit, over_at_stuck, over_past, over_inside}
use Rattle.machine.proofs.execution.execute_from.Goals as goal

pub execute_step-requires-clause-here : goal.execute_step-requires-clause-here
execute_step-requires-clause-here g c = begins_at c.args.given.now.code.now c.loop-insn.state.at c.loop-insn.invariant.1.is_at c.in-Begins.insn (sym c.in-Begins.ensures)

pub loop-insn-init : goal.loop-insn-init
loop-insn-init g c = (rw c.requires.planless tt, rw (c.requires.registers, c.requires.planless, c.requires.start) (starts g.S.Sink.Logs _ _ _ _))

pub loop-insn-preserved : goal.loop-insn-preserved
loop-insn-preserved g c = (
  c.in-Goes.ensures.inside,
  goes_on g.S.Sink.Logs _ _ _ _ _ c.loop-insn.state.at c.loop-insn.state.registers _ _ (g.S.Sink.log c.loop-insn.sink) c.loop-insn.invariant.1 _ _ _ _ _ c.in-Begins.insn (sym c.in-Begins.ensures) (search rules) c.in-Goes.ensures.result c.in-Goes.ensures.ahead,
)

pub returns-in-Inside-clause-run : goal.returns-in-Inside-clause-run
returns-in-Inside-clause-run g c = over_inside g.S.Sink.Logs _ _ _ _ _ c.loop-insn.state.at c.loop-insn.state.registers _ _ _ c.loop-insn.invariant.1 (sym c.in-Inside.ensures)

pub returns-in-Past-clause-run : goal.returns-in-Past-clause-run
returns-in-Past-clause-run g c =
    rw c.last.ensures.slot (over_past g.S.Sink.Logs _ _ _ _ _ c.loop-insn.state.at c.loop-insn.state.registers _ _ _ c.loop-insn.invariant.1 (sym c.in-Past.ensures))

pub returns-in-Exits-clause-run : goal.returns-in-Exits-clause-run
returns-in-Exits-clause-run g c =
    over_at_exit g.S.Sink.Logs _ _ _ _ _ c.loop-insn.state.at c.loop-insn.state.registers _ _ (g.S.Sink.log c.loop-insn.sink) c.loop-insn.invariant.1 c.execute_step.new.state.registers _ _ _ _ c.in-Begins.insn (sym c.in-Begins.ensures) (search rules) c.in-Exits.ensures.result c.in-Exits.ensures.kept c.in-Exits.ensures.planned

pub returns-in-Sticks-clause-run : goal.returns-in-Sticks-clause-run
returns-in-Sticks-clause-run g c =
    over_at_stuck g.S.Sink.Logs _ _ _ _ _ c.loop-insn.state.at c.loop-insn.state.registers _ _ (g.S.Sink.log c.loop-insn.sink) c.loop-insn.invariant.1 c.execute_step.new.state.registers _ _ _ _ c.in-Begins.insn (sym c.in-Begins.ensures) (search rules) c.in-Sticks.ensures.result c.in-Sticks.ensures.kept c.in-Sticks.ensures.planned
