use Rattle.command_line.specs.Commands.{IsLocal}
use Rattle.command_line.proofs.with_arguments.Given as goal

abbrev pub invariant-loop-argument : goal.invariant-loop-argument
invariant-loop-argument l = IsLocal l.command
