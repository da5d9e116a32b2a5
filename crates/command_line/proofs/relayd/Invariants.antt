use Rattle.command_line.specs.Commands.{RequiresSubcommand}
use Rattle.command_line.proofs.relayd.Given as goal

abbrev pub invariant-loop-words : goal.invariant-loop-words
invariant-loop-words l = RequiresSubcommand l.command
