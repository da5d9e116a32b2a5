-- The lines so far are those of the states before the last one that was looked at.
use Rattle.std.proofs.Common.{◌-◌, take}
use Rattle.explaining.specs.Lines.{AppendsLines, steps_of}
use Rattle.explaining.proofs.printing.print_steps.Given as goal

abbrev pub invariant-loop-i : goal.invariant-loop-i
invariant-loop-i g l = AppendsLines (steps_of l.program (take (l.i - 1) l.path)) (g.W.Write.contents l.initial.out) (g.W.Write.contents l.out)
