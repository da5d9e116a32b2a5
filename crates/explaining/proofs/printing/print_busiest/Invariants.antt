use Rattle.explaining.specs.Lines.{AppendsText}
use Rattle.explaining.proofs.printing.print_busiest.Given as goal

abbrev pub invariant-loop : goal.invariant-loop
invariant-loop g l = AppendsText (g.W.Write.contents l.initial.out) (g.W.Write.contents l.out)
