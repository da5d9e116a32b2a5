use Rattle.explaining.proofs.Lines.{more_text}
use Rattle.explaining.proofs.printing.print_busiest.Goals as goal

pub loop-preserved : goal.loop-preserved
loop-preserved g c = more_text _ _ _ _ c.loop.invariant c.in_ok-print_count.ensures
