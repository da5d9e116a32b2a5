use Rattle.verifier.specs.Slices.{work_left}
use Rattle.explaining.proofs.file.print_states_by.Given as goal

abbrev pub decreases-units : goal.decreases-units
decreases-units g l = work_left l.walk
