use Rattle.explaining.proofs.file.print_states.Given as goal

abbrev pub ghosts-print_states_by : goal.ghosts-print_states_by
ghosts-print_states_by g a = record { name = a.blank.name; parts = a.blank.parts }
