use Rattle.rows_bpf.proofs.verdicts.verdict_over.Given as goal

abbrev pub ghosts-counted : goal.ghosts-counted
ghosts-counted g a = record { name = a.blank.name; parts = a.blank.parts }
