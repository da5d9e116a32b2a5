use Rattle.loader.proofs.loaded.verified.Given as goal

abbrev pub ghosts-verified_by : goal.ghosts-verified_by
ghosts-verified_by a = record { name = a.blank.name; parts = a.blank.parts }
