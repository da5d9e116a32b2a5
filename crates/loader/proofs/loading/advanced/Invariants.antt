use Rattle.loader.proofs.loading.advanced.Given as goal

abbrev pub ghosts-advanced_by : goal.ghosts-advanced_by
ghosts-advanced_by a = record { name = a.blank.name; parts = a.blank.parts }
