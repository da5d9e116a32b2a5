use Rattle.explaining.proofs.file.searched.Given as goal

abbrev pub ghosts-searched_by : goal.ghosts-searched_by
ghosts-searched_by a = record { name = a.blank.name; parts = a.blank.parts }
