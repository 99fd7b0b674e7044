use Rattle.worked_data.proofs.entries.first_wrong.Given as goal

abbrev pub ghosts-first_wrong_with : goal.ghosts-first_wrong_with
ghosts-first_wrong_with a = record { name = a.blank.name; parts = a.blank.parts }
