use Rattle.worked_data.proofs.entries.of_a_thousand.Given as goal

abbrev pub ghosts-of_a_thousand_with : goal.ghosts-of_a_thousand_with
ghosts-of_a_thousand_with a = record { name = a.blank.name; parts = a.blank.parts }
