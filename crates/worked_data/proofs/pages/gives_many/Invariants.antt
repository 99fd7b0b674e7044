use Rattle.worked_data.proofs.pages.gives_many.Given as goal

abbrev pub ghosts-gives_many_with : goal.ghosts-gives_many_with
ghosts-gives_many_with a = record { name = a.blank.name; parts = a.blank.parts }
