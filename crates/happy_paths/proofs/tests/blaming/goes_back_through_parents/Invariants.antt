use Rattle.happy_paths.proofs.tests.blaming.goes_back_through_parents.Given as goal

abbrev pub ghosts-look_back : goal.ghosts-look_back
ghosts-look_back g a = record { name = a.blank.name; parts = a.blank.parts }
