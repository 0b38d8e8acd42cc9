use Rattle.happy_paths.proofs.tests.machine.files_are_made_and_dropped.Given as goal

abbrev pub ghosts-played_with_files : goal.ghosts-played_with_files
ghosts-played_with_files g a = record { name = a.blank.name; parts = a.blank.parts }
