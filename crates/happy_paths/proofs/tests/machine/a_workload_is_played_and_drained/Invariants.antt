use Rattle.happy_paths.proofs.tests.machine.a_workload_is_played_and_drained.Given as goal

abbrev pub ghosts-played : goal.ghosts-played
ghosts-played g a = record { name = a.blank.name; parts = a.blank.parts }
