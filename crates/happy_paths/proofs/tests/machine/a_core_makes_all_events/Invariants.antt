use Rattle.happy_paths.proofs.tests.machine.a_core_makes_all_events.Given as goal

abbrev pub ghosts-seen : goal.ghosts-seen
ghosts-seen g a = record { name = a.blank.name; parts = a.blank.parts }
