use Rattle.happy_paths.proofs.tests.histories.keeps_events_in_order.Given as goal

abbrev pub ghosts-two_events : goal.ghosts-two_events
ghosts-two_events g a = record { name = a.blank.name; parts = a.blank.parts }
