use Rattle.split_top.proofs.answer.answer.Given as goal

abbrev pub ghosts-replay : goal.ghosts-replay
ghosts-replay g a = record { name = a.blank.name; parts = a.blank.parts }
