use Rattle.happy_paths.proofs.tests.printed_traces.a_trace_is_read_and_printed.Given as goal

abbrev pub ghosts-printed : goal.ghosts-printed
ghosts-printed g a = record { name = a.blank.name; parts = a.blank.parts }
