use Rattle.xet_lanes_tests.proofs.history.kept_run.Given as goal

abbrev pub ghosts-kept_calls : goal.ghosts-kept_calls
ghosts-kept_calls g a = record { name = a.blank.name; parts = a.blank.parts }
