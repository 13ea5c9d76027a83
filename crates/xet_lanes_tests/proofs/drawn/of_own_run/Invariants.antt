use Rattle.xet_lanes_tests.proofs.drawn.of_own_run.Given as goal

abbrev pub ghosts-of_a_run : goal.ghosts-of_a_run
ghosts-of_a_run g a = record { name = a.blank.name; parts = a.blank.parts }
