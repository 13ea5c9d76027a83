use Rattle.xet_lanes_tests.proofs.rounds.own_join.Given as goal

abbrev pub ghosts-join : goal.ghosts-join
ghosts-join g a = record { name = a.blank.name; parts = a.blank.parts }
