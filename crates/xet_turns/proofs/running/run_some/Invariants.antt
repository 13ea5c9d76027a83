use Rattle.xet_turns.proofs.running.run_some.Given as goal

abbrev pub ghosts-run_lent : goal.ghosts-run_lent
ghosts-run_lent g a = record { name = a.blank.name; parts = a.blank.parts }
