use Rattle.xet_upload_tests.proofs.tracker.of_own_tracker.Given as goal

abbrev pub ghosts-tracked : goal.ghosts-tracked
ghosts-tracked g a = record { name = a.blank.name; parts = a.blank.parts }
