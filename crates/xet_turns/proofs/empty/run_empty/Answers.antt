use Rattle.xet_turns.proofs.RunStarts.{empty_runs}
use Rattle.xet_turns.proofs.empty.run_empty.Goals as goal

pub returns-clause-runs : goal.returns-clause-runs
returns-clause-runs g c = empty_runs _ _ _ _ _ c.requires c.flush_and_answer.ensures
