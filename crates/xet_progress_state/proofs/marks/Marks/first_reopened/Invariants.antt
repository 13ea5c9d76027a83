use Rattle.std.proofs.Common.{length}
use Rattle.xet_progress_state.specs.steps.Open.{Marked}
use Rattle.xet_progress_state.proofs.marks.Marks.first_reopened.Given as goal

abbrev pub invariant-loop-id : goal.invariant-loop-id
invariant-loop-id l = Marked l.files l.self

abbrev pub decreases-loop-id : goal.decreases-loop-id
decreases-loop-id l = length l.self.reopened.keys
