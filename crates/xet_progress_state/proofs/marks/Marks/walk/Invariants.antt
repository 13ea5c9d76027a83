use Rattle.std.proofs.Common.{◌≡◌, ◌-◌, [], length}
use Rattle.xet_progress_state.specs.steps.Open.{Marked}
use Rattle.xet_progress_state.proofs.marks.Marks.walk.Given as goal

abbrev pub invariant-loop-self : goal.invariant-loop-self
invariant-loop-self l = record {
  marked : Marked l.files l.self;
  none : l.self.reopened.keys ≡ [];
}

abbrev pub decreases-loop-self : goal.decreases-loop-self
decreases-loop-self l = length l.files - l.self.mark
