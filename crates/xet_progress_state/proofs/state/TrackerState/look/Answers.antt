use Rattle.std.proofs.Common.{refl}
use Rattle.xet_progress_state.proofs.NewFile.{kept_to}
use Rattle.xet_progress_state.proofs.state.TrackerState.look.Goals as goal

pub invariant_of-self : goal.invariant_of-self
invariant_of-self c = record { kept = kept_to c.self.invariant.kept refl refl c.remember.ensures refl refl refl; names = c.self.invariant.names; marked = c.self.invariant.marked }
