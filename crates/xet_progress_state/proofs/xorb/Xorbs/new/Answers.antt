use Rattle.std.proofs.Common.{List, ap, map}
use Rattle.xet_progress_state.specs.declared.xorb.TrackedXorb.{TrackedXorb}
use Rattle.xet_progress_state.specs.steps.Keys.{key_of}
use Rattle.xet_progress_state.proofs.Remembering.{indexes_to}
use Rattle.xet_progress_state.proofs.xorb.Xorbs.new.Goals as goal

pub invariant_of-result : goal.invariant_of-result
invariant_of-result c = indexes_to c.new-2.ensures (ap (λ (l : List TrackedXorb). map (λ (x : TrackedXorb). key_of x.hash) l) c.new.ensures.items)
