use Rattle.std.proofs.Common.{ap}
use Rattle.std.proofs.Math.Seq.{map-set_same}
use Rattle.xet_progress_state.specs.declared.xorb.TrackedXorb.{TrackedXorb}
use Rattle.xet_progress_state.specs.steps.Keys.{key_of}
use Rattle.xet_progress_state.proofs.Remembering.{indexes_to}
use Rattle.xet_progress_state.proofs.xorb.Xorbs.register.Goals as goal

pub invariant_of-self : goal.invariant_of-self
invariant_of-self c = indexes_to c.self.invariant (map-set_same (λ (x : TrackedXorb). key_of x.hash) c.self.inside.list.items c.args.place _ c.index_mut.result.now (ap (λ (x : TrackedXorb). key_of x.hash) c.index_mut.ensures.value))
