use Rattle.std.proofs.Common.{◌≡◌, map, filter}
use Rattle.xet_compact.specs.steps.Kept.{keeps_some, xorb_of_kept}
use Rattle.xet_compact.proofs.kept_store.named_xorbs.Given as goal

abbrev pub invariant-loop-one : goal.invariant-loop-one
invariant-loop-one l = l.xorbs.items ≡ map xorb_of_kept (filter keeps_some l.yielded)
