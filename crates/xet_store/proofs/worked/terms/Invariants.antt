use Rattle.std.proofs.Common.{◌≡◌, map, take}
use Rattle.xet_store.specs.Refusals.{stored_term}
use Rattle.xet_base.specs.Worked.{x1}
use Rattle.xet_store.proofs.worked.terms.Given as goal

abbrev pub invariant-loop-from : goal.invariant-loop-from
invariant-loop-from l = map stored_term l.terms ≡ map (λ r. record {
  xorb = x1;
  from = r.0;
  to = r.1;
}) (take l.from-index l.ranges)
