use Rattle.std.proofs.Common.{ℕ, ◌-◌, ◌<◌, ◌≤◌, take}
use Rattle.std.specs.Prelude.{sum}
use Rattle.xet_outside.specs.Plan.{lengths}
use Rattle.xet_store.proofs.mem_cut.first_past.Given as goal

abbrev pub invariant-loop-low : goal.invariant-loop-low
invariant-loop-low l = record {
  low : l.from ≤ l.low;
  ordered : l.low ≤ l.high;
  high : l.high ≤ l.to;
  before : (k : ℕ) → l.from ≤ k → k < l.low → sum (take k (lengths l.xorb.chunks)) ≤ l.place;
  past : l.high < l.to → l.place < sum (take l.high (lengths l.xorb.chunks));
}

abbrev pub decreases-loop-low : goal.decreases-loop-low
decreases-loop-low l = l.high - l.low
