use Rattle.std.proofs.Common.{◌≡◌, ◌-◌, ◌^◌, map, take}
use Rattle.std.specs.Prelude.{min}
use Rattle.std.specs.List.{sum}
use Rattle.xet_fetch.proofs.transfer_report.transfer_bytes.Given as goal

abbrev pub invariant-loop-range : goal.invariant-loop-range
invariant-loop-range l = l.bytes ≡ min (sum (map (λ r. r.end - r.start) (take l.range-index l.ranges))) (2 ^ 64 - 1)
