use Rattle.xet_serve_lines.proofs.Ranges.{RangesSoFar}
use Rattle.xet_serve_lines.proofs.requests.read_ranges.Given as goal

abbrev pub invariant-loop-number : goal.invariant-loop-number
invariant-loop-number l = RangesSoFar l.text l.rest l._number l.ranges.items
