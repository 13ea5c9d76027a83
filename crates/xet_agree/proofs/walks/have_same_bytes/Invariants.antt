use Rattle.std.proofs.Common.{◌+◌, ◌≤◌, length}
use Rattle.xet_agree.specs.steps.Alike.{bytes_in}
use Rattle.xet_agree.specs.steps.Walks.{PassSame, left_of, to_do}
use Rattle.xet_agree.proofs.walks.have_same_bytes.Given as goal

abbrev pub invariant-walks : goal.invariant-walks
invariant-walks l = record {
  same : PassSame (bytes_in l.s l.a) (left_of l.s l.a l.at_a) (bytes_in l.t l.b) (left_of l.t l.b l.at_b);
  first_within : l.at_a.begun ≤ length l.a;
  second_within : l.at_b.begun ≤ length l.b;
}

abbrev pub decreases-walks : goal.decreases-walks
decreases-walks l = to_do l.s l.a l.at_a + to_do l.t l.b l.at_b
