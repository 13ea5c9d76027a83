use Rattle.xet_gaps.proofs.GapBytes.{less_exact, parts_exact}
use Rattle.xet_gaps.proofs.GapCounts.{parts_counted}
use Rattle.xet_gaps.proofs.GapLists.{less_gaps, same_gaps}
use Rattle.xet_gaps.proofs.laws.gaps_are_their_bytes.Goals as goal

pub returns : goal.returns
returns c = record {
  exact = less_exact;
  gaps = less_gaps;
  parts = parts_exact;
  counted = parts_counted;
  same = same_gaps;
}
