use Rattle.xet_ties.proofs.Moves.{tie_window}
use Rattle.xet_ties.proofs.RoundShorts.{written_short}
use Rattle.xet_ties.proofs.Starts.{admits_asked, admits_one}
use Rattle.xet_ties.proofs.WindowTies.{tie_written}
use Rattle.std.proofs.Common.{refl}
use Rattle.xet_ties.proofs.laws.writes_are_tied.Goals as goal

pub returns : goal.returns
returns c = record {
  admit = λ m n k es fs l a call. (admits_one m n k es fs _ l a call refl, admits_asked m n k es fs fs l a call refl);
  take = tie_window;
  write = tie_written;
  short = written_short;
}
