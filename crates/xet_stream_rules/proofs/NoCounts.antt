-- No event is of any kind.
use Rattle.std.proofs.Common.{[], refl}
use Rattle.xet_stream_rules.specs.Counts.{Counts}

pub no_counts : Counts [] 0 0 0 0 0
no_counts = record {
  plans_are = refl;
  cached_are = refl;
  fetched_are = refl;
  late_are = refl;
  refreshes_are = refl;
  pieces_are = refl;
  running_is = refl;
}
