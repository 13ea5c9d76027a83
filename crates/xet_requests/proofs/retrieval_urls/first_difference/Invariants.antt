use Rattle.std.proofs.Common.{◌≡◌, map}
use Rattle.xet_requests.specs.Refreshes.{extent_of, first_difference}
use Rattle.xet_requests.proofs.Differences.{difference_from}
use Rattle.xet_requests.proofs.retrieval_urls.first_difference.Given as goal

abbrev pub invariant-loop-index : goal.invariant-loop-index
invariant-loop-index l = difference_from l.before l.now l.index ≡ first_difference (map extent_of l.before) (map extent_of l.now)
