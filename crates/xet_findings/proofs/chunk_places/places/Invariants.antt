use Rattle.std.proofs.Common.{◌≡◌, ◌+◌, map}
use Rattle.std.specs.List.{range_with_len}
use Rattle.xet_findings.proofs.Sizes.{place}
use Rattle.xet_findings.proofs.chunk_places.places.Given as goal

abbrev pub invariant-loop-chunk : goal.invariant-loop-chunk
invariant-loop-chunk l = record {
  end : l.end ≡ place l.chunks l.chunk-index;
  places : l.places ≡ map (place l.chunks) (range_with_len 0 (l.chunk-index + 1));
}
