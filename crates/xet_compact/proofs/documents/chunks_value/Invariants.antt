use Rattle.std.proofs.Common.{◌≡◌, ◌<◌, All, map, take}
use Rattle.serde_json.specs.View.{view}
use Rattle.xet_compact.specs.Documents.{digits}
use Rattle.xet_compact.proofs.documents.chunks_value.Given as goal

abbrev pub invariant-loop-chunk : goal.invariant-loop-chunk
invariant-loop-chunk l = record {
  values : map view l.items.items ≡ map digits (take l.chunk-index l.chunks);
  told : All (λ c. All (λ b. b < 256) c) (take l.chunk-index l.chunks);
}
