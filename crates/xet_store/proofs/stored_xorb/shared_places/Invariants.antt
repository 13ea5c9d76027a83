use Rattle.std.proofs.Common.{◌≡◌, ◌∷◌, length, take}
use Rattle.std.specs.List.{concat}
use Rattle.xet_store.specs.steps.Joined.{ends_of}
use Rattle.xet_outside.specs.Plan.{lengths}
use Rattle.xet_store.proofs.stored_xorb.shared_places.Given as goal

abbrev pub invariant-loop-chunk : goal.invariant-loop-chunk
invariant-loop-chunk l = record {
  end : l.end ≡ length (concat (take l.chunk-index l.chunks));
  places : l.places.items ≡ 0 ∷ ends_of 0 (lengths (take l.chunk-index l.chunks));
}
