use Rattle.std.proofs.Common.{◌≡◌, take}
use Rattle.std.specs.List.{concat}
use Rattle.xet_store.proofs.stored_xorb.joined_bytes.Given as goal

abbrev pub invariant-loop-chunk : goal.invariant-loop-chunk
invariant-loop-chunk l = l.joined.items ≡ concat (take l.chunk-index l.chunks)
