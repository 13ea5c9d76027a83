use Rattle.std.proofs.Common.{◌≡◌, take}
use Rattle.xet_base.specs.Digests.{infos_of}
use Rattle.xet_compact.proofs.kept_xorb.chunks_hash.Given as goal

abbrev pub invariant-loop-chunk : goal.invariant-loop-chunk
invariant-loop-chunk l = l.infos.items ≡ infos_of (take l.chunk-index l.chunks)
