use Rattle.std.proofs.Common.{◌<◌, All, flat_map, take}
use Rattle.xet_compact.specs.steps.Writes.{Adds, chunk_tokens}
use Rattle.xet_compact.proofs.writing.write_chunks.Given as goal

abbrev pub invariant-loop-chunk : goal.invariant-loop-chunk
invariant-loop-chunk l = record {
  written : Adds l.initial.out l.out (flat_map chunk_tokens (take l.chunk-index l.chunks));
  told : All (λ c. All (λ b. b < 256) c) (take l.chunk-index l.chunks);
}
