use Rattle.std.proofs.Common.{◌≡◌, ◌-◌, ◌^◌, min, take}
use Rattle.std.specs.List.{sum_by}
use Rattle.xet_shards.proofs.mem_shards.term_at.Given as goal

abbrev pub invariant-loop-chunk : goal.invariant-loop-chunk
invariant-loop-chunk l = l.bytes ≡ min (sum_by (λ c. c.length) (take l.chunk-index l.run)) (2 ^ 32 - 1)
