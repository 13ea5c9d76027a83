use Rattle.std.proofs.Common.{◌≡◌, ◌≤◌, ◌+◌, ◌-◌, ◌++◌, drop, length, zip}
use Rattle.std.specs.Prelude.{vec_len, vec_capacity}
use Rattle.std.specs.List.{range_with_len}
use Rattle.xet_offers.proofs.reconstruction_terms.xorb_block.push_chunks.Given as goal

abbrev pub invariant-loop-index : goal.invariant-loop-index
invariant-loop-index l =
    (vec_len l.pairs + (length l.used - l.index) ≤ vec_capacity l.pairs)
    × (l.pairs.items ++ zip (range_with_len (l.range.start + l.index) (l.range.end - l.range.start - l.index)) (drop l.index l.offsets)
    ≡ l.fn.pairs.items ++ zip (range_with_len l.range.start (l.range.end - l.range.start)) l.offsets)
