use Rattle.std.proofs.Common.{◌≡◌, false, map}
use Rattle.std.specs.BinaryHeap.{IsHeap, heap_items, heap_len}
use Rattle.std.specs.Ordering.{nat_cmp}
use Rattle.std.specs.Cmp.Lexicographic.{slice_cmp}
use Rattle.xet_base.specs.declared.merklehash.MerkleHash.{MerkleHash}
use Rattle.xet_progress_state.specs.steps.Open.{done_in, has}
use Rattle.xet_progress_state.proofs.name.Names.least_open.Given as goal

abbrev pub invariant-loop-top : goal.invariant-loop-top
invariant-loop-top l = record {
  ordered : IsHeap (λ x y. slice_cmp nat_cmp y.0.0 x.0.0) (heap_items l.self-inside.heap);
  kept : (h : MerkleHash) → done_in l.xorbs h ≡ false → has (map (λ x. x.0) (heap_items l.self-inside.heap)) h ≡ has (map (λ x. x.0) (heap_items l.initial.self-inside.heap)) h;
}

abbrev pub decreases-loop-top : goal.decreases-loop-top
decreases-loop-top l = heap_len l.self-inside.heap
