use Rattle.std.proofs.Common.{◌+◌, ◌≤◌, map, take, length}
use Rattle.std.specs.BinaryHeap.{IsHeap, heap_capacity, heap_items, heap_len}
use Rattle.std.specs.Ordering.{nat_cmp}
use Rattle.std.specs.Cmp.Lexicographic.{slice_cmp}
use Rattle.xet_progress_state.specs.steps.Open.{WithNames}
use Rattle.xet_progress_state.proofs.name.Names.add_all.Given as goal

abbrev pub invariant-loop-dependency : goal.invariant-loop-dependency
invariant-loop-dependency l = record {
  ordered : IsHeap (λ x y. slice_cmp nat_cmp y.0.0 x.0.0) (heap_items l.self-inside.heap);
  names : WithNames (map (λ x. x.0) (heap_items l.initial.self-inside.heap)) (take l.dependency-index l.dependencies) (map (λ x. x.0) (heap_items l.self-inside.heap));
  room : heap_len l.self-inside.heap + length l.dependencies ≤ heap_capacity l.self-inside.heap + l.dependency-index;
}
