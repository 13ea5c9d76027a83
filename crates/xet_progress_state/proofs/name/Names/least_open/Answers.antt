use Rattle.std.proofs.Common.{sym, ◌∙◌}
use Rattle.std.specs.BinaryHeap.{IsHeap, IsUpperBound, heap_items}
use Rattle.std.specs.Ordering.{nat_cmp}
use Rattle.std.specs.Cmp.Lexicographic.{slice_cmp}
use Rattle.std.specs.declared.cmp.Reverse.{Reverse}
use Rattle.xet_base.specs.declared.merklehash.MerkleHash.{MerkleHash}
use Rattle.xet_progress_state.specs.steps.Open.{done_in}
use Rattle.xet_progress_state.proofs.Unfinished.{has_top, has_dropped, not_before, order_dropped}
use Rattle.xet_progress_state.proofs.name.Names.least_open.Goals as goal

pub returns-then-not-is_done-clause-some : goal.returns-then-not-is_done-clause-some
returns-then-not-is_done-clause-some c =
    let xs = heap_items c.loop-top.self-inside.heap in
    let top = c.in-Some.top.now in (
      sym c.is_done.ensures ∙ c.if-not-is_done.true,
      has_top (λ (x : Reverse MerkleHash). x.0) top xs c.in-Some.ensures.lookup c.in-Some.ensures.item.3.0,
      not_before (λ (x : Reverse MerkleHash). x.0) top.0 xs (c.in-Some.ensures.greatest c.loop-top.invariant.ordered),
    )

pub loop-top-preserved : goal.loop-top-preserved
loop-top-preserved c =
    let xs = heap_items c.loop-top.self-inside.heap in
    let top = c.in-Some.top.now in
    record {
      ordered = order_dropped _ (IsHeap (λ (x y : Reverse MerkleHash). slice_cmp nat_cmp y.0.0 x.0.0)) (λ x. IsUpperBound (λ (x y : Reverse MerkleHash). slice_cmp nat_cmp y.0.0 x.0.0) x xs) c.pop.result xs (heap_items c.pop.new.self)
          c.pop.ensures.heap_order c.pop.ensures.unchanged c.loop-top.invariant.ordered;
      kept = λ h w. has_dropped _ (λ (x : Reverse MerkleHash). x.0) (done_in c.args.xorbs.now) top c.pop.result xs (heap_items c.pop.new.self)
          (sym c.is_done.ensures ∙ c.if-not-is_done.false) c.in-Some.ensures.lookup c.pop.ensures.top c.pop.ensures.permutation c.pop.ensures.unchanged c.in-Some.ensures.item.3.0 h w ∙ c.loop-top.invariant.kept h w;
    }
