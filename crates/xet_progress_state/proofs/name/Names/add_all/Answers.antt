use Rattle.std.proofs.Common.{rules, ◌≡◌, ◌+◌, false, arith}
use Rattle.std.specs.Prelude.{is_err}
use Rattle.std.specs.BinaryHeap.{IsHeap, heap_len}
use Rattle.std.specs.Ordering.{nat_cmp}
use Rattle.std.specs.Cmp.Lexicographic.{slice_cmp}
use Rattle.std.specs.declared.cmp.Reverse.{Reverse}
use Rattle.xet_base.specs.declared.merklehash.MerkleHash.{MerkleHash}
use Rattle.xet_progress_state.proofs.Named.{names_skip, names_push}
use Rattle.xet_progress_state.proofs.Unfinished.{has_added, order_added}
use Rattle.xet_progress_state.proofs.name.Names.add_all.Goals as goal

pub loop-dependency-preserved-then-dependency : goal.loop-dependency-preserved-then-dependency
loop-dependency-preserved-then-dependency c =
    let l = c.loop-dependency in
    let room = l.invariant.room in
    record {
      ordered = l.invariant.ordered;
      names = names_skip _ _ c.args.dependencies.now l.dependency-index _ c.loop-dependency-test.true c.if-dependency.true l.invariant.names;
      room = omega (arith, room);
    }

pub loop-dependency-preserved : goal.loop-dependency-preserved
loop-dependency-preserved c =
    let l = c.loop-dependency in
    let room = l.invariant.room in
    let len : heap_len c.push.new.self ≡ heap_len l.self-inside.heap + 1 = search rules in
    let more = c.push.ensures.capacity in
    let fine : is_err c.push.result ≡ false = search rules in
    record {
      ordered = order_added (IsHeap (λ (x y : Reverse MerkleHash). slice_cmp nat_cmp y.0.0 x.0.0)) _ _ c.push.result fine c.push.ensures.heap_order l.invariant.ordered;
      names = names_push _ _ _ c.args.dependencies.now l.dependency-index _ c.loop-dependency-test.true c.if-dependency.false l.invariant.names
          (has_added (λ (x : Reverse MerkleHash). x.0) _ _ _ c.push.result fine c.push.ensures.permutation);
      room = omega (arith, room, len, more);
    }
