use Rattle.std.proofs.Common.{◌≡◌, ◌-◌, ◌≤◌, length}
use Rattle.std.specs.Vec.{vec_capacity, vec_len}
use Rattle.std.specs.VecDeque.{deque_len}
use Rattle.xet_queue.specs.steps.Lending.{Lends}
use Rattle.xet_queue.proofs.lending.lend.Given as goal

abbrev pub invariant-loop-end : goal.invariant-loop-end
invariant-loop-end l =
    record {
      lends : Lends 0 l.end l.initial.queue.items l.queue.items l.pieces.items;
      count : vec_len l.pieces ≤ l.end;
      len : deque_len l.queue ≡ deque_len l.initial.queue;
      capacity : vec_capacity l.pieces ≡ vec_capacity l.initial.pieces;
    }

abbrev pub decreases-loop-end : goal.decreases-loop-end
decreases-loop-end l = length l.queue.items - l.end
