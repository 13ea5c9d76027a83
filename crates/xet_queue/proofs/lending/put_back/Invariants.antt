use Rattle.std.proofs.Common.{◌≡◌, ◌≤◌, List, length}
use Rattle.std.specs.Vec.{vec_capacity}
use Rattle.std.specs.VecDeque.{deque_len}
use Rattle.xet_queue.specs.declared.queued_term.QueuedTerm.{QueuedTerm}
use Rattle.xet_queue.specs.steps.Lending.{Lends}
use Rattle.xet_queue.proofs.lending.put_back.Given as goal

abbrev pub invariant-loop-i : goal.invariant-loop-i
invariant-loop-i l =
    record {
      within : l.i ≤ length l.queue.items;
      back : (ts : List QueuedTerm) → Lends 0 l.end ts l.initial.queue.items l.initial.pieces.items → Lends 0 l.i ts l.queue.items l.pieces.items;
      len : deque_len l.queue ≡ deque_len l.initial.queue;
      capacity : vec_capacity l.pieces ≡ vec_capacity l.initial.pieces;
    }

abbrev pub decreases-loop-i : goal.decreases-loop-i
decreases-loop-i l = l.i
