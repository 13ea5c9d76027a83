use Rattle.std.proofs.Common.{◌≡◌, ◌++◌, ◌+◌, ◌-◌, ◌≤◌, drop, take}
use Rattle.std.specs.VecDeque.{deque_capacity, deque_len}
use Rattle.xet_queue.specs.Queues.{admissions}
use Rattle.xet_queue.proofs.leaving.let_go.Given as goal

abbrev pub invariant-loop-gone : goal.invariant-loop-gone
invariant-loop-gone l =
    record {
      within : l.gone ≤ l.fn.count;
      queue : l.queue.items ≡ drop l.gone l.fn.queue.items;
      released : l.released.items ≡ l.fn.released.items ++ admissions (take l.gone l.fn.queue.items);
      room : deque_len l.released + deque_len l.queue ≤ deque_capacity l.released;
    }

abbrev pub decreases-loop-gone : goal.decreases-loop-gone
decreases-loop-gone l = l.fn.count - l.gone
