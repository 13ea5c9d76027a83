use Rattle.std.proofs.Common.{◌≡◌, ◌+◌, ◌≤◌, ◌++◌, length, take}
use Rattle.std.specs.VecDeque.{deque_len, deque_capacity}
use Rattle.xet_events.specs.Indexes.{waiting_in}
use Rattle.xet_events.proofs.index.queue_terms.Given as goal

abbrev pub invariant-loop-at : goal.invariant-loop-at
invariant-loop-at g l = record {
  queued : l.waiting.items ≡ l.initial.waiting.items ++ waiting_in l.plan (take l.at (g.S.PlanSource.terms l.source));
  room : deque_len l.waiting + length (g.S.PlanSource.terms l.source) ≤ deque_capacity l.waiting + l.at;
}
