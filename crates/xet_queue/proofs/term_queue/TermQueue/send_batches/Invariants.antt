use Rattle.std.proofs.Common.{◌≡◌, [], length}
use Rattle.std.specs.Vec.{vec_capacity}
use Rattle.xet_queue.proofs.Sending.{SentSo}
use Rattle.xet_queue.proofs.term_queue.TermQueue.send_batches.Given as goal

abbrev pub invariant-loop-self : goal.invariant-loop-self
invariant-loop-self g l =
    record {
      sent : SentSo g.S.Sink.told l.fn.self l.self l.count;
      pieces : l.pieces.items ≡ [];
      capacity : vec_capacity l.pieces ≡ vec_capacity l.fn.pieces;
    }

abbrev pub decreases-loop-self : goal.decreases-loop-self
decreases-loop-self g l = length l.self.queue
