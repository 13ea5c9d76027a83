use Rattle.std.proofs.Common.{length}
use Rattle.xet_queue.proofs.Passing.{PassedSo}
use Rattle.xet_queue.proofs.term_queue.TermQueue.pass.Given as goal

abbrev pub invariant-loop-rest : goal.invariant-loop-rest
invariant-loop-rest g l = PassedSo l.initial.self l.self l.left l.fn.count

abbrev pub decreases-loop-rest : goal.decreases-loop-rest
decreases-loop-rest g l = length l.self.queue
