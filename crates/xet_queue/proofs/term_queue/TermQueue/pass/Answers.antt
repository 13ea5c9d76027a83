use Rattle.std.proofs.Common.{rules, ◌≡◌, None}
use Rattle.xet_queue.specs.steps.QueueSteps.{PassedFront}
use Rattle.xet_queue.proofs.Passing.{passed_all, passed_more}
use Rattle.xet_queue.proofs.term_queue.TermQueue.pass.Goals as goal

pub loop-rest-preserved : goal.loop-rest-preserved
loop-rest-preserved g c =
    passed_more c.args.self.now c.loop-rest.self c.pass_front.new.self c.loop-rest.left c.in-Some.rest c.args.count c.loop-rest.invariant (rw c.in-Some.is at c.pass_front.ensures)

pub returns : goal.returns
returns g c =
    let n : c.pass_front.result ≡ None = search rules in
    let h : PassedFront c.loop-rest.self c.pass_front.new.self c.loop-rest.left None = rw n at c.pass_front.ensures in
    rw h.0 (passed_all c.args.self.now c.loop-rest.self c.loop-rest.left c.args.count c.loop-rest.invariant h.1)
