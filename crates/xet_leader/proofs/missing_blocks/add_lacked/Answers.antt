use Rattle.xet_leader.proofs.LackedBlocks.{lacked_more}
use Rattle.xet_leader.proofs.missing_blocks.add_lacked.Goals as goal

pub loop-term-preserved : goal.loop-term-preserved
loop-term-preserved c =
    lacked_more c.args.plan.now c.args.found.now c.loop-term.found c.add_term.new.found _
    c.loop-term.term-index _ c.loop-term-test.true c.loop-term.invariant c.in_ok-add_term.ensures
