use Rattle.std.proofs.Common.{rules, arith, inl, inr}
use Rattle.xet_leader.proofs.LackedBlocks.{lacked_end, lacked_next}
use Rattle.xet_leader.proofs.missing_blocks.all_lacked.Goals as goal
use Rattle.xet_leader.proofs.missing_blocks.all_lacked.Goals.{then-loop-at-test+else-left-gt0, else-loop-at-test}

pub loop-at-preserved : goal.loop-at-preserved
loop-at-preserved c =
    lacked_next c.args.plans.now.items c.loop-at.at c.loop-at.ahead c.loop-at.left c.saturating_sub-ahead.result
    c.saturating_sub-left.result c.index-plan.result.now c.loop-at.found c.add_lacked.new.found _
    (search rules) (search rules) (search rules) (search rules) (search rules) c.loop-at.invariant

pub returns : goal.returns
returns c =
    elim c.loop-at-test.branch [
      | then-loop-at-test+else-left-gt0 w ↦ lacked_end c.args.plans.now.items c.loop-at.at c.loop-at.ahead
          c.loop-at.left c.loop-at.found _ (inr (omega arith)) c.loop-at.invariant
      | else-loop-at-test w ↦ lacked_end c.args.plans.now.items c.loop-at.at c.loop-at.ahead c.loop-at.left
          c.loop-at.found _ (inl (search rules)) c.loop-at.invariant
    ]
