use Rattle.std.proofs.Common.{◌∙◌}
use Rattle.xet_leader.proofs.AskSteps.{tries_all, tries_more}
use Rattle.xet_leader.proofs.asking.no_tries.Goals as goal

pub loop-block-init : goal.loop-block-init
loop-block-init c = c.into_inner-tries.ensures ∙ c.with_hint.ensures

pub loop-block-preserved : goal.loop-block-preserved
loop-block-preserved c = tries_more c.args.blocks.now c.loop-block._block-index c.loop-block.tries.items
    c.push.new.self.items c.loop-block-test.true c.loop-block.invariant c.in_ok-push.ensures.items

pub returns : goal.returns
returns c = tries_all c.args.blocks.now c.loop-block._block-index c.loop-block.tries.items c.loop-block-test.false
    c.loop-block.invariant
