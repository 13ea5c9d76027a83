use Rattle.xet_stream_blocks.proofs.LaneAsks.{own_step}
use Rattle.xet_stream_blocks.proofs.asking.ask_block.Goals as goal

pub returns-in-Ok-clause-did : goal.returns-in-Ok-clause-did
returns-in-Ok-clause-did g c = own_step c.args.wanted.now c.in-Ok.request _ _ c.block-answer.result c.step_of.result
    c.requires c.in-Ok.ensures c.block-answer.ensures c.step_of.ensures
