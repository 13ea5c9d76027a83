use Rattle.xet_stream_blocks.proofs.Answered.{keep_done, keep_short}
use Rattle.xet_stream_blocks.proofs.fetching.keep.Goals as goal

pub returns-in-Err : goal.returns-in-Err
returns-in-Err g c = keep_short c.args.lane c.args.place c.args.found _ _ _ _ c.in-Err.error
    c.in-Err.ensures.recorded.memory c.in-Err.ensures.kept

pub returns : goal.returns
returns g c = keep_done c.args.lane c.args.place c.args.found _ _ _ _ _ _ _ c.in-Ok.ensures.recorded.all
    c.keep_at.ensures c.offer_at.ensures
