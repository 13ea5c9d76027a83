use Rattle.xet_stream_blocks.proofs.Answered.{expire_done, expire_short, expire_spent, refresh_allowed, refresh_within}
use Rattle.xet_stream_blocks.proofs.fetching.expire.Goals as goal

pub returns-in-Err : goal.returns-in-Err
returns-in-Err g c = expire_short c.args.lane c.args.place c.args.tries c.args.multirange _ _ _ _ c.in-Err.error
    c.in-Err.ensures.recorded.memory c.in-Err.ensures.kept

pub returns-in-Err-count_at : goal.returns-in-Err-count_at
returns-in-Err-count_at g c = expire_spent c.args.lane c.args.place c.args.tries c.args.multirange _ _ _ _
    c.in-Ok.ensures.recorded.all _ c.in-Err-count_at.error c.in-Err-count_at.ensures

pub refresh_at-requires-clause-allowed : goal.refresh_at-requires-clause-allowed
refresh_at-requires-clause-allowed g c = refresh_allowed c.args.lane c.args.place c.args.tries c.args.multirange
    (g.C.Client.told c.args.client.now) c.args.core.now c.add_expired.new.core c.args.leader.now
    c.in-Ok.ensures.recorded.all c.requires.stale

pub refresh_at-requires-clause-within : goal.refresh_at-requires-clause-within
refresh_at-requires-clause-within g c = refresh_within c.args.lane c.args.place c.args.tries c.args.multirange
    (g.C.Client.told c.args.client.now) c.args.core.now c.add_expired.new.core c.args.leader.now
    c.in-Ok.ensures.recorded.all c.count_at.new.leader c.in-Ok-count_at.ensures c.requires.within

pub returns : goal.returns
returns g c = expire_done c.args.lane c.args.place c.args.tries c.args.multirange
    (g.C.Client.told c.args.client.now) c.args.core.now c.add_expired.new.core c.args.leader.now
    c.in-Ok.ensures.recorded.all c.count_at.new.leader c.in-Ok-count_at.ensures _ _ _ c.refresh_at.result
    c.refresh_at.ensures
