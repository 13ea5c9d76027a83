use Rattle.std.proofs.Common.{ap, map, refl}
use Rattle.xet_leader.specs.Led.{Led, setup_of_job}
use Rattle.xet_stream_rules.specs.StepTold.{IsTurn}
use Rattle.xet_stream_blocks.proofs.Calls.{can, expired_may, failed, fetched_may, late_done, late_fail, served_done, served_fail, told_turn, unasked_fails, within}
use Rattle.xet_stream_blocks.proofs.Expiring.{refresh_may}
use Rattle.xet_stream_blocks.proofs.providing.fetch.Goals as goal

pub fetch_at-wanted-requires : goal.fetch_at-wanted-requires
fetch_at-wanted-requires g c = can (setup_of_job c.args.job) c.args.core.now c.args.leader.now c.requires.carries
    c.args.place c.requires.missing

pub keep-requires : goal.keep-requires
keep-requires g c = fetched_may (setup_of_job c.args.job) c.args.core.now c.args.leader.now c.requires.carries
    c.args.place c.requires.missing c.lane_of-lane.result

pub expire_first-requires-clause-allowed : goal.expire_first-requires-clause-allowed
expire_first-requires-clause-allowed g c = expired_may (setup_of_job c.args.job) c.args.core.now c.args.leader.now
    c.requires.carries c.args.place c.requires.missing c.lane_of-lane.result

pub expire_first-requires-clause-stale : goal.expire_first-requires-clause-stale
expire_first-requires-clause-stale g c = refresh_may c.args.core.now _ c.args.place.plan c.args.place.block
    c.requires.carries.led.running

pub returns-in-Err-clause-fails : goal.returns-in-Err-clause-fails
returns-in-Err-clause-fails g c = unasked_fails g.C.Client.told (setup_of_job c.args.job) _ _ _ _ _ c.from.result
    c.from.ensures c.in-Err.ensures.unasked

pub returns-in-Served-clause-fetches : goal.returns-in-Served-clause-fetches
returns-in-Served-clause-fetches g c = served_done (setup_of_job c.args.job) c.args.core.now c.args.leader.now
    c.requires.carries (map g.C.Client.told c.args.clients.now) (map g.C.Client.told c.ask_lane.new.clients) c.args.place
    c.requires.missing c.fetch_at-wanted.result c.args.leader.now.fetches c.fetch_at-wanted.ensures.made
    c.lane_of-lane.result
    (told_turn g.C.Client.told c.args.clients.now c.args.leader.now.fetches _ _ c.lane_of-lane.result
    (ap (λ (l : Led). l.fetches) c.leader.view_is) refl c.lane_of-lane.ensures)
    c.in-Ok.step c.in-Ok.ensures.asked
    (g.K.ChunkCache.told c.args.cache.now) (g.K.ChunkCache.told c.keep.new.cache) c.keep.new.core
    c.count_fetches.new.leader c.keep.new.leader c.count_fetches.ensures _ _ c.in-Served.found c.in-Served.is
    c.keep.result c.keep.ensures

pub returns-in-Served-clause-fails : goal.returns-in-Served-clause-fails
returns-in-Served-clause-fails g c = served_fail (setup_of_job c.args.job) c.args.core.now c.args.leader.now
    c.requires.carries (map g.C.Client.told c.args.clients.now) (map g.C.Client.told c.ask_lane.new.clients) c.args.place
    c.requires.missing c.fetch_at-wanted.result c.args.leader.now.fetches c.fetch_at-wanted.ensures.made
    c.lane_of-lane.result
    (told_turn g.C.Client.told c.args.clients.now c.args.leader.now.fetches _ _ c.lane_of-lane.result
    (ap (λ (l : Led). l.fetches) c.leader.view_is) refl c.lane_of-lane.ensures)
    c.in-Ok.step c.in-Ok.ensures.asked
    (g.K.ChunkCache.told c.args.cache.now) (g.K.ChunkCache.told c.keep.new.cache) c.keep.new.core
    c.count_fetches.new.leader c.keep.new.leader c.count_fetches.ensures _ _ c.in-Served.found c.in-Served.is
    c.keep.result c.keep.ensures

pub returns-in-Expired-clause-fetches : goal.returns-in-Expired-clause-fetches
returns-in-Expired-clause-fetches g c = late_done (setup_of_job c.args.job) c.args.core.now c.args.leader.now
    c.requires.carries (map g.C.Client.told c.args.clients.now) (map g.C.Client.told c.ask_lane.new.clients) c.args.place
    c.requires.missing c.fetch_at-wanted.result c.args.leader.now.fetches c.fetch_at-wanted.ensures.made
    c.lane_of-lane.result
    (told_turn g.C.Client.told c.args.clients.now c.args.leader.now.fetches _ _ c.lane_of-lane.result
    (ap (λ (l : Led). l.fetches) c.leader.view_is) refl c.lane_of-lane.ensures)
    c.in-Ok.step c.in-Ok.ensures.asked
    (g.K.ChunkCache.told c.args.cache.now) (g.K.ChunkCache.told c.args.cache.now) c.expire_first.new.core
    c.count_fetches.new.leader c.expire_first.new.leader c.count_fetches.ensures _ _ c.in-Expired.is
    (map g.C.Client.told c.expire_first.new.clients) c.expire_first.result c.expire_first.ensures

pub returns-in-Expired-clause-fails : goal.returns-in-Expired-clause-fails
returns-in-Expired-clause-fails g c = late_fail (setup_of_job c.args.job) c.args.core.now c.args.leader.now
    c.requires.carries (map g.C.Client.told c.args.clients.now) (map g.C.Client.told c.ask_lane.new.clients) c.args.place
    c.requires.missing c.fetch_at-wanted.result c.args.leader.now.fetches c.fetch_at-wanted.ensures.made
    c.lane_of-lane.result
    (told_turn g.C.Client.told c.args.clients.now c.args.leader.now.fetches _ _ c.lane_of-lane.result
    (ap (λ (l : Led). l.fetches) c.leader.view_is) refl c.lane_of-lane.ensures)
    c.in-Ok.step c.in-Ok.ensures.asked
    (g.K.ChunkCache.told c.args.cache.now) (g.K.ChunkCache.told c.args.cache.now) c.expire_first.new.core
    c.count_fetches.new.leader c.expire_first.new.leader c.count_fetches.ensures _ _ c.in-Expired.is
    (map g.C.Client.told c.expire_first.new.clients) c.expire_first.result c.expire_first.ensures

pub returns-in-Failed-clause-fails : goal.returns-in-Failed-clause-fails
returns-in-Failed-clause-fails g c = failed (setup_of_job c.args.job) c.args.core.now c.args.leader.now
    c.requires.carries (map g.C.Client.told c.args.clients.now) (map g.C.Client.told c.ask_lane.new.clients) c.args.place
    c.requires.missing c.fetch_at-wanted.result c.args.leader.now.fetches c.fetch_at-wanted.ensures.made
    c.lane_of-lane.result
    (told_turn g.C.Client.told c.args.clients.now c.args.leader.now.fetches _ _ c.lane_of-lane.result
    (ap (λ (l : Led). l.fetches) c.leader.view_is) refl c.lane_of-lane.ensures)
    c.in-Ok.step c.in-Ok.ensures.asked
    c.in-Failed.error c.in-Failed.is (g.K.ChunkCache.told c.args.cache.now) c.count_fetches.new.leader
    (ap (λ (l : Led). l.plans) c.count_fetches.ensures)
