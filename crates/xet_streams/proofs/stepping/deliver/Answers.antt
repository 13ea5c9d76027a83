use Rattle.std.specs.Prelude.{map}
use Rattle.xet_leader.specs.Led.{setup_of_job}
use Rattle.xet_stream_rules.specs.Moments.{at}
use Rattle.xet_streams.proofs.Delivered.{carries_now, open_next, placed_at, some_left}
use Rattle.xet_streams.proofs.Steps.{delivered_by, place_missing}
use Rattle.xet_streams.proofs.stepping.deliver.Goals as goal

pub place_of-place-requires : goal.place_of-place-requires
place_of-place-requires g c = c.requires.next.next

pub provide-requires-clause-missing : goal.provide-requires-clause-missing
provide-requires-clause-missing g c = place_missing (setup_of_job c.args.job) c.args.core.now c.args.leader.now
    c.requires.carries c.args.next c.requires.next c.place_of-place.result c.place_of-place.ensures

pub returns-in-Err-clause-delivered : goal.returns-in-Err-clause-delivered
returns-in-Err-clause-delivered g c = record { ok = tt; err = c.in-Err.ensures.fails }

pub hand_over-requires-clause-carries : goal.hand_over-requires-clause-carries
hand_over-requires-clause-carries g c = (
  setup_of_job c.args.job,
  carries_now (setup_of_job c.args.job)
      (at c.args.core.now c.args.leader.now (map g.C.Client.told c.args.clients.now)
      (g.K.ChunkCache.told c.args.cache.now))
      (at c.provide.new.core c.provide.new.leader (map g.C.Client.told c.provide.new.clients)
      (g.K.ChunkCache.told c.provide.new.cache)) c.requires.carries c.args.next c.requires.next c.place_of-place.result
      c.place_of-place.ensures c.in-Ok.ensures.provides,
)

pub hand_over-requires-clause-next : goal.hand_over-requires-clause-next
hand_over-requires-clause-next g c =
    open_next (setup_of_job c.args.job)
    (at c.args.core.now c.args.leader.now (map g.C.Client.told c.args.clients.now) (g.K.ChunkCache.told c.args.cache.now))
    (at c.provide.new.core c.provide.new.leader (map g.C.Client.told c.provide.new.clients)
    (g.K.ChunkCache.told c.provide.new.cache)) c.requires.carries c.args.next c.requires.next c.place_of-place.result
    c.place_of-place.ensures c.in-Ok.ensures.provides c.in-Some.next c.in-Some.ensures

pub returns-in-Some-clause-delivered : goal.returns-in-Some-clause-delivered
returns-in-Some-clause-delivered g c =
    delivered_by (setup_of_job c.args.job)
    (at c.args.core.now c.args.leader.now (map g.C.Client.told c.args.clients.now) (g.K.ChunkCache.told c.args.cache.now))
    (at c.provide.new.core c.provide.new.leader (map g.C.Client.told c.provide.new.clients)
    (g.K.ChunkCache.told c.provide.new.cache)) c.requires.carries c.args.next c.requires.next c.place_of-place.result
    c.place_of-place.ensures c.in-Ok.ensures.provides c.in-Some.next c.hand_over.new.core c.hand_over.new.leader
    c.hand_over.result c.hand_over.ensures.hands

pub returns-in-Some-clause-placed : goal.returns-in-Some-clause-placed
returns-in-Some-clause-placed g c =
    placed_at (setup_of_job c.args.job)
    (at c.args.core.now c.args.leader.now (map g.C.Client.told c.args.clients.now) (g.K.ChunkCache.told c.args.cache.now))
    (at c.provide.new.core c.provide.new.leader (map g.C.Client.told c.provide.new.clients)
    (g.K.ChunkCache.told c.provide.new.cache)) c.requires.carries c.args.next c.requires.next c.place_of-place.result
    c.place_of-place.ensures c.in-Ok.ensures.provides c.in-Some.next c.hand_over.new.core c.hand_over.new.leader _
    c.hand_over.ensures.placed c.hand_over.result c.hand_over.ensures.hands

pub returns-in-None-clause-delivered : goal.returns-in-None-clause-delivered
returns-in-None-clause-delivered g c =
    absurd (some_left (setup_of_job c.args.job)
    (at c.args.core.now c.args.leader.now (map g.C.Client.told c.args.clients.now) (g.K.ChunkCache.told c.args.cache.now))
    (at c.provide.new.core c.provide.new.leader (map g.C.Client.told c.provide.new.clients)
    (g.K.ChunkCache.told c.provide.new.cache)) c.requires.carries c.args.next c.requires.next c.place_of-place.result
    c.place_of-place.ensures c.in-Ok.ensures.provides c.in-None.ensures)
