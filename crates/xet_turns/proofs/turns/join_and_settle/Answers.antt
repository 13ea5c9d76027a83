use Rattle.std.proofs.Common.{map, refl}
use Rattle.xet_turns.specs.JoinedRuns.{Joining}
use Rattle.xet_leader.specs.Led.{setup_of_job}
use Rattle.xet_turns.proofs.JoinSteps.{join_counts}
use Rattle.xet_turns.proofs.RoundEnds.{can_join, can_settle, work_fails, work_leads}
use Rattle.xet_turns.proofs.turns.join_and_settle.Goals as goal

pub join-requires-clause-can : goal.join-requires-clause-can
join-requires-clause-can g c κs within =
    let a : Joining _ = record {
      clients = map g.C.Client.told c.args.clients.now;
      cache =
          g.K.ChunkCache.told c.args.cache.now;
      signal = g.X.CancelSignal.told c.args.cancel.now;
      events =
          c.args.core.now;
      led = c.args.leader.now;
      writer = c.args.writer.now;
    } in
    can_join g.S.Sink.told (setup_of_job c.args.job) a c.requires.can

pub returns-in-Err-clause-leads : goal.returns-in-Err-clause-leads
returns-in-Err-clause-leads g c =
    let a : Joining _ = record {
      clients = map g.C.Client.told c.args.clients.now;
      cache =
          g.K.ChunkCache.told c.args.cache.now;
      signal = g.X.CancelSignal.told c.args.cancel.now;
      events =
          c.args.core.now;
      led = c.args.leader.now;
      writer = c.args.writer.now;
    } in
    let y : Joining _ = record {
      clients = map g.C.Client.told c.join.new.clients;
      cache =
          g.K.ChunkCache.told c.join.new.cache;
      signal = g.X.CancelSignal.told c.join.new.cancel;
      events =
          c.join.new.core;
      led = c.join.new.leader;
      writer = c.join.new.writer;
    } in
    work_fails g.S.Sink.told (setup_of_job c.args.job) c.args.job.config.tries a y c.in-Err.error refl
    c.in-Err.ensures.leads

pub settle_outcome-requires-clause-running : goal.settle_outcome-requires-clause-running
settle_outcome-requires-clause-running g c =
    let a : Joining _ = record {
      clients = map g.C.Client.told c.args.clients.now;
      cache =
          g.K.ChunkCache.told c.args.cache.now;
      signal = g.X.CancelSignal.told c.args.cancel.now;
      events =
          c.args.core.now;
      led = c.args.leader.now;
      writer = c.args.writer.now;
    } in
    let y : Joining _ = record {
      clients = map g.C.Client.told c.join.new.clients;
      cache =
          g.K.ChunkCache.told c.join.new.cache;
      signal = g.X.CancelSignal.told c.join.new.cancel;
      events =
          c.join.new.core;
      led = c.join.new.leader;
      writer = c.join.new.writer;
    } in
    (can_settle g.S.Sink.told (setup_of_job c.args.job) c.args.job.config.tries a y c.in-Ok.outcome refl
    c.requires.can c.in-Ok.ensures.leads).running

pub settle_outcome-requires-clause-stale : goal.settle_outcome-requires-clause-stale
settle_outcome-requires-clause-stale g c =
    let a : Joining _ = record {
      clients = map g.C.Client.told c.args.clients.now;
      cache =
          g.K.ChunkCache.told c.args.cache.now;
      signal = g.X.CancelSignal.told c.args.cancel.now;
      events =
          c.args.core.now;
      led = c.args.leader.now;
      writer = c.args.writer.now;
    } in
    let y : Joining _ = record {
      clients = map g.C.Client.told c.join.new.clients;
      cache =
          g.K.ChunkCache.told c.join.new.cache;
      signal = g.X.CancelSignal.told c.join.new.cancel;
      events =
          c.join.new.core;
      led = c.join.new.leader;
      writer = c.join.new.writer;
    } in
    (can_settle g.S.Sink.told (setup_of_job c.args.job) c.args.job.config.tries a y c.in-Ok.outcome refl
    c.requires.can c.in-Ok.ensures.leads).stale

pub returns-clause-leads : goal.returns-clause-leads
returns-clause-leads g c =
    let a : Joining _ = record {
      clients = map g.C.Client.told c.args.clients.now;
      cache =
          g.K.ChunkCache.told c.args.cache.now;
      signal = g.X.CancelSignal.told c.args.cancel.now;
      events =
          c.args.core.now;
      led = c.args.leader.now;
      writer = c.args.writer.now;
    } in
    let y : Joining _ = record {
      clients = map g.C.Client.told c.join.new.clients;
      cache =
          g.K.ChunkCache.told c.join.new.cache;
      signal = g.X.CancelSignal.told c.join.new.cancel;
      events =
          c.join.new.core;
      led = c.join.new.leader;
      writer = c.join.new.writer;
    } in
    let z : Joining _ = record {
      clients = map g.C.Client.told c.settle_outcome.new.clients;
      cache =
          g.K.ChunkCache.told c.settle_outcome.new.cache;
      signal = g.X.CancelSignal.told c.join.new.cancel;
      events =
          c.settle_outcome.new.core;
      led = c.settle_outcome.new.leader;
      writer = c.join.new.writer;
    } in
    work_leads g.S.Sink.told (setup_of_job c.args.job) c.args.job.config.tries
    c.args.job.config.enable_multirange_fetching c.in-Ok.outcome a y z
    c.settle_outcome.result refl refl c.in-Ok.ensures.leads c.settle_outcome.ensures refl refl
    (join_counts _ _ a y c.in-Ok.outcome c.in-Ok.ensures.turn)

pub join-requires-clause-parts : goal.join-requires-clause-parts
join-requires-clause-parts g c κs within = c.requires.parts

pub returns-in-Err-clause-parts : goal.returns-in-Err-clause-parts
returns-in-Err-clause-parts g c = c.in-Err.ensures.parts

pub returns-clause-parts : goal.returns-clause-parts
returns-clause-parts g c = c.in-Ok.ensures.parts
