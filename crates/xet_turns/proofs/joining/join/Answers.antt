use Rattle.std.proofs.Common.{inl, refl}
use Rattle.xet_turns.specs.JoinedRuns.{Touching}
use Rattle.xet_turns.proofs.JoinedRuns.{can_round, join_done, join_refused, led_by}
use Rattle.xet_turns.proofs.JoinSteps.{join_ran}
use Rattle.xet_turns.proofs.joining.join.Goals as goal

pub prepare-requires : goal.prepare-requires
prepare-requires g c = led_by _ _ _ _ _ _ _ c.requires.can

pub returns-in-Err-clause-leads : goal.returns-in-Err-clause-leads
returns-in-Err-clause-leads g c =
    let a : Touching _ = record {
      cache = g.K.ChunkCache.told c.args.cache.now;
      signal = g.X.CancelSignal.told c.args.cancel.now;
      events = c.args.core.now;
      led = c.args.leader.now;
      writer =
          c.args.writer.now;
    } in
    let z : Touching _ = record {
      cache = g.K.ChunkCache.told c.prepare.new.cache;
      signal = g.X.CancelSignal.told c.prepare.new.cancel;
      events = c.prepare.new.core;
      led =
          c.prepare.new.leader;
      writer = c.prepare.new.writer;
    } in
    join_refused _ _ _ a z c.in-Err.error c.in-Err.ensures.sink c.in-Err.ensures.leads

pub run_round-requires-clause-can : goal.run_round-requires-clause-can
run_round-requires-clause-can g c κs within =
    let a : Touching _ = record {
      cache = g.K.ChunkCache.told c.args.cache.now;
      signal = g.X.CancelSignal.told c.args.cancel.now;
      events = c.args.core.now;
      led = c.args.leader.now;
      writer =
          c.args.writer.now;
    } in
    let z : Touching _ = record {
      cache = g.K.ChunkCache.told c.prepare.new.cache;
      signal = g.X.CancelSignal.told c.prepare.new.cancel;
      events = c.prepare.new.core;
      led =
          c.prepare.new.leader;
      writer = c.prepare.new.writer;
    } in
    can_round _ _ a z c.in-Ok.prepared c.as_slice.result.now c.as_slice.ensures c.requires.can c.in-Ok.ensures.leads

pub returns-clause-leads : goal.returns-clause-leads
returns-clause-leads g c =
    let a : Touching _ = record {
      cache = g.K.ChunkCache.told c.args.cache.now;
      signal = g.X.CancelSignal.told c.args.cancel.now;
      events = c.args.core.now;
      led = c.args.leader.now;
      writer =
          c.args.writer.now;
    } in
    let z : Touching _ = record {
      cache = g.K.ChunkCache.told c.prepare.new.cache;
      signal = g.X.CancelSignal.told c.prepare.new.cancel;
      events = c.prepare.new.core;
      led =
          c.prepare.new.leader;
      writer = c.prepare.new.writer;
    } in
    join_done _ _ _ _ a z _ _ _ c.in-Ok.prepared c.as_slice.result.now c.run_round.result c.as_slice.ensures
    c.in-Ok.ensures.leads
    c.run_round.ensures.leads

pub returns-in-Err-clause-turn : goal.returns-in-Err-clause-turn
returns-in-Err-clause-turn g c = inl (record { fails = tt; clients = refl })

pub returns-clause-turn : goal.returns-clause-turn
returns-clause-turn g c =
    join_ran _ _ _ _ (record {
      cache = g.K.ChunkCache.told c.prepare.new.cache;
      signal = g.X.CancelSignal.told c.prepare.new.cancel;
      events = c.prepare.new.core;
      led = c.prepare.new.leader;
      writer = c.prepare.new.writer;
    }) c.in-Ok.prepared c.as_slice.result.now c.run_round.result c.as_slice.ensures c.in-Ok.ensures.turn c.run_round.ensures.turn

pub run_round-requires-clause-parts : goal.run_round-requires-clause-parts
run_round-requires-clause-parts g c κs within = c.requires.parts

pub returns-in-Err-clause-parts : goal.returns-in-Err-clause-parts
returns-in-Err-clause-parts g c = refl

pub returns-clause-parts : goal.returns-clause-parts
returns-clause-parts g c = c.run_round.ensures.parts
