use Rattle.std.proofs.Common.{Err, refl}
use Rattle.xet_ties.specs.Setup.{told_of}
use Rattle.xet_leader.specs.Led.{setup_of_job}
use Rattle.xet_leader.specs.Steady.{Moment}
use Rattle.xet_turns.proofs.RunLeads.{begins_steady, led_ends, led_runs, memory_alone, sizes_met, some_client, start_led, unbegun}
use Rattle.xet_turns.proofs.running.run_with.Goals as goal

pub lead-led-requires-clause-some : goal.lead-led-requires-clause-some
lead-led-requires-clause-some g c κs within = some_client g.C.Client.told (setup_of_job c.args.order.job)
    c.args.clients.now c.requires.settings

pub lead-led-requires-clause-steady : goal.lead-led-requires-clause-steady
lead-led-requires-clause-steady g c κs within =
    let a = c.args in
    let told = g.S.Sink.told in
    let b = told_of g.C.Client.told g.K.ChunkCache.told g.X.CancelSignal.told told g.B.BudgetSource.told a.clients.now
    a.cache.now a.cancel.now a.writer.now.sink a.budget.now in
    begins_steady told a.order.job b a.core.now c.in-Ok.leader a.writer.now refl c.requires.none c.requires.fresh
    c.in-Ok.ensures.starts c.requires.settings c.requires.some

pub end_run-requires : goal.end_run-requires
end_run-requires g c =
    let a = c.args in
    let told = g.S.Sink.told in
    let n = c.lead-led.new in
    let b = told_of g.C.Client.told g.K.ChunkCache.told g.X.CancelSignal.told told g.B.BudgetSource.told a.clients.now
    a.cache.now a.cancel.now a.writer.now.sink a.budget.now in
    let m : Moment = record {
      told = told_of g.C.Client.told g.K.ChunkCache.told g.X.CancelSignal.told told g.B.BudgetSource.told n.clients
          n.cache n.cancel n.writer.sink n.budget;
      events = n.core;
    } in
    led_runs told (setup_of_job a.order.job) b m n.writer c.lead-led.result
    (start_led told a.order.job b a.core.now m c.in-Ok.leader n.leader a.writer.now n.writer
    c.lead-led.result refl c.requires.none c.requires.fresh c.in-Ok.ensures.starts c.requires.settings
    c.requires.some c.lead-led.ensures.run)

pub returns-in-Ok-new : goal.returns-in-Ok-new
returns-in-Ok-new g c =
    let a = c.args in
    let told = g.S.Sink.told in
    let n = c.lead-led.new in
    let b = told_of g.C.Client.told g.K.ChunkCache.told g.X.CancelSignal.told told g.B.BudgetSource.told a.clients.now
    a.cache.now a.cancel.now a.writer.now.sink a.budget.now in
    let m : Moment = record {
      told = told_of g.C.Client.told g.K.ChunkCache.told g.X.CancelSignal.told told g.B.BudgetSource.told n.clients
          n.cache n.cancel n.writer.sink n.budget;
      events = n.core;
    } in
    let e = c.end_run.new in
    let after : Moment = record { told = record m.told { sink = told e.writer.sink }; events = e.core } in
    led_ends told (setup_of_job a.order.job) b m after n.writer c.lead-led.result c.end_run.result
    (start_led told a.order.job b a.core.now m c.in-Ok.leader n.leader a.writer.now n.writer
    c.lead-led.result refl c.requires.none c.requires.fresh c.in-Ok.ensures.starts c.requires.settings
    c.requires.some c.lead-led.ensures.run)
    (c.end_run.ensures.leads (setup_of_job a.order.job) m refl refl)

pub returns-in-Err : goal.returns-in-Err
returns-in-Err g c =
    let a = c.args in
    let told = g.S.Sink.told in
    let b = told_of g.C.Client.told g.K.ChunkCache.told g.X.CancelSignal.told told g.B.BudgetSource.told a.clients.now
    a.cache.now a.cancel.now a.writer.now.sink a.budget.now in
    let m : Moment = record { told = b; events = a.core.now } in
    let e = c.end_run-in-Err.new in
    let after : Moment = record { told = record b { sink = told e.writer.sink }; events = e.core } in
    led_ends told (setup_of_job a.order.job) b m after a.writer.now (Err c.in-Err.error) c.end_run-in-Err.result
    (unbegun told (setup_of_job a.order.job) b a.core.now a.writer.now c.in-Err.error c.requires.none
    c.requires.settings
    (memory_alone _ _ _ (sizes_met (setup_of_job a.order.job) b.clients c.requires.settings)
    c.in-Err.ensures.fails))
    (c.end_run-in-Err.ensures.leads (setup_of_job a.order.job) m refl refl)
