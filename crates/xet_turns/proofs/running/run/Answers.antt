use Rattle.std.proofs.Common.{refl, None, Some}
use Rattle.xet_ties.specs.Setup.{told_of}
use Rattle.xet_leader.specs.Led.{setup_of_job}
use Rattle.xet_leader.specs.Steady.{Moment}
use Rattle.xet_ties.proofs.CallerLemmas.{refused_is}
use Rattle.xet_turns.proofs.RunLeads.{ended_call, refused_call}
use Rattle.xet_turns.proofs.running.run.Goals as goal

pub returns-then-order : goal.returns-then-order
returns-then-order g c =
    let told = g.S.Sink.told in
    let a = c.args in
    let b = told_of g.C.Client.told g.K.ChunkCache.told g.X.CancelSignal.told told g.B.BudgetSource.told a.clients.now
    a.cache.now a.cancel.now a.writer.now a.budget.now in
    c.run_empty.ensures.runs (setup_of_job a.order.job) b refl
    (refused_is g.C.Client.told (setup_of_job a.order.job) a.clients.now None c.in-None.ensures) c.if-order.true

pub returns-in-Some : goal.returns-in-Some
returns-in-Some g c =
    let told = g.S.Sink.told in
    let a = c.args in
    let b = told_of g.C.Client.told g.K.ChunkCache.told g.X.CancelSignal.told told g.B.BudgetSource.told a.clients.now
    a.cache.now a.cancel.now a.writer.now a.budget.now in
    refused_call (setup_of_job a.order.job) b a.core.now c.in-Some.setting c.requires
    (refused_is g.C.Client.told (setup_of_job a.order.job) a.clients.now (Some c.in-Some.setting)
    c.in-Some.ensures)

pub returns : goal.returns
returns g c =
    let told = g.S.Sink.told in
    let a = c.args in
    let n = c.run_some.new in
    let b = told_of g.C.Client.told g.K.ChunkCache.told g.X.CancelSignal.told told g.B.BudgetSource.told a.clients.now
    a.cache.now a.cancel.now a.writer.now a.budget.now in
    let m : Moment = record {
      told = told_of g.C.Client.told g.K.ChunkCache.told g.X.CancelSignal.told told g.B.BudgetSource.told n.clients
          n.cache n.cancel n.writer n.budget;
      events = n.core;
    } in
    ended_call (setup_of_job a.order.job) b m c.run_some.result
    (refused_is g.C.Client.told (setup_of_job a.order.job) a.clients.now None c.in-None.ensures) c.if-order.false c.run_some.ensures
