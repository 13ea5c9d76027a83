use Rattle.std.proofs.Common.{◌∙◌, refl, rules}
use Rattle.xet_ties.specs.Setup.{told_of}
use Rattle.xet_leader.specs.Led.{setup_of_job}
use Rattle.xet_leader.specs.Steady.{Moment}
use Rattle.xet_turns.proofs.TurnLeads.{can_work, steady_then, turn_done, turn_fails, turn_goes, turn_stops}
use Rattle.xet_turns.proofs.turns.turn.Goals as goal

pub start-requires-clause-runs : goal.start-requires-clause-runs
start-requires-clause-runs g c = c.requires.steady.steady.going.led.running

pub start-requires-clause-led : goal.start-requires-clause-led
start-requires-clause-led g c = c.requires.steady.steady.going.led.manager

pub returns-in-Ok-true-clause-call : goal.returns-in-Ok-true-clause-call
returns-in-Ok-true-clause-call g c =
    let sink = g.S.Sink.told in
    let told = told_of g.C.Client.told g.K.ChunkCache.told g.X.CancelSignal.told sink g.B.BudgetSource.told in
    let setup = setup_of_job c.args.job in
    let m : Moment = record {
      told = told c.args.clients.now c.args.cache.now c.args.cancel.now c.args.writer.now.sink
          c.args.budget.now;
      events = c.args.core.now;
    } in
    let n : Moment = record {
      told = told c.start.new.clients c.args.cache.now c.start.new.cancel
          c.args.writer.now.sink c.start.new.source;
      events = c.start.new.core;
    } in
    turn_done sink setup m n c.args.leader.now c.start.new.leader c.args.writer.now refl c.in-Ok-true.field-0
    (search rules) (c.in-Ok-true.ensures.leads m refl refl refl refl)

pub returns-in-Err-clause-call : goal.returns-in-Err-clause-call
returns-in-Err-clause-call g c =
    let sink = g.S.Sink.told in
    let told = told_of g.C.Client.told g.K.ChunkCache.told g.X.CancelSignal.told sink g.B.BudgetSource.told in
    let setup = setup_of_job c.args.job in
    let m : Moment = record {
      told = told c.args.clients.now c.args.cache.now c.args.cancel.now c.args.writer.now.sink
          c.args.budget.now;
      events = c.args.core.now;
    } in
    let n : Moment = record {
      told = told c.start.new.clients c.args.cache.now c.start.new.cancel
          c.args.writer.now.sink c.start.new.source;
      events = c.start.new.core;
    } in
    turn_fails sink setup m n c.args.leader.now c.start.new.leader c.args.writer.now refl c.in-Err.error
    (c.in-Err.ensures.leads m refl refl refl refl)

pub join_and_settle-requires-clause-can : goal.join_and_settle-requires-clause-can
join_and_settle-requires-clause-can g c κs within =
    let sink = g.S.Sink.told in
    let told = told_of g.C.Client.told g.K.ChunkCache.told g.X.CancelSignal.told sink g.B.BudgetSource.told in
    let setup = setup_of_job c.args.job in
    let m : Moment = record {
      told = told c.args.clients.now c.args.cache.now c.args.cancel.now c.args.writer.now.sink
          c.args.budget.now;
      events = c.args.core.now;
    } in
    let n : Moment = record {
      told = told c.start.new.clients c.args.cache.now c.start.new.cancel
          c.args.writer.now.sink c.start.new.source;
      events = c.start.new.core;
    } in
    can_work sink setup n c.start.new.leader c.args.writer.now
    (steady_then sink setup m n c.args.leader.now c.start.new.leader c.args.writer.now refl
    c.in-Ok-false.field-0 c.requires.steady (c.in-Ok-false.ensures.leads m refl refl refl refl))

pub returns-in-Ok-clause-call : goal.returns-in-Ok-clause-call
returns-in-Ok-clause-call g c =
    let sink = g.S.Sink.told in
    let told = told_of g.C.Client.told g.K.ChunkCache.told g.X.CancelSignal.told sink g.B.BudgetSource.told in
    let setup = setup_of_job c.args.job in
    let m : Moment = record {
      told = told c.args.clients.now c.args.cache.now c.args.cancel.now c.args.writer.now.sink
          c.args.budget.now;
      events = c.args.core.now;
    } in
    let n : Moment = record {
      told = told c.start.new.clients c.args.cache.now c.start.new.cancel
          c.args.writer.now.sink c.start.new.source;
      events = c.start.new.core;
    } in
    let p : Moment = record {
      told = told c.join_and_settle.new.clients c.join_and_settle.new.cache
          c.join_and_settle.new.cancel c.join_and_settle.new.writer.sink c.start.new.source;
      events =
          c.join_and_settle.new.core;
    } in
    turn_goes sink setup m n c.args.leader.now c.start.new.leader c.args.writer.now refl c.in-Ok-false.field-0
    (search rules)
    p c.join_and_settle.new.leader c.join_and_settle.new.writer (c.in-Ok-false.ensures.leads m refl refl refl refl)
    (c.in-Ok.ensures.leads n (record { clients = refl; cache = refl; signal = refl; events = refl }))

pub returns-in-Err-join_and_settle-clause-call : goal.returns-in-Err-join_and_settle-clause-call
returns-in-Err-join_and_settle-clause-call g c =
    let sink = g.S.Sink.told in
    let told = told_of g.C.Client.told g.K.ChunkCache.told g.X.CancelSignal.told sink g.B.BudgetSource.told in
    let setup = setup_of_job c.args.job in
    let m : Moment = record {
      told = told c.args.clients.now c.args.cache.now c.args.cancel.now c.args.writer.now.sink
          c.args.budget.now;
      events = c.args.core.now;
    } in
    let n : Moment = record {
      told = told c.start.new.clients c.args.cache.now c.start.new.cancel
          c.args.writer.now.sink c.start.new.source;
      events = c.start.new.core;
    } in
    let p : Moment = record {
      told = told c.join_and_settle.new.clients c.join_and_settle.new.cache
          c.join_and_settle.new.cancel c.join_and_settle.new.writer.sink c.start.new.source;
      events =
          c.join_and_settle.new.core;
    } in
    turn_stops sink setup m n c.args.leader.now c.start.new.leader c.args.writer.now refl
    c.in-Ok-false.field-0 p c.join_and_settle.new.leader c.join_and_settle.new.writer
    c.in-Err-join_and_settle.error (c.in-Ok-false.ensures.leads m refl refl refl refl)
    (c.in-Err-join_and_settle.ensures.leads n (record { clients = refl; cache = refl; signal = refl; events = refl }))

pub start-requires-clause-some : goal.start-requires-clause-some
start-requires-clause-some g c = c.requires.some

pub join_and_settle-requires-clause-parts : goal.join_and_settle-requires-clause-parts
join_and_settle-requires-clause-parts g c κs within = rw c.in-Ok-false.ensures.parts c.requires.parts

pub returns-in-Ok-true-clause-parts : goal.returns-in-Ok-true-clause-parts
returns-in-Ok-true-clause-parts g c = c.in-Ok-true.ensures.parts

pub returns-in-Err-clause-parts : goal.returns-in-Err-clause-parts
returns-in-Err-clause-parts g c = c.in-Err.ensures.parts

pub returns-in-Ok-clause-parts : goal.returns-in-Ok-clause-parts
returns-in-Ok-clause-parts g c = c.in-Ok.ensures.parts ∙ c.in-Ok-false.ensures.parts

pub returns-in-Err-join_and_settle-clause-parts : goal.returns-in-Err-join_and_settle-clause-parts
returns-in-Err-join_and_settle-clause-parts g c =
    c.in-Err-join_and_settle.ensures.parts ∙ c.in-Ok-false.ensures.parts
