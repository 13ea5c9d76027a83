use Rattle.std.proofs.Common.{◌∙◌, refl, rules}
use Rattle.xet_ties.specs.Setup.{told_of}
use Rattle.xet_leader.specs.Led.{setup_of_job}
use Rattle.xet_leader.specs.Steady.{Moment}
use Rattle.xet_turns.proofs.TurnLeads.{run_done, run_fails, run_falls, run_more, run_start, still_steady}
use Rattle.xet_turns.proofs.turns.lead.Goals as goal

pub turn-requires-clause-steady : goal.turn-requires-clause-steady
turn-requires-clause-steady g c κs within =
    let sink = g.S.Sink.told in
    let told = told_of g.C.Client.told g.K.ChunkCache.told g.X.CancelSignal.told sink g.B.BudgetSource.told in
    let setup = setup_of_job c.args.job in
    let m : Moment = record {
      told = told c.args.clients.now c.args.cache.now c.args.cancel.now c.args.writer.now.sink
          c.args.budget.now;
      events = c.args.core.now;
    } in
    let n : Moment = record {
      told = told c.lead.clients c.lead.cache c.lead.cancel c.lead.writer.sink c.lead.budget;
      events = c.lead.core;
    } in
    still_steady sink setup m n n c.args.leader.now c.lead.leader c.lead.leader c.args.writer.now c.lead.writer
    c.lead.writer c.lead.invariant.0 c.requires.steady

pub returns-in-Ok-true-clause-run : goal.returns-in-Ok-true-clause-run
returns-in-Ok-true-clause-run g c =
    let sink = g.S.Sink.told in
    let told = told_of g.C.Client.told g.K.ChunkCache.told g.X.CancelSignal.told sink g.B.BudgetSource.told in
    let setup = setup_of_job c.args.job in
    let m : Moment = record {
      told = told c.args.clients.now c.args.cache.now c.args.cancel.now c.args.writer.now.sink
          c.args.budget.now;
      events = c.args.core.now;
    } in
    let n : Moment = record {
      told = told c.lead.clients c.lead.cache c.lead.cancel c.lead.writer.sink c.lead.budget;
      events = c.lead.core;
    } in
    let p : Moment = record {
      told = told c.turn.new.clients c.turn.new.cache c.turn.new.cancel c.turn.new.writer.sink
          c.turn.new.budget;
      events = c.turn.new.core;
    } in
    run_done sink setup m n p c.args.leader.now c.lead.leader c.turn.new.leader c.args.writer.now c.lead.writer
    c.turn.new.writer c.lead.invariant.0 c.in-Ok-true.field-0 (search rules) c.in-Ok-true.ensures.call

pub lead-preserved : goal.lead-preserved
lead-preserved g c =
    let sink = g.S.Sink.told in
    let told = told_of g.C.Client.told g.K.ChunkCache.told g.X.CancelSignal.told sink g.B.BudgetSource.told in
    let setup = setup_of_job c.args.job in
    let m : Moment = record {
      told = told c.args.clients.now c.args.cache.now c.args.cancel.now c.args.writer.now.sink
          c.args.budget.now;
      events = c.args.core.now;
    } in
    let n : Moment = record {
      told = told c.lead.clients c.lead.cache c.lead.cancel c.lead.writer.sink c.lead.budget;
      events = c.lead.core;
    } in
    let p : Moment = record {
      told = told c.turn.new.clients c.turn.new.cache c.turn.new.cancel c.turn.new.writer.sink
          c.turn.new.budget;
      events = c.turn.new.core;
    } in (
      run_more sink setup m n p c.args.leader.now c.lead.leader c.turn.new.leader c.args.writer.now c.lead.writer
          c.turn.new.writer c.lead.invariant.0 c.in-Ok-false.field-0 c.in-Ok-false.ensures.call,
      c.in-Ok-false.ensures.parts ∙ c.lead.invariant.1,
    )

pub lead-smaller : goal.lead-smaller
lead-smaller g c =
    let sink = g.S.Sink.told in
    let told = told_of g.C.Client.told g.K.ChunkCache.told g.X.CancelSignal.told sink g.B.BudgetSource.told in
    let setup = setup_of_job c.args.job in
    let m : Moment = record {
      told = told c.args.clients.now c.args.cache.now c.args.cancel.now c.args.writer.now.sink
          c.args.budget.now;
      events = c.args.core.now;
    } in
    let n : Moment = record {
      told = told c.lead.clients c.lead.cache c.lead.cancel c.lead.writer.sink c.lead.budget;
      events = c.lead.core;
    } in
    let p : Moment = record {
      told = told c.turn.new.clients c.turn.new.cache c.turn.new.cancel c.turn.new.writer.sink
          c.turn.new.budget;
      events = c.turn.new.core;
    } in
    run_falls sink setup m n p c.args.leader.now c.lead.leader c.turn.new.leader c.args.writer.now c.lead.writer
    c.turn.new.writer c.lead.invariant.0 c.in-Ok-false.field-0 (search rules) c.requires.steady
    c.in-Ok-false.ensures.call

pub lead-init : goal.lead-init
lead-init g c =
    let sink = g.S.Sink.told in
    let told = told_of g.C.Client.told g.K.ChunkCache.told g.X.CancelSignal.told sink g.B.BudgetSource.told in
    let m : Moment = record {
      told = told c.args.clients.now c.args.cache.now c.args.cancel.now c.args.writer.now.sink
          c.args.budget.now;
      events = c.args.core.now;
    } in (run_start sink (setup_of_job c.args.job) m c.args.leader.now c.args.writer.now, refl)

pub turn-requires-clause-parts : goal.turn-requires-clause-parts
turn-requires-clause-parts g c κs within = rw c.lead.invariant.1 c.requires.parts

pub returns-in-Ok-true-clause-parts : goal.returns-in-Ok-true-clause-parts
returns-in-Ok-true-clause-parts g c = c.in-Ok-true.ensures.parts ∙ c.lead.invariant.1

pub returns-in-Err-clause-run : goal.returns-in-Err-clause-run
returns-in-Err-clause-run g c =
    let sink = g.S.Sink.told in
    let told = told_of g.C.Client.told g.K.ChunkCache.told g.X.CancelSignal.told sink g.B.BudgetSource.told in
    let setup = setup_of_job c.args.job in
    let m : Moment = record {
      told = told c.args.clients.now c.args.cache.now c.args.cancel.now c.args.writer.now.sink
          c.args.budget.now;
      events = c.args.core.now;
    } in
    let n : Moment = record {
      told = told c.lead.clients c.lead.cache c.lead.cancel c.lead.writer.sink c.lead.budget;
      events = c.lead.core;
    } in
    let p : Moment = record {
      told = told c.turn.new.clients c.turn.new.cache c.turn.new.cancel c.turn.new.writer.sink
          c.turn.new.budget;
      events = c.turn.new.core;
    } in
    run_fails sink setup m n p c.args.leader.now c.lead.leader c.turn.new.leader c.args.writer.now c.lead.writer
    c.turn.new.writer c.lead.invariant.0 c.in-Err.error c.in-Err.ensures.call

pub returns-in-Err-clause-parts : goal.returns-in-Err-clause-parts
returns-in-Err-clause-parts g c = c.in-Err.ensures.parts ∙ c.lead.invariant.1
