use Rattle.xet_ties.specs.Setup.{setup_of, told_of}
use Rattle.xet_ties.proofs.CallerLemmas.{legal_of}
use Rattle.xet_reconstruct.proofs.Limits.{unlimited_legal}
use Rattle.xet_reconstruct.proofs.order.run_within.Goals as goal

pub returns-clause-legal : goal.returns-clause-legal
returns-clause-legal g c =
    let a = c.args in
    let w = a.wanted in
    let n = c.run_over-answer.new in
    let setup = setup_of w.file_hash w.byte_range w.config in
    let b = told_of g.C.Client.told g.K.ChunkCache.told g.X.CancelSignal.told g.S.Sink.told
    g.B.BudgetSource.told a.clients.now a.cache.now a.cancel.now a.writer.now a.budget in
    let after = told_of g.C.Client.told g.K.ChunkCache.told g.X.CancelSignal.told g.S.Sink.told
    g.B.BudgetSource.told n.clients n.cache n.cancel n.writer n.budget in
    unlimited_legal setup b after c.run_over-answer.result
    (legal_of setup b after n.core c.run_over-answer.result c.check_history.ensures c.run_over-answer.ensures)

pub returns-clause-ran : goal.returns-clause-ran
returns-clause-ran g c =
    let a = c.args in
    let n = c.run_over-answer.new in
    record {
      events = n.core;
      later = g.B.BudgetSource.told n.budget;
      allowed = c.check_history.ensures;
      call = c.run_over-answer.ensures;
    }
