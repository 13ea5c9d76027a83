use Rattle.std.proofs.Common.{◌≡◌}
use Rattle.xet_ties.specs.Setup.{told_of}
use Rattle.xet_leader.specs.Led.{setup_of_job}
use Rattle.xet_stages.specs.Measures.{measure}
use Rattle.xet_leader.specs.Steady.{Moment}
use Rattle.xet_turns.specs.Turns.{SoFar}
use Rattle.xet_turns.proofs.turns.lead.Given as goal

-- a run that was steady at the start is steady now
abbrev pub invariant-lead : goal.invariant-lead
invariant-lead g l =
    let sink = g.S.Sink.told in
    let told = told_of g.C.Client.told g.K.ChunkCache.told g.X.CancelSignal.told sink g.B.BudgetSource.told in
    let m : Moment = record {
      told = told l.fn.clients l.fn.cache l.fn.cancel l.fn.writer.sink l.fn.budget;
      events =
          l.fn.core;
    } in
    let n : Moment = record { told = told l.clients l.cache l.cancel l.writer.sink l.budget; events = l.core } in
    SoFar sink (setup_of_job l.job) m n l.fn.leader l.leader l.fn.writer l.writer
    × (l.pass.share.parts ≡ l.fn.pass.share.parts)

-- what is left of the run
abbrev pub decreases-lead : goal.decreases-lead
decreases-lead g l = measure (setup_of_job l.job) l.core l.leader
