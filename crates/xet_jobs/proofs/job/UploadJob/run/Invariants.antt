use Rattle.std.proofs.Common.{ℕ, List}
use Rattle.xet_jobs.specs.Telling.{Waits, job_of}
use Rattle.xet_jobs.proofs.Running.{Ran, room_of}
use Rattle.xet_jobs.proofs.job.UploadJob.run.Given as goal

abbrev pub invariant-turns : goal.invariant-turns
invariant-turns g l = record {
  pieces : List (List ℕ);
  ran : Ran l.now (job_of l.initial.self) (job_of l.self) pieces;
  waits : Waits l.self;
}

abbrev pub decreases-turns : goal.decreases-turns
decreases-turns g l = room_of (job_of l.self)
