use Rattle.std.proofs.Common.{[], ◌∷◌, ◌++◌, ◌≡◌, refl, rules}
use Rattle.std.specs.Prelude.{None, Ok, Some}
use Rattle.xet_clean.specs.Showing.{cleaner_of}
use Rattle.xet_jobs.specs.Telling.{job_of}
use Rattle.xet_jobs.proofs.Running.{ran-ended, ran-failed, ran-more, ran-none, room-less, some-told, turned}
use Rattle.xet_jobs.proofs.job.UploadJob.run.Goals as goal

pub turns-init : goal.turns-init
turns-init g c = record {
  pieces = [];
  ran =
      let told = some-told (cleaner_of g.T.Cutter.told) c.args.self.now.cleaner c.requires.0 in
      ran-none _ _ told.0 told.1;
  waits = c.requires;
}

pub turns-preserved : goal.turns-preserved
turns-preserved g c =
    let is : c.turn.result ≡ Ok None = search rules in
    let old = c.turns.invariant in
    let t = turned _ _ (job_of c.turn.new.self) (rw is at c.turn.ensures.call) in
    record {
      pieces = old.pieces ++ t.0 ∷ [];
      ran = ran-more _ _ _ _ _ old.ran t.0 t.1;
      waits = rw is at c.turn.ensures.waits refl;
    }

pub turns-smaller : goal.turns-smaller
turns-smaller g c =
    let is : c.turn.result ≡ Ok None = search rules in
    let old = c.turns.invariant in
    let t = turned _ _ (job_of c.turn.new.self) (rw is at c.turn.ensures.call) in
    room-less _ _ _ _ _ t.0 old.ran t.1

pub returns-in-Ok-Some : goal.returns-in-Ok-Some
returns-in-Ok-Some g c =
    let is : c.turn.result ≡ Ok (Some c.in-Ok-Some.ended) = search rules in
    ran-ended _ _ _ _ _ c.turns.invariant.ran _ (rw is at c.turn.ensures.call)

pub returns-in-Err : goal.returns-in-Err
returns-in-Err g c = ran-failed _ _ _ _ _ c.turns.invariant.ran _ (rw c.in-Err.is at c.turn.ensures.call)
