use Rattle.std.proofs.Common.{refl, inl, inr, ◌≡◌}
use Rattle.std.specs.Prelude.{Err}
use Rattle.xet_base.proofs.CallerLemmas.{err-of}
use Rattle.xet_jobs.specs.Telling.{job_of}
use Rattle.xet_jobs.proofs.job.UploadJob.turn.Goals as goal

pub returns-in_err-fill-clause-call : goal.returns-in_err-fill-clause-call
returns-in_err-fill-clause-call g c =
    let e : c.from_residual.result ≡ Err c.in_err-fill.field-0.0 = err-of _ _ c.from_residual.ensures in
    rw e (inr (c.in_err-fill.field-0.0, refl, c.in_err-fill.ensures.call))

pub returns-clause-call : goal.returns-clause-call
returns-clause-call g c =
    let read = c.in_ok-fill.ensures.call.ok in
    inl (read.0, record { filled = job_of c.fill.new.self; fills = read.1; held = c.held_step.ensures.call })
