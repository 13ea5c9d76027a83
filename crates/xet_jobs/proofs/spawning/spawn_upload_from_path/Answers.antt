use Rattle.std.proofs.Common.{refl, ap, inl, sym, ◌≡◌, ◌∙◌}
use Rattle.std.specs.Prelude.{Err, option_map, unwrap_or}
use Rattle.xet_base.proofs.CallerLemmas.{err-of}
use Rattle.xet_upload.specs.declared.data_error.DataError.TheVariants as data_error
use Rattle.xet_clean.specs.Cleaners.{Cleaner}
use Rattle.xet_clean.specs.Showing.{cleaner_of}
use Rattle.xet_jobs.specs.Jobs.{file_of}
use Rattle.xet_jobs.specs.Telling.{job_of}
use Rattle.xet_jobs.proofs.Begins.{spawns-late, spawns-short}
use Rattle.xet_jobs.proofs.spawning.spawn_upload_from_path.Goals as goal

pub returns-then-is_finalized-clause-spawns : goal.returns-then-is_finalized-clause-spawns
returns-then-is_finalized-clause-spawns g c =
    spawns-late _ _ _ _ (sym c.is_finalized.ensures.is ∙ c.if-is_finalized.true)

pub returns-in_err-buffer-clause-spawns : goal.returns-in_err-buffer-clause-spawns
returns-in_err-buffer-clause-spawns g c =
    let e : c.from_residual.result ≡ Err data_error.OutOfMemory = err-of _ _ c.from_residual.ensures in
    rw e (spawns-short _ _ _ _ (sym c.is_finalized.ensures.is ∙ c.if-is_finalized.false))

pub returns-in_err-id-clause-spawns : goal.returns-in_err-id-clause-spawns
returns-in_err-id-clause-spawns g c =
    let e : c.from_residual-in_err-id.result ≡ Err c.in_err-id.field-0.0 =
    err-of _ _ c.from_residual-in_err-id.ensures in
    rw e (inl (rw c.in_err-id.was at c.start_clean.ensures.starts))

pub returns-clause-spawns : goal.returns-clause-spawns
returns-clause-spawns g c =
    let file : file_of (job_of c.new.result) ≡ c.in_ok-id.cleaner.file_id =
    ap (λ o. unwrap_or (option_map (λ (z : Cleaner). z.file_id) (option_map (cleaner_of g.T.Cutter.told) o)) 0)
    c.new.ensures.cleaner in
    rw file (inl (rw c.in_ok-id.was at c.start_clean.ensures.starts))

pub returns-clause-job : goal.returns-clause-job
returns-clause-job g c = record {
  source_is = ap g.I.Source.told c.new.ensures.source;
  ready = rw c.new.ensures.ready refl;
  own = cleaner_of g.T.Cutter.told c.in_ok-id.cleaner;
  cleaner = rw c.new.ensures.cleaner refl;
  is_new = c.in_ok-id.ensures.cleaner;
}
