use Rattle.std.proofs.Common.{refl, ap, inl, inr, ◌≡◌, ◌∙◌}
use Rattle.std.specs.Prelude.{Err}
use Rattle.xet_base.specs.Digests.{file_hash_of}
use Rattle.xet_upload.specs.declared.data_error.DataError.TheVariants as data_error
use Rattle.xet_clean.specs.Showing.{cleaner_of}
use Rattle.xet_base.proofs.CallerLemmas.{err-of}
use Rattle.xet_clean.proofs.Completing.{completes-err, completes-none, completes-ok, data-named}
use Rattle.xet_clean.proofs.FileEnds.{took-err, took-ok}
use Rattle.xet_clean_parts.proofs.CallerLemmas.{group-both}
use Rattle.xet_clean.proofs.cleaner.SingleFileCleaner.complete.Goals as goal

pub returns-in_err-info : goal.returns-in_err-info
returns-in_err-info g c =
    let e : c.from_residual.result ≡ Err data_error.OutOfMemory = err-of _ _ c.from_residual.ensures in
    rw e (record {
      call = completes-none _ _ c.requires.ended _ (c.file_hash-hash.ensures
          ∙ ap file_hash_of c.infos.ensures) _ c.recorded_sha256-sha256.ensures _ _ refl refl;
      ok = tt;
      err = inl (refl, refl);
      group = (refl, refl);
    })

pub returns-in_err-file_data : goal.returns-in_err-file_data
returns-in_err-file_data g c =
    let e : c.from_residual-in_err-file_data.result ≡ Err data_error.OutOfMemory =
    err-of _ _ c.from_residual-in_err-file_data.ensures in
    rw e (record {
      call = completes-none _ _ c.requires.ended _ (c.file_hash-hash.ensures
          ∙ ap file_hash_of c.infos.ensures) _ c.recorded_sha256-sha256.ensures _ _ refl refl;
      ok = tt;
      err = inl (refl, refl);
      group = (refl, refl);
    })

pub returns-in_err-register_single_file_clean_completion : goal.returns-in_err-register_single_file_clean_completion
returns-in_err-register_single_file_clean_completion g c =
    let e : c.from_residual-in_err-register_single_file_clean_completion.result ≡ Err
    c.in_err-register_single_file_clean_completion.field-0.0 =
    err-of _ _ c.from_residual-in_err-register_single_file_clean_completion.ensures in
    let was = c.in_err-register_single_file_clean_completion.was in
    rw e (record {
      call = completes-err _ _ c.requires.ended _ (c.file_hash-hash.ensures
          ∙ ap file_hash_of c.infos.ensures) _ c.recorded_sha256-sha256.ensures _ _ c.in_ok-file_data.ensures.waiting _
          _ _ (rw was at c.register_single_file_clean_completion.ensures.call)
          c.register_single_file_clean_completion.ensures.backs;
      ok = tt;
      err = inr (took-err _ _ (cleaner_of g.T.Cutter.told c.args.self) _ _ _ c.requires.ended
          (c.file_hash-hash.ensures ∙ ap file_hash_of c.infos.ensures) c.recorded_sha256-sha256.ensures
          c.in_ok-file_data.ensures.waiting
          c.into_waiting.ensures.no_files _ _ _ _
          (rw was at c.register_single_file_clean_completion.ensures.call)
          (rw was at c.register_single_file_clean_completion.ensures.tracks));
      group = c.register_single_file_clean_completion.ensures.group;
    })

pub returns : goal.returns
returns g c =
    let was = c.in_ok-register_single_file_clean_completion.was in
    record {
      call = completes-ok _ _ c.requires.ended _ (c.file_hash-hash.ensures
          ∙ ap file_hash_of c.infos.ensures) _ c.recorded_sha256-sha256.ensures _ _ c.in_ok-file_data.ensures.waiting _
          _ _ _ (rw was at c.register_single_file_clean_completion.ensures.call)
          c.register_single_file_clean_completion.ensures.backs
          _ c.in_ok-info.ensures refl _ c.merge_file_metrics.ensures.counted c.merge_file_metrics.ensures.keeps
          c.merge_file_metrics.ensures.backs;
      ok = took-ok _ _ (cleaner_of g.T.Cutter.told c.args.self) _ _ _ c.requires.ended
          (c.file_hash-hash.ensures ∙ ap file_hash_of c.infos.ensures) c.recorded_sha256-sha256.ensures
          c.in_ok-file_data.ensures.waiting c.into_waiting.ensures.no_files _ _ _ _ _ _
          (rw was at c.register_single_file_clean_completion.ensures.call)
          (rw was at c.register_single_file_clean_completion.ensures.tracks) c.merge_file_metrics.ensures.counted
          c.merge_file_metrics.ensures.untold;
      err = tt;
      group = group-both c.register_single_file_clean_completion.ensures.group
          c.merge_file_metrics.ensures.group;
    }

pub register_single_file_clean_completion-requires : goal.register_single_file_clean_completion-requires
register_single_file_clean_completion-requires g c = record {
  named = λ f z. data-named _ c.args.self.parts _ _ _ _ c.in_ok-file_data.ensures.waiting
      c.into_waiting.ensures.no_files (c.requires.named f z);
}
