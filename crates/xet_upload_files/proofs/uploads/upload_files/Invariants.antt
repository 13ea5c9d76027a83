use Rattle.std.proofs.Common.{◌≡◌, ◌+◌, ◌++◌, ◌≤◌, List, length, map}
use Rattle.std.specs.Prelude.{Ok, vec_capacity, vec_len}
use Rattle.xet_progress_state.specs.Counts.{sizes}
use Rattle.xet_upload_session.specs.Telling.{told_by}
use Rattle.xet_clean_parts.specs.FileCalls.{IsUploadCall, TellsOf}
use Rattle.xet_clean_parts.specs.SessionCalls.{CallsOf, UploadsOnce}
use Rattle.xet_upload_files.specs.UploadTelling.{file_told}
use Rattle.xet_upload_files.specs.Uploads.{CountsFiles, EndsUploads, HasUploads, Upload, all_chunks, fixed_sizes, upload_pointer}
use Rattle.xet_upload_files.specs.steps.Uploading.{Progress}
use Rattle.xet_upload_files.proofs.uploads.upload_files.Given as goal

abbrev pub invariant-loop-file : goal.invariant-loop-file
invariant-loop-file g l = record {
  done : List Upload;
  has : HasUploads (told_by l.fn.session) (told_by l.session) (all_chunks done) done;
  ended : EndsUploads l.fn.now done (told_by l.fn.session) (told_by l.session);
  progress : Progress (map (file_told g.I.Source.told g.T.Cutter.told) l.fn.files) (map (file_told g.I.Source.told g.T.Cutter.told) l.files) done
      l.file-index;
  answers : l.infos.items ≡ map upload_pointer done;
  count : vec_len l.infos ≡ l.file-index;
  tells : TellsOf {A = Unit {0}} IsUploadCall (λ e. ⊥) l.fn.session.files.tracker l.session.files.tracker (Ok tt);
  calls : CallsOf (UploadsOnce l.fn.now) (told_by l.fn.session) (told_by l.session);
  counts : CountsFiles l.fn.session.metrics done l.session.metrics;
  failed : l.session.failed ≡ l.fn.session.failed;
  begun : sizes l.session.files.tracker ≡ sizes l.fn.session.files.tracker ++ fixed_sizes (map (λ u. u.file) done);
  group : l.session.progress ≡ l.fn.session.progress;
  ids : l.session.ids ≡ l.fn.session.ids + l.file-index;
  room : length l.fn.files ≤ vec_capacity l.infos;
}
