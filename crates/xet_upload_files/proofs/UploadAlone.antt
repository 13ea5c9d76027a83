-- One upload, and nothing but its own calls of the session.
use Rattle.std.proofs.Common.{◌≡◌, ℕ, ◌⊎◌, inl, inr, List, sym, subst}
use Rattle.std.specs.Prelude.{Result, Some, Ok, Err, OnOk, OnErr}
use Rattle.xet_outside.specs.Told.{SourceTold}
use Rattle.xet_pointer.specs.declared.xet_file_info.XetFileInfo.{XetFileInfo}
use Rattle.xet_progress_state.specs.declared.step.TrackerStep.{TrackerStep}
use Rattle.xet_upload.specs.declared.data_error.DataError.{DataError}
use Rattle.xet_upload.specs.declared.metrics.DeduplicationMetrics.{DeduplicationMetrics}
use Rattle.xet_upload_session.specs.Calls.{Backs, Keeps}
use Rattle.xet_upload_session.specs.Sessions.{HasListed, SessionTold}
use Rattle.xet_clean.specs.Cleaners.{Cleaner, Finishes, IsNewCleaner}
use Rattle.xet_clean_parts.specs.SessionCalls.{Calls}
use Rattle.xet_clean.specs.FileEnds.{CutsAndTakes, EndsFile, IsSame, TookFile, unit_of}
use Rattle.xet_upload_files.specs.Uploads.{EndsUpload, FileTold}
use Rattle.xet_upload_files.specs.steps.Uploading.{Pours, UploadsAlone, UploadsFile}
use Rattle.xet_upload_files.proofs.Uploading.{file-ended, info_of_answer}

-- ---- an answer without its value

module _ {A : Type 0} (b n : SessionTold) (now : ℕ) (before after : List TrackerStep) where
  took-unit : (c : Cleaner) (x : A) → TookFile b n c now before after (Ok x)
      → TookFile {A = Unit {0}} b n c now before after (Ok tt)
  took-unit c x t = record {
    taken = t.taken;
    one = t.one;
    chunks = t.chunks;
    files = t.files;
    number = t.number;
    hash = t.hash;
    sha256 = t.sha256;
    stands = t.stands;
    later = t.later;
    takes = t.takes;
    tracks = t.tracks;
    counted = t.counted;
    uncounted = t.uncounted;
  }

  took-error : (c : Cleaner) (e : DataError) → TookFile {A = A} b n c now before after (Err e)
      → TookFile {A = Unit {0}} b n c now before after (Err e)
  took-error c e t = record {
    taken = t.taken;
    one = t.one;
    chunks = t.chunks;
    files = t.files;
    number = t.number;
    hash = t.hash;
    sha256 = t.sha256;
    stands = t.stands;
    later = t.later;
    takes = t.takes;
    tracks = t.tracks;
    counted = t.counted;
    uncounted = t.uncounted;
  }

module _ {A : Type 0} (b n : SessionTold) (c : Cleaner) (now : ℕ) (before after : List TrackerStep) where
  ends-unit : (answer : Result A DataError) → EndsFile b n c now before after answer
      → EndsFile b n c now before after (unit_of answer)
  ends-unit answer e = record {
    middle = e.middle;
    ended = e.ended;
    calls = e.calls;
    told = e.told;
    parts = e.parts;
    accepted = e.accepted;
    are_parts = e.are_parts;
    ok = took answer e.ok;
    err = stopped answer e.err;
  }
    where
      took : (a : Result A DataError) → OnOk a (CutsAndTakes b e.middle n c e.ended now e.told after a)
          → OnOk (unit_of a) (CutsAndTakes b e.middle n c e.ended now e.told after (unit_of a))
      took (Ok x) t = record { cuts = t.cuts; took = took-unit e.middle n now e.told after e.ended x t.took }
      took (Err x) t = tt

      stopped : (a : Result A DataError)
          → OnErr a (IsSame e.middle n e.told after ⊎ CutsAndTakes b e.middle n c e.ended now e.told after a)
          → OnErr (unit_of a) (IsSame e.middle n e.told after
          ⊎ CutsAndTakes b e.middle n c e.ended now e.told after (unit_of a))
      stopped (Ok x) t = tt
      stopped (Err x) (inl s) = inl s
      stopped (Err x) (inr t) =
          inr (record { cuts = t.cuts; took = took-error {A = A} e.middle n now e.told after e.ended x t.took })

-- ---- one file

-- what a call left as it was before
pub alone-from : (now : ℕ) (a b n : SessionTold) (f : FileTold) (s : SourceTold)
    (answer : Result XetFileInfo DataError) → b ≡ a → UploadsAlone now b n f s answer
    → UploadsAlone now a n f s answer
alone-from now a b n f s answer e x = subst (λ (z : SessionTold). UploadsAlone now z n f s answer) e x

-- the file never came to its end
pub alone-stopped : (now : ℕ) (b n : SessionTold) (f : FileTold) (s : SourceTold) (e : DataError)
    → UploadsFile b n f s (Err e) → Calls now b n → UploadsAlone now b n f s (Err e)
alone-stopped now b n f s e x calls = record { file = x; ended = tt; stopped = inl calls }

module _ (now : ℕ) (b m n : SessionTold) (f : FileTold) (s : SourceTold) (c d : Cleaner) (u : Unit {0})
    (new : IsNewCleaner c (Some f.size) f.policy f.tell) (p : Pours b m f.source s c d f.size (Ok u))
    (calls : Calls now b m) (told after : List TrackerStep) where
  upload-ends : (answer : Result (Unit {0}) DataError) → Keeps b n → (HasListed b → Backs b n)
      → EndsFile m n d now told after answer → EndsUpload now b n f p.bytes answer
  upload-ends answer keeps backs e = record {
    keeps = keeps;
    backs = backs;
    new = c;
    is_new = new;
    fed = d;
    middle = m;
    calls = calls;
    feeds = p.fed.feeds;
    told = told;
    after = after;
    ends = e;
  }

  -- it was ended, or this failed
  pub alone-ended : (answer : Result (XetFileInfo × DeduplicationMetrics) DataError) → Finishes m n d answer
      → EndsFile m n d now told after answer → UploadsAlone now b n f s (info_of_answer answer)
  alone-ended (Ok r) z e =
      let x = file-ended b m n f s c d u new p (Ok r) z in
      let P : List ℕ → Type 0 = λ bytes. EndsUpload now b n f bytes (Ok tt) in
      record {
        file = x.0;
        ended = subst P (sym x.1) (upload-ends (Ok tt) x.0.keeps x.0.backs (ends-unit m n d now told after (Ok r) e));
        stopped = tt;
      }
  alone-ended (Err y) z e =
      let x = file-ended b m n f s c d u new p (Err y) z in
      let P : List ℕ → Type 0 = λ bytes. EndsUpload now b n f bytes (Err y) in
      record {
        file = x.0;
        ended = tt;
        stopped = inr (subst P (sym x.1) (upload-ends (Err y) x.0.keeps x.0.backs
            (ends-unit {A = XetFileInfo × DeduplicationMetrics} m n d now told after (Err y) e)));
      }
