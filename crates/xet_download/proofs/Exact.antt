-- What an Ok of a download says over one valid store.
use Rattle.std.proofs.Common.{◌≡◌, ℕ, Option, Some, None, refl, sym, ap, subst, arith, inl, inr, true, Err, Ok}
use Rattle.std.specs.Prelude.{IfOk, List, OnOk, Result}
use Rattle.xet_base.specs.declared.cas_types.FileRange.{FileRange}
use Rattle.xet_base.specs.declared.item_id.UniqueID.{UniqueID}
use Rattle.xet_base.specs.declared.merklehash.MerkleHash.{MerkleHash}
use Rattle.xet_base.specs.HashText.{hash_of_text}
use Rattle.xet_base.specs.Store.{Store, window}
use Rattle.xet_outside.specs.Told.{CacheTold, ClientTold, SinkTold}
use Rattle.xet_error.specs.declared.error.FileReconstructionError.{FileReconstructionError}
use Rattle.xet_events.specs.Limits.{LimitTold}
use Rattle.xet_pointer.specs.declared.xet_file_info.XetFileInfo.{XetFileInfo}
use Rattle.xet_terms.specs.declared.reconstruction_config.ReconstructionConfig.{ReconstructionConfig}
use Rattle.xet_ties.specs.LegalWords.{IsExact}
use Rattle.xet_ties.specs.Setup.{CacheTells, IsOver, Setup, setup_of}
use Rattle.xet_reconstruct.specs.ToFile.{StandAt}
use Rattle.xet_upload.specs.declared.data_error.DataError.{DataError}
use Rattle.xet_upload.specs.declared.data_error.DataError.TheVariants as data_error
use Rattle.xet_download.specs.Calls.{Downloads, FileRun, WriterRun, answer_of, count_of}
use Rattle.xet_download.specs.Downloads.{DownloadsTold, counted, lent_by, refusal_of, run_for, whole}
use Rattle.xet_download.specs.Laws.{FileCallsAreExact, Fills, JobRunsAreExact, WriterCallsAreExact}

-- ---- answers

-- a count that was expected is the count
counted_is : (expected : Option ℕ) (n m : ℕ) → counted expected n ≡ Ok m → n ≡ m
counted_is None n m is = grind (arith, is)
counted_is (Some e) n m is = grind (arith, is)

-- an Ok is one of the run, with its count
of_run : (P : ℕ → Type 0) (expected : Option ℕ) (run : Result ℕ FileReconstructionError) (answer : Result ℕ DataError)
    → answer ≡ answer_of expected run → IfOk run P → IfOk answer P
of_run P expected run (Err e) is p = tt
of_run P expected (Err e) (Ok k) is p = absurd (grind (arith, is))
of_run P expected (Ok n) (Ok k) is p = subst P (counted_is expected n k (sym is)) p

-- want of memory is no Ok
no_ok : (P : ℕ → Type 0) (answer : Result ℕ DataError) (e : DataError) → answer ≡ Err e → IfOk answer P
no_ok P (Ok k) e is = absurd (grind (arith, is))
no_ok P (Err f) e is = tt

-- with the id besides
with_id : (P : ℕ → Type 0) (answer : Result (UniqueID × ℕ) DataError) → IfOk (count_of answer) P
    → IfOk answer (λ r. P r.1)
with_id P (Ok r) p = p
with_id P (Err e) p = tt

-- ---- runs

module _ (s : Store) (cs ds : List ClientTold) (k l : CacheTold) (over : IsOver s cs) (cache : CacheTells s k)
    (limits : LimitTold) (expected : Option ℕ) (before after : SinkTold) (answer : Result ℕ DataError) where
  -- to a writer
  pub writer_run : (g : Setup) → WriterRun limits g expected (lent_by cs k before) (lent_by ds l after) answer
      → IfOk answer (IsExact s g before after)
  writer_run g (inl none) = no_ok (IsExact s g before after) answer data_error.OutOfMemory none.0
  writer_run g (inr runs) =
      of_run (IsExact s g before after) expected runs.run answer runs.answer_is (runs.legal.exact.exact s over cache)

  -- the file has the bytes, and the run counted them
  filled : (g : Setup) (bytes : List ℕ) (ready : SinkTold) (run : Result ℕ FileReconstructionError)
      → window s g.file g.range ≡ bytes → OnOk run (StandAt true 0 before after bytes)
      → IfOk run (IsExact s g ready after) → IfOk run (Fills bytes before after)
  filled g bytes ready (Ok n) is stand exact = record { stand = stand; total = rw is at exact.total }
  filled g bytes ready (Err e) is stand exact = tt

  -- into a file
  pub file_run : (file : MerkleHash) (config : ReconstructionConfig)
      → FileRun limits (setup_of file whole config) expected (lent_by cs k before) (lent_by ds l after) answer
      → IfOk answer (Fills (window s file whole) before after)
  file_run file config (inl none) =
      no_ok (Fills (window s file whole) before after) answer data_error.OutOfMemory none.0
  file_run file config (inr runs) =
      of_run (Fills (window s file whole) before after) expected runs.run answer runs.answer_is
      (filled (setup_of file whole config) (window s file whole) _ runs.run refl (runs.call.exact s over cache)
      (runs.call.legal.exact.exact s over cache))

-- ---- calls

module _ (b n : DownloadsTold) (before after : SinkTold) (info : XetFileInfo) (answer : Result (UniqueID × ℕ) DataError)
    (file : MerkleHash) (s : Store) (hash : hash_of_text info.hash ≡ Some file) (over : IsOver s b.clients)
    (cache : CacheTells s b.cache) where
  same_file : (f : MerkleHash) → hash_of_text info.hash ≡ Some f → f ≡ file
  same_file f is = grind (arith, hash, is)

  ran_exact : (range : Option FileRange) → Downloads WriterRun b n before after info range answer
      → IfOk answer (λ r. IsExact s (run_for b file range) before after r.1)
  ran_exact range d =
      let run = writer_run s _ _ _ _ over cache _ _ before after (count_of answer) (run_for b d.file range) d.runs in
      with_id (IsExact s (run_for b file range) before after) answer (rw (same_file d.file d.file_is) at run)

  ran_file : Downloads FileRun b n before after info None answer
      → IfOk answer (λ r. Fills (window s file whole) before after r.1)
  ran_file d =
      let run = file_run s _ _ _ _ over cache _ _ before after (count_of answer) d.file b.config d.runs in
      with_id (Fills (window s file whole) before after) answer (rw (same_file d.file d.file_is) at run)

  refused : (P : ℕ → Type 0) (e : DataError) → answer ≡ Err e → IfOk answer (λ r. P r.1)
  refused P e is = with_id P answer (no_ok P (count_of answer) e (ap count_of is))

pub writer_calls_are_exact : WriterCallsAreExact
writer_calls_are_exact b n before after info range answer file s call hash over cache =
    by_refusal (refusal_of b (Ok range) info) refl
  where
    by_refusal : (o : Option DataError) → refusal_of b (Ok range) info ≡ o
        → IfOk answer (λ r. IsExact s (run_for b file range) before after r.1)
    by_refusal None is = ran_exact b n before after info answer file s hash over cache range (call.runs is)
    by_refusal (Some e) is =
        refused b n before after info answer file s hash over cache (IsExact s (run_for b file range) before after) e
        (call.refused e is).0

pub file_calls_are_exact : FileCallsAreExact
file_calls_are_exact b n before after info answer file s call hash over cache =
    by_refusal (refusal_of b (Ok None) info) refl
  where
    by_refusal : (o : Option DataError) → refusal_of b (Ok None) info ≡ o
        → IfOk answer (λ r. Fills (window s file whole) before after r.1)
    by_refusal None is = ran_file b n before after info answer file s hash over cache (call.runs is)
    by_refusal (Some e) is =
        refused b n before after info answer file s hash over cache (Fills (window s file whole) before after) e
        (call.refused e is).0

pub job_runs_are_exact : JobRunsAreExact
job_runs_are_exact j cs ds k l before after answer s all run over cache =
    file_run s cs ds k l over cache j.limits j.expected before after answer j.file j.config (rw all at run)
