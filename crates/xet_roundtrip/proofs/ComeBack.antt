-- Files that were uploaded come back.
use Rattle.std.proofs.Common.{◌≡◌, ℕ, List, Ok, Err, ap, sym, subst, ◌∙◌}
use Rattle.std.specs.Prelude.{IfOk, Result, slice_range}
use Rattle.std.proofs.lemmas.Option.{same_Some}
use Rattle.xet_base.specs.declared.cas_types.FileRange.{FileRange}
use Rattle.xet_base.specs.declared.item_id.UniqueID.{UniqueID}
use Rattle.xet_base.specs.declared.merklehash.MerkleHash.{MerkleHash}
use Rattle.xet_base.specs.Store.{Store, window}
use Rattle.xet_outside.specs.Told.{SinkTold}
use Rattle.xet_ties.specs.LegalWords.{IsExact}
use Rattle.xet_ties.specs.Setup.{Setup}
use Rattle.xet_upload.specs.declared.data_error.DataError.{DataError}
use Rattle.xet_clean.specs.Laws.{AcceptedReads}
use Rattle.xet_upload_laws.specs.Downloads.{AcceptedDownload}
use Rattle.xet_download.specs.Downloads.{range_or_whole, run_for, whole}
use Rattle.xet_download.specs.Laws.{FileCallsAreExact, Fills, JobRunsAreExact, WriterCallsAreExact}
use Rattle.xet_roundtrip.specs.ComeBack.{AcceptedComesBack, AfterEnd, ComesBack, FileReturns, JobReturns, Wrote}
use Rattle.xet_roundtrip.specs.ComeBack.{WriterReturns, part_of}

-- an exact run over a store that gives the bytes wrote them
wrote : (s : Store) (g : Setup) (before after : SinkTold) (bytes : List ℕ) (answer : Result (UniqueID × ℕ) DataError)
    → window s g.file g.range ≡ bytes → IfOk answer (λ r. IsExact s g before after r.1)
    → IfOk answer (λ r. Wrote bytes before after r.1)
wrote s g before after bytes (Ok r) is exact = record { took = rw is at exact.took; total = rw is at exact.total }
wrote s g before after bytes (Err e) is exact = tt

-- the store gives these bytes under the hash, in each range
abbrev Gives : Store → MerkleHash → List ℕ → Type 0
Gives s hash bytes = (range : FileRange) → window s hash range ≡ slice_range bytes range.start range.end

writer_returns : WriterCallsAreExact → (s : Store) (hash : MerkleHash) (bytes : List ℕ) → Gives s hash bytes
    → WriterReturns s hash bytes
writer_returns exact s hash bytes gives b n before after info range answer call file over cache =
    wrote s (run_for b hash range) before after (part_of bytes range) answer (gives (range_or_whole range))
    (exact b n before after info range answer hash s call file over cache)

file_returns : FileCallsAreExact → (s : Store) (hash : MerkleHash) (bytes : List ℕ) → Gives s hash bytes
    → FileReturns s hash bytes
file_returns exact s hash bytes gives b n before after info answer call file over cache =
    subst (λ (xs : List ℕ). IfOk answer (λ r. Fills xs before after r.1)) (gives whole)
    (exact b n before after info answer hash s call file over cache)

job_returns : JobRunsAreExact → (s : Store) (hash : MerkleHash) (bytes : List ℕ) → Gives s hash bytes
    → JobReturns s hash bytes
job_returns exact s hash bytes gives t info j cs ds k l before after answer job run file over cache =
    let same : j.file ≡ hash = same_Some _ _ (sym job.file ∙ file) in
    subst (λ (xs : List ℕ). IfOk answer (Fills xs before after))
    (ap (λ (h : MerkleHash). window s h whole) same ∙ gives whole)
    (exact j cs ds k l before after answer s job.range_is run over cache)

module _ (writer : WriterCallsAreExact) (file : FileCallsAreExact) (job : JobRunsAreExact) where
  pub comes_back : ComesBack
  comes_back s hash bytes gives = record {
    writer = writer_returns writer s hash bytes gives;
    file = file_returns file s hash bytes gives;
    job = job_returns job s hash bytes gives;
  }

  pub accepted_comes_back : AcceptedReads → AcceptedComesBack
  accepted_comes_back reads k s log f xorbs accepted stored =
      comes_back s f.hash f.bytes (λ range. reads k s log f range xorbs accepted stored)

  pub after_end : {A : Type 0} → AcceptedDownload A → AfterEnd A
  after_end {A} download k s b n now ended f ends real steady stands valid clash has after =
      comes_back s f.hash f.bytes given
    where
      given : Gives s f.hash f.bytes
      given range =
          let d = download k b n now ended f range ends real steady stands valid clash has in
          let same : d.has.store ≡ s = same_Some _ _ (sym d.has.after ∙ after) in
          rw same at d.window
