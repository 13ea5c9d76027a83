-- Downloads of the made file, over connections that never fail.
use Rattle.std.proofs.Common.{◌≡◌, ◌⊎◌, ◌∙◌, ℕ, ◌+◌, ◌-◌, ◌^◌, ◌<◌, Bool, true, false, cond, List, [], ◌∷◌, length, map}
use Rattle.std.proofs.Common.{Option, None, Some, Ok, Err, refl, sym, ap, subst, arith, inl, inr, ⊎_elim}
use Rattle.std.specs.Prelude.{Result, is_none, ◌==◌}
use Rattle.std.specs.Option.{option_or}
use Rattle.std.proofs.lemmas.Bool.{eq-eqb}
use Rattle.std.proofs.lemmas.Option.{same_Some}
use Rattle.xet_base.specs.declared.merklehash.MerkleHash.{MerkleHash}
use Rattle.xet_base.specs.Digests.{file_hash_of, infos_of}
use Rattle.xet_base.specs.HashText.{hash_of_text}
use Rattle.xet_base.specs.Store.{Store}
use Rattle.xet_outside.specs.Told.{ClientTold, Rose, SinkTold}
use Rattle.xet_pointer.specs.declared.xet_file_info.XetFileInfo.{XetFileInfo}
use Rattle.xet_error.specs.declared.error.FileReconstructionError.{FileReconstructionError}
use Rattle.xet_terms.specs.Settings.{failing_setting, first_config}
use Rattle.xet_terms.specs.declared.reconstruction_config.ReconstructionConfig.{ReconstructionConfig}
use Rattle.xet_ties.specs.Causes.{NoneAtEnd, SomeRose, total_expiries}
use Rattle.xet_ties.specs.Legal.{Legal}
use Rattle.xet_reconstruct.specs.Completeness.{LegalIsComplete, NothingFails}
use Rattle.xet_upload.specs.DataErrors.{of_reconstruction_error}
use Rattle.xet_upload.specs.declared.data_error.DataError.{DataError}
use Rattle.xet_upload.specs.declared.data_error.DataError.TheVariants as data_error
use Rattle.xet_download.specs.Calls.{DownloadToWriterCall, Downloads, WriterRun, answer_of}
use Rattle.xet_download.specs.Downloads.{DownloadsTold, counted, finalized_error, ids_used_up, lent, refusal_of}
use Rattle.xet_download.specs.Downloads.{refused_where, run_for}
use Rattle.xet_roundtrip.specs.steps.Trips.{GivesBack, IsOverStore}
use Rattle.xet_roundtrip.proofs.Patterns.{pattern_length}
use Rattle.xet_roundtrip.proofs.Trips.{hash_is}

-- ---- connections

-- they told no fault and no expired answer
abbrev pub AreCalm : List ClientTold → Type 0
AreCalm [] = Unit {0}
AreCalm (c ∷ cs) = (c.faults ≡ 0) × (c.expiries ≡ 0) × AreCalm cs

pub all_calm : {X : Type 0} (told : X → ClientTold) → ((x : X) → (told x).faults ≡ 0)
    → ((x : X) → (told x).expiries ≡ 0) → (xs : List X) → AreCalm (map told xs)
all_calm told f e [] = tt
all_calm told f e (x ∷ xs) = (f x, e x, all_calm told f e xs)

none_rose : (cs ds : List ClientTold) → AreCalm ds → SomeRose cs ds → ⊥
none_rose [] ds calm h = h
none_rose (c ∷ cs) [] calm h = h
none_rose (c ∷ cs) (d ∷ ds) calm h = ⊎_elim
    (λ (r : Rose c.faults d.faults). let z = calm.0 in absurd (omega (arith, z, r)))
    (λ (r : SomeRose cs ds). none_rose cs ds calm.2 r) h

none_at_end : (ds : List ClientTold) → AreCalm ds → NoneAtEnd ds
none_at_end [] calm = tt
none_at_end (d ∷ ds) calm = (let z = calm.1 in omega (arith, z), none_at_end ds calm.2)

none_expired : (ds : List ClientTold) → AreCalm ds → total_expiries ds ≡ 0
none_expired [] calm = refl
none_expired (d ∷ ds) calm = let z = calm.1 in let n = none_expired ds calm.2 in omega (arith, z, n)

-- ---- answers

abbrev failed : {A : Type 0} → DataError → Result A DataError
failed e = Err e

same_error : (e f : DataError) → failed {A = ℕ} e ≡ failed f → e ≡ f
same_error e f is = grind (arith, is)

-- a count that was expected is no error
counted_all : (size : ℕ) (e : DataError) → counted (Some size) size ≡ failed e → ⊥
counted_all size e is = by (size == size) (eq-eqb size size refl) is
  where
    by : (t : Bool) → t ≡ true → cond t (Ok size) (Err (data_error.SizeMismatch size size)) ≡ failed e → ⊥
    by true same was = grind (arith, was)
    by false same was = grind (arith, same)

-- ---- refusals

none_by : (f : Bool) (h : Option MerkleHash) (ids : ℕ) (file : MerkleHash) → f ≡ false → h ≡ Some file → ids ≡ 1
    → option_or (refused_where f finalized_error) (option_or None
    (option_or (refused_where (is_none h) data_error.HashStringParsingFailure)
    (refused_where (ids == 2 ^ 64 - 1) ids_used_up))) ≡ None
none_by f h ids file ff hh ii = rw (ff, hh, ii) refl

-- a setting that fails is none of the first ones
unmet : (n : ℕ) (c : ReconstructionConfig) → n ≡ 1 → c ≡ first_config
    → failing_setting n c.tries c.min_reconstruction_fetch_size c.max_reconstruction_fetch_size ≡ None
unmet n c one config = rw (one, config) refl

-- ---- the download

module _ (complete : LegalIsComplete) (size : ℕ) (info : XetFileInfo) (store : Store) (b n : DownloadsTold)
    (before after : SinkTold) (back : GivesBack size info store) (over : IsOverStore store b) (calm : AreCalm n.clients)
    (unfailed : after.faults ≡ 0) where
  abbrev file : MerkleHash
  file = file_hash_of (infos_of back.chunks)

  unrefused : refusal_of b (Ok None) info ≡ None
  unrefused = none_by b.finalized (hash_of_text info.hash) b.ids file over.unfinalized
      (hash_is size info store back) over.ids

  nothing : NothingFails (run_for b file None) (lent b before) (lent n after)
  nothing = record {
    settings = unmet (length b.clients) b.config over.one over.config;
    stored = inl (record { store = store; over = over.over; stored = back.stored });
    clients = none_rose b.clients n.clients calm;
    sink = λ r. absurd (omega (arith, unfailed, r));
    signal = λ r. absurd (omega (arith, r));
    counts = none_at_end n.clients calm;
    expiries =
        let zero = none_expired n.clients calm in
        let tries : b.config.tries ≡ 3 = ap (λ (c : ReconstructionConfig). c.tries) over.config in
        omega (arith, zero, tries);
  }

  -- the run counted the whole file, or memory was wanting
  by_run : (e : DataError) (run : Result ℕ FileReconstructionError)
      → Legal (run_for b file None) (lent b before) (lent n after) run
      → failed e ≡ answer_of info.file_size run → e ≡ data_error.OutOfMemory
  by_run e (Err x) legal is =
      let wanting = complete _ _ _ (Err x) legal nothing in
      same_error e data_error.OutOfMemory
      (is ∙ ap (λ (y : FileReconstructionError). failed (of_reconstruction_error y)) wanting)
  by_run e (Ok k) legal is =
      let exact = legal.exact.exact store over.over over.cache in
      let count : k ≡ size = exact.total ∙ ap length back.gives ∙ pattern_length size in
      let declared : info.file_size ≡ Some size = ap (λ (i : XetFileInfo). i.file_size) back.pointer in
      absurd (counted_all size e (sym (rw (declared, count) at is)))

  -- its only error is want of memory
  pub only_memory : (e : DataError) → DownloadToWriterCall b n before after info (Ok None) (Err e)
      → e ≡ data_error.OutOfMemory
  only_memory e call = by_runs d.runs
    where
      d : Downloads WriterRun b n before after info None (failed e)
      d = call.runs unrefused

      same : d.file ≡ file
      same = same_Some _ _ (sym d.file_is ∙ hash_is size info store back)

      by_runs : WriterRun b.limits (run_for b d.file None) info.file_size (lent b before) (lent n after) (failed e)
          → e ≡ data_error.OutOfMemory
      by_runs (inl none) = same_error e data_error.OutOfMemory none.0
      by_runs (inr runs) = by_run e runs.run
          (subst (λ (f : MerkleHash). Legal (run_for b f None) (lent b before) (lent n after) runs.run) same runs.legal)
          runs.answer_is
