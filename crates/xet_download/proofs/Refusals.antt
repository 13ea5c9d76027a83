-- Which errors refuse a download, and that none says that a run was cancelled.
use Rattle.std.proofs.Common.{◌≡◌, ℕ, Option, Some, None, refl, sym, ap, ◌∙◌, arith, inl, inr, true, false, Err, Ok}
use Rattle.std.specs.Prelude.{Bool, IfErr, List, Result, is_none, ◌⊎◌, ◌==◌, ◌-◌, ◌^◌, ◌&&◌, nat_lt, if◌then◌else◌}
use Rattle.std.specs.declared.ops.Bound.{Bound}
use Rattle.std.specs.Option.{option_or}
use Rattle.std.specs.Result.{result_err}
use Rattle.xet_base.specs.declared.cas_types.FileRange.{FileRange}
use Rattle.xet_base.specs.declared.invalid.Invalid.{Invalid}
use Rattle.xet_base.specs.declared.item_id.UniqueID.{UniqueID}
use Rattle.xet_base.specs.HashText.{hash_of_text}
use Rattle.xet_outside.specs.Told.{Rose, SinkTold}
use Rattle.xet_error.specs.declared.error.FileReconstructionError.{FileReconstructionError}
use Rattle.xet_error.specs.declared.error.FileReconstructionError.TheVariants as error
use Rattle.xet_events.specs.Limits.{LimitTold}
use Rattle.xet_pointer.specs.declared.xet_file_info.XetFileInfo.{XetFileInfo}
use Rattle.xet_ties.specs.Causes.{Cause}
use Rattle.xet_ties.specs.InCall.{Exchange}
use Rattle.xet_ties.specs.Setup.{RunTold, Setup}
use Rattle.xet_reconstruct.specs.ToFile.{placed_as}
use Rattle.xet_upload.specs.DataErrors.{of_reconstruction_error}
use Rattle.xet_upload.specs.declared.data_error.DataError.{DataError}
use Rattle.xet_upload.specs.declared.data_error.DataError.TheVariants as data_error
use Rattle.xet_download.specs.Bounds.{end_of, first_of, range_of}
use Rattle.xet_download.specs.Calls.{DownloadToWriterCall, Downloads, FileRun, WriterRun, answer_of, count_of}
use Rattle.xet_download.specs.Downloads.{DownloadsTold, begin_refusal, counted, expected_of, finalized_error}
use Rattle.xet_download.specs.Downloads.{ids_used_up, lent, lent_by, refusal_of, refused_where, run_for}
use Rattle.xet_download.specs.Laws.{FileIsUncancelled, JobIsUncancelled, RefusalsAreFour, WriterIsUncancelled, cancelled}

-- ---- refusals

four : (f : Bool) (r : Result (Option FileRange) DataError) (h u : Bool) (e : DataError)
    → option_or (refused_where f finalized_error) (option_or (result_err r)
    (option_or (refused_where h data_error.HashStringParsingFailure) (refused_where u ids_used_up))) ≡ Some e
    → (e ≡ finalized_error) ⊎ (r ≡ Err e) ⊎ (e ≡ data_error.HashStringParsingFailure) ⊎ (e ≡ ids_used_up)
four true r h u e is = inl (grind (arith, is))
four false (Err x) h u e is = inr (inl (grind (arith, is)))
four false (Ok x) true u e is = inr (inr (inl (grind (arith, is))))
four false (Ok x) false true e is = inr (inr (inr (grind (arith, is))))
four false (Ok x) false false e is = absurd (grind (arith, is))

pub refusals_are_four : RefusalsAreFour
refusals_are_four t range info e is =
    four t.finalized range (is_none (hash_of_text info.hash)) (t.ids == 2 ^ 64 - 1) e is

-- none of them says that a run was cancelled, where the bounds' doesn't
refused_named : (t : DownloadsTold) (range : Result (Option FileRange) DataError) (info : XetFileInfo)
    → (range ≡ Err cancelled → ⊥) → refusal_of t range info ≡ Some cancelled → ⊥
refused_named t range info forward is = by_case (refusals_are_four t range info cancelled is)
  where
    by_case : (cancelled ≡ finalized_error) ⊎ (range ≡ Err cancelled)
        ⊎ (cancelled ≡ data_error.HashStringParsingFailure) ⊎ (cancelled ≡ ids_used_up) → ⊥
    by_case (inl e) = grind (arith, e)
    by_case (inr (inl e)) = forward e
    by_case (inr (inr (inl e))) = grind (arith, e)
    by_case (inr (inr (inr e))) = grind (arith, e)

-- nor does that of bounds
bounds_by : (a b : Bool) (i : Invalid) (r : FileRange)
    → (if a then Err (data_error.InvalidOperation i) else (if b then Ok None else Ok (Some r))) ≡ Err cancelled → ⊥
bounds_by true b i r is = grind (arith, is)
bounds_by false true i r is = grind (arith, is)
bounds_by false false i r is = grind (arith, is)

bounds_named : (bounds : Bound ℕ × Bound ℕ) → range_of bounds ≡ Err cancelled → ⊥
bounds_named bounds is =
    bounds_by (nat_lt (end_of bounds.1) (first_of bounds.0))
    ((first_of bounds.0 == 0) && (end_of bounds.1 == 2 ^ 64 - 1)) _ _ is

-- reversed bounds are a refusal
abbrev reversed : DataError → Result (Option FileRange) DataError
reversed x = Err x

reversed_by : (f : Bool) (x : DataError) (rest : Option DataError)
    → option_or (refused_where f finalized_error) (option_or (result_err (reversed x)) rest) ≡ None → ⊥
reversed_by true x rest is = grind (arith, is)
reversed_by false x rest is = grind (arith, is)

-- ---- runs

abbrev answers : DataError → Result ℕ DataError
answers x = Err x

same_error : (x y : DataError) → answers x ≡ answers y → x ≡ y
same_error x y is = grind (arith, is)

counted_named : (expected : Option ℕ) (k : ℕ) → counted expected k ≡ Err cancelled → ⊥
counted_named None k is = grind (arith, is)
counted_named (Some e) k is = grind (arith, is)

-- a signal without a yes is no cause
error_named : (g : Setup) (xs : List Exchange) (b n : RunTold) (e : FileReconstructionError)
    → (Rose b.signal.yes n.signal.yes → ⊥) → of_reconstruction_error e ≡ cancelled → Cause g xs b n e → ⊥
error_named g xs b n error.Cancelled none is cause = none cause
error_named g xs b n error.OutOfMemory none is cause = grind (arith, is)
error_named g xs b n error.ClientError none is cause = grind (arith, is)
error_named g xs b n error.FileNotFound none is cause = grind (arith, is)
error_named g xs b n error.UrlExpired none is cause = grind (arith, is)
error_named g xs b n error.IoError none is cause = grind (arith, is)
error_named g xs b n (error.CorruptedReconstruction k) none is cause = grind (arith, is)
error_named g xs b n (error.ConfigurationError k) none is cause = grind (arith, is)
error_named g xs b n (error.InternalWriterError k) none is cause = grind (arith, is)

run_named : (g : Setup) (xs : List Exchange) (b n : RunTold) (expected : Option ℕ)
    (run : Result ℕ FileReconstructionError) (answer : Result ℕ DataError) → (Rose b.signal.yes n.signal.yes → ⊥)
    → answer ≡ answer_of expected run → IfErr run (Cause g xs b n) → answer ≡ Err cancelled → ⊥
run_named g xs b n expected (Ok k) answer none is cause was = counted_named expected k (sym is ∙ was)
run_named g xs b n expected (Err e) answer none is cause was =
    error_named g xs b n e none (same_error _ _ (sym is ∙ was)) cause

writer_named : (limits : LimitTold) (g : Setup) (expected : Option ℕ) (b n : RunTold) (answer : Result ℕ DataError)
    → (Rose b.signal.yes n.signal.yes → ⊥) → WriterRun limits g expected b n answer → answer ≡ Err cancelled → ⊥
writer_named limits g expected b n answer none (inl nothing) was = grind (arith, nothing.0, was)
writer_named limits g expected b n answer none (inr runs) was =
    run_named g runs.legal.told.heard b n expected runs.run answer none runs.answer_is runs.legal.cause was

file_named : (limits : LimitTold) (g : Setup) (expected : Option ℕ) (b n : RunTold) (answer : Result ℕ DataError)
    → (Rose b.signal.yes n.signal.yes → ⊥) → FileRun limits g expected b n answer → answer ≡ Err cancelled → ⊥
file_named limits g expected b n answer none (inl nothing) was = grind (arith, nothing.0, was)
file_named limits g expected b n answer none (inr runs) was =
    run_named g runs.call.legal.told.heard (placed_as n.sink.link b) n expected runs.run answer none runs.answer_is runs.call.legal.cause was

-- no count rises from 0 to 0
unrisen : Rose 0 0 → ⊥
unrisen r = omega (arith, r)

-- ---- the laws

writer_by : (b n : DownloadsTold) (before after : SinkTold) (info : XetFileInfo)
    (range : Result (Option FileRange) DataError) (answer : Result (UniqueID × ℕ) DataError)
    → (range ≡ Err cancelled → ⊥) → DownloadToWriterCall b n before after info range answer
    → answer ≡ Err cancelled → ⊥
writer_by b n before after info range answer forward call was = by_refusal (refusal_of b range info) refl
  where
    by_range : (r : Result (Option FileRange) DataError) → range ≡ r → refusal_of b r info ≡ None → ⊥
    by_range (Err x) e none = reversed_by b.finalized x (begin_refusal b info) none
    by_range (Ok r) e none =
        let d : Downloads WriterRun b n before after info r answer = rw e at (call.runs (rw e none)) in
        writer_named b.limits (run_for b d.file r) (expected_of r info.file_size) (lent b before) (lent n after)
        (count_of answer) unrisen d.runs (ap count_of was)

    by_refusal : (o : Option DataError) → refusal_of b range info ≡ o → ⊥
    by_refusal None o = by_range range refl o
    by_refusal (Some e) o =
        let same = same_error e cancelled (ap count_of (sym (call.refused e o).0 ∙ was)) in
        refused_named b range info forward (o ∙ ap Some same)

pub writer_is_uncancelled : WriterIsUncancelled
writer_is_uncancelled b n before after info bounds answer call was =
    writer_by b n before after info (range_of bounds) answer (bounds_named bounds) call was

pub file_is_uncancelled : FileIsUncancelled
file_is_uncancelled b n before after info answer call was = by_refusal (refusal_of b (Ok None) info) refl
  where
    by_refusal : (o : Option DataError) → refusal_of b (Ok None) info ≡ o → ⊥
    by_refusal None o =
        let d = call.runs o in
        file_named b.limits (run_for b d.file None) (expected_of None info.file_size) (lent b before) (lent n after)
        (count_of answer) unrisen d.runs (ap count_of was)
    by_refusal (Some e) o =
        let same = same_error e cancelled (ap count_of (sym (call.refused e o).0 ∙ was)) in
        refused_named b (Ok None) info (λ is. grind (arith, is)) (o ∙ ap Some same)

pub job_is_uncancelled : JobIsUncancelled
job_is_uncancelled limits g expected cs ds k l before after answer run was =
    file_named limits g expected (lent_by cs k before) (lent_by ds l after) answer unrisen run was
