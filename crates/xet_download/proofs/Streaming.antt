-- Streams of a session, by their steps.
use Rattle.std.proofs.Common.{◌≡◌, ◌∙◌, Option, Some, refl, sym, ap, subst, arith, false, Err, Ok}
use Rattle.std.specs.Prelude.{Bool, IfErr, IfOk, OnErr, Result}
use Rattle.std.specs.Option.{option_or}
use Rattle.std.specs.Result.{result_err}
use Rattle.xet_base.specs.declared.cas_types.FileRange.{FileRange}
use Rattle.xet_base.specs.declared.item_id.UniqueID.{UniqueID}
use Rattle.xet_events.specs.Limits.{LimitTold}
use Rattle.xet_pointer.specs.declared.xet_file_info.XetFileInfo.{XetFileInfo}
use Rattle.xet_ties.specs.Setup.{Setup}
use Rattle.xet_upload.specs.declared.data_error.DataError.{DataError}
use Rattle.xet_upload.specs.declared.data_error.DataError.TheVariants as data_error
use Rattle.xet_download.specs.Calls.{BeginCall, Begins, JobTold, job_setup}
use Rattle.xet_download.specs.Downloads.{DownloadsTold, begin_refusal, finalized_error, refusal_of, refused_where}
use Rattle.xet_download.specs.Streams.{OpenCall, StreamCall, range_in, with_flag}
use Rattle.xet_download.proofs.Calling.{began, error_as, ok_as, refusal_is, same_some}

-- ---- begins

reversed_by : (f : Bool) (range : Result (Option FileRange) DataError) (e : DataError) (rest : Option DataError)
    → f ≡ false → range ≡ Err e
    → option_or (refused_where f finalized_error) (option_or (result_err range) rest) ≡ Some e
reversed_by f range e rest ff ee = rw (ff, ee) refl

-- an open session refuses a reversed range so
pub reversed : (b : DownloadsTold) (range : Result (Option FileRange) DataError) (info : XetFileInfo) (e : DataError)
    → b.finalized ≡ false → range ≡ Err e → refusal_of b range info ≡ Some e
reversed b range info e opened is = reversed_by b.finalized range e (begin_refusal b info) opened is

-- a begin that was refused
pub refused_open : (b : DownloadsTold) (range : Result (Option FileRange) DataError) (info : XetFileInfo)
    (answer : Result (UniqueID × JobTold) DataError) (e : DataError) → refusal_of b range info ≡ Some e
    → answer ≡ Err e → OpenCall b b info range answer
refused_open b range info answer e is was = record {
  refused = λ f again. (was ∙ ap error_as (same_some e f (sym is ∙ again)), refl);
  begun = λ none. absurd (grind (arith, is, none));
  memory = λ none. absurd (grind (arith, is, none));
  ok = rw was tt;
}

-- one of an open session over a range that isn't reversed
pub opened : (b n : DownloadsTold) (range : Result (Option FileRange) DataError) (r : Option FileRange)
    (info : XetFileInfo) (answer : Result (UniqueID × JobTold) DataError) → b.finalized ≡ false → range ≡ Ok r
    → BeginCall b n info r answer → OpenCall b n info range answer
opened b n range r info answer open_is forward call =
    subst (λ (q : Option DataError). Begins q b n info (range_in range) answer)
    (sym (refusal_is b range r info open_is forward))
    (subst (λ (o : Result (Option FileRange) DataError). Begins (begin_refusal b info) b n info (range_in o) answer)
    (sym forward) call)

-- ---- streams

module _ {A : Type 0} (new : Setup → LimitTold → A) (b : DownloadsTold) (info : XetFileInfo)
    (range : Result (Option FileRange) DataError) (answer : Result (UniqueID × A) DataError) where
  -- a download that wasn't begun gives no stream
  pub unbegun_stream : (n : DownloadsTold) (e : DataError) → OpenCall b n info range (Err e) → answer ≡ Err e
      → StreamCall new b n info range answer
  unbegun_stream n e begin was = record {
    refused = λ f is. let told = begin.refused f is in (was ∙ grind (arith, told.0), told.1);
    memory = λ none. rw was (begin.memory none, begin.begun none);
    ok = rw was tt;
  }

  module _ (m : DownloadsTold) (a : UniqueID × JobTold) (begin : OpenCall b m info range (Ok a)) where
    -- nor does one for which memory was wanting
    pub no_stream : answer ≡ Err data_error.OutOfMemory → StreamCall new b m info range answer
    no_stream was = record {
      refused = λ e is. absurd (grind (arith, (begin.refused e is).0));
      memory = λ none. rw was (refl, begin.begun none);
      ok = rw was tt;
    }

    -- a stream of what the job runs, whose flag was registered
    pub streamed : (n : DownloadsTold) (s : A) → answer ≡ Ok (a.0, s) → s ≡ new (job_setup a.1) a.1.limits
        → n ≡ with_flag m a.0 → StreamCall new b n info range answer
    streamed n s was made kept =
        let drew = begin.begun (began (refusal_of b range info) b m info (range_in range) a begin) in
        let job = begin.ok.1 in
        record {
          refused = λ e is. absurd (grind (arith, (begin.refused e is).0));
          memory = λ none. rw was tt;
          ok = rw was (
            begin.ok.0,
            rw (drew, begin.ok.0) at kept,
            record {
              file = a.1.file;
              file_is = job.file;
              stream_is = rw (job.range_is, job.config, job.limits) at made;
            },
          );
        }

    -- so it is of a stream whose flag was to be registered
    pub enlisted : (n : DownloadsTold) (s : A) → s ≡ new (job_setup a.1) a.1.limits
        → IfOk answer (λ r. (r ≡ (a.0, s)) × (n ≡ with_flag m a.0))
        → IfErr answer (λ e. e ≡ data_error.OutOfMemory) → OnErr answer (n ≡ m) → StreamCall new b n info range answer
    enlisted n s made ok memory same = by answer refl ok memory same
      where
        by : (o : Result (UniqueID × A) DataError) → answer ≡ o
            → IfOk o (λ r. (r ≡ (a.0, s)) × (n ≡ with_flag m a.0)) → IfErr o (λ e. e ≡ data_error.OutOfMemory)
            → OnErr o (n ≡ m) → StreamCall new b n info range answer
        by (Ok r) is ok memory same = streamed n s (is ∙ ap ok_as ok.0) made ok.1
        by (Err e) is ok memory same =
            subst (λ k. StreamCall new b k info range answer) (sym same) (no_stream (is ∙ ap error_as memory))
