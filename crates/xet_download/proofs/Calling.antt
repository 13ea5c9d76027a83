-- Calls of a session, by their steps.
use Rattle.std.proofs.Common.{◌≡◌, ℕ, Option, Some, None, refl, sym, ap, ◌∙◌, subst, arith, inl, true, false, Err, Ok}
use Rattle.std.specs.Prelude.{Bool, IfOk, Result, is_none, ◌==◌, ◌-◌, ◌^◌}
use Rattle.std.specs.Option.{option_or}
use Rattle.std.specs.Result.{result_err}
use Rattle.xet_base.specs.declared.cas_types.FileRange.{FileRange}
use Rattle.xet_base.specs.declared.item_id.UniqueID.{UniqueID}
use Rattle.xet_base.specs.declared.merklehash.MerkleHash.{MerkleHash}
use Rattle.xet_base.specs.HashText.{hash_of_text}
use Rattle.xet_outside.specs.Told.{SinkTold}
use Rattle.xet_pointer.specs.declared.xet_file_info.XetFileInfo.{XetFileInfo}
use Rattle.xet_events.specs.Limits.{LimitTold}
use Rattle.xet_ties.specs.Setup.{RunTold, Setup}
use Rattle.xet_upload.specs.declared.data_error.DataError.{DataError}
use Rattle.xet_upload.specs.declared.data_error.DataError.TheVariants as data_error
use Rattle.xet_download.specs.Calls.{BackgroundCall, Begins, DownloadFileCall, DownloadToWriterCall}
use Rattle.xet_download.specs.Calls.{Downloads, FileRun, JobTold, WriterRun, count_of, drawn, job_setup, next_id}
use Rattle.xet_download.specs.Downloads.{DownloadsTold, begin_refusal, finalized_error, finalizing, ids_used_up, lent}
use Rattle.xet_download.specs.Downloads.{refusal_of, refused_where}
use Rattle.xet_download.specs.Streams.{OpenCall, range_in}

-- ---- refusals

late_by : (f : Bool) (rest : Option DataError) (e : DataError) → finalizing f ≡ Err e
    → option_or (refused_where f finalized_error) rest ≡ Some e
late_by true rest e is = grind (arith, is)
late_by false rest e is = absurd (grind (arith, is))

-- a finalized session refuses so
pub late : (b : DownloadsTold) (range : Result (Option FileRange) DataError) (info : XetFileInfo) (e : DataError)
    → finalizing b.finalized ≡ Err e → refusal_of b range info ≡ Some e
late b range info e is = late_by b.finalized _ e is

open_by : (f : Bool) (u : Unit {0}) → finalizing f ≡ Ok u → f ≡ false
open_by true u is = absurd (grind (arith, is))
open_by false u is = refl

pub is_open : (b : DownloadsTold) (u : Unit {0}) → finalizing b.finalized ≡ Ok u → b.finalized ≡ false
is_open b u is = open_by b.finalized u is

flat : (f : Bool) (range : Result (Option FileRange) DataError) (r : Option FileRange) (rest : Option DataError)
    → f ≡ false → range ≡ Ok r
    → option_or (refused_where f finalized_error) (option_or (result_err range) rest) ≡ rest
flat f range r rest ff ee = rw (ff, ee) refl

-- of an open session over a range that isn't reversed a download is refused as its begin is
pub refusal_is : (b : DownloadsTold) (range : Result (Option FileRange) DataError) (r : Option FileRange)
    (info : XetFileInfo) → b.finalized ≡ false → range ≡ Ok r → refusal_of b range info ≡ begin_refusal b info
refusal_is b range r info opened forward = flat b.finalized range r _ opened forward

pub same_some : (e f : DataError) → Some e ≡ Some f → e ≡ f
same_some e f is = grind (arith, is)

abbrev pub error_as : {A : Type 0} → DataError → Result A DataError
error_as e = Err e

abbrev pub ok_as : {A : Type 0} → A → Result A DataError
ok_as a = Ok a

-- a refused call
pub refused_call : (b : DownloadsTold) (before : SinkTold) (info : XetFileInfo)
    (range : Result (Option FileRange) DataError) (answer : Result (UniqueID × ℕ) DataError) (e : DataError)
    → refusal_of b range info ≡ Some e → answer ≡ Err e → DownloadToWriterCall b b before before info range answer
refused_call b before info range answer e is was = record {
  refused = λ f again. (was ∙ ap error_as (same_some e f (sym is ∙ again)), (refl, refl));
  runs = λ none. absurd (grind (arith, is, none));
}

-- ---- begins

-- where a begin isn't refused the text is a hash
hash_by : (h : Option MerkleHash) (u : Bool)
    → option_or (refused_where (is_none h) data_error.HashStringParsingFailure) (refused_where u ids_used_up) ≡ None
    → (file : MerkleHash) × (h ≡ Some file)
hash_by None u is = absurd (grind (arith, is))
hash_by (Some file) u is = (file, refl)

hash_in : (f : Bool) (range : Result (Option FileRange) DataError) (h : Option MerkleHash) (u : Bool)
    → option_or (refused_where f finalized_error) (option_or (result_err range)
    (option_or (refused_where (is_none h) data_error.HashStringParsingFailure) (refused_where u ids_used_up))) ≡ None
    → (file : MerkleHash) × (h ≡ Some file)
hash_in true range h u is = absurd (grind (arith, is))
hash_in false (Err e) h u is = absurd (grind (arith, is))
hash_in false (Ok r) h u is = hash_by h u is

-- what holds at the range holds where there is one
at_range : (P : Option FileRange → Type 0) (range : Result (Option FileRange) DataError) → P (range_in range)
    → IfOk range P
at_range P (Ok r) p = p
at_range P (Err e) p = tt

pub unbegun : (b n : DownloadsTold) (before : SinkTold) (info : XetFileInfo)
    (range : Result (Option FileRange) DataError) (answer : Result (UniqueID × ℕ) DataError) (e : DataError)
    → OpenCall b n info range (Err e) → answer ≡ Err e → DownloadToWriterCall b n before before info range answer
unbegun b n before info range answer e begin was = by_refusal (refusal_of b range info) refl
  where
    by_refusal : (o : Option DataError) → refusal_of b range info ≡ o
        → DownloadToWriterCall b n before before info range answer
    by_refusal (Some f) o =
        let told = begin.refused f o in
        let same : answer ≡ Err f = was ∙ grind (arith, told.0) in
        subst (λ m. DownloadToWriterCall b m before before info range answer) (sym told.1)
        (refused_call b before info range answer f o same)
    by_refusal None o =
        let hash = hash_in b.finalized range (hash_of_text info.hash) (b.ids == 2 ^ 64 - 1) o in
        let memory : answer ≡ Err data_error.OutOfMemory = was ∙ ap error_as (begin.memory o) in
        let drew = begin.begun o in
        subst (λ m. DownloadToWriterCall b m before before info range answer) (sym drew)
        (record {
          refused = λ f again. absurd (grind (arith, o, again));
          runs = λ none. at_range (λ r. Downloads WriterRun b (drawn b) before before info r answer) range (record {
            file = hash.0;
            file_is = hash.1;
            same = refl;
            id = rw memory tt;
            runs = inl (rw memory refl, refl);
          });
        })

-- ---- runs

-- the facts of an Ok
if_ok : (P Q : UniqueID × ℕ → Type 0) (answer : Result (UniqueID × ℕ) DataError)
    → ((a : UniqueID × ℕ) → P a → Q a) → IfOk answer P → IfOk answer Q
if_ok P Q (Ok a) f p = f a p
if_ok P Q (Err e) f p = tt

-- a begin that gave a job wasn't refused
pub began : (refusal : Option DataError) (b m : DownloadsTold) (info : XetFileInfo) (r : Option FileRange)
    (a : UniqueID × JobTold) → Begins refusal b m info r (Ok a) → refusal ≡ None
began None b m info r a begin = refl
began (Some e) b m info r a begin = absurd (grind (arith, (begin.refused e refl).0))

module _ (Run : LimitTold → Setup → Option ℕ → RunTold → RunTold → Result ℕ DataError → Type 0)
    (refusal : Option DataError) (b m n : DownloadsTold) (before after : SinkTold) (info : XetFileInfo)
    (r : Option FileRange) (a : UniqueID × JobTold) (begin : Begins refusal b m info r (Ok a)) where
  -- what a job that was begun did over what it was lent
  pub went : (count : Result ℕ DataError) (answer : Result (UniqueID × ℕ) DataError) (from to : RunTold)
      → from ≡ lent m before → to ≡ lent n after → Run a.1.limits (job_setup a.1) a.1.expected from to count
      → n ≡ record m { clients = n.clients; cache = n.cache } → count_of answer ≡ count
      → IfOk answer (λ x. x.0 ≡ a.0) → Downloads Run b n before after info r answer
  went count answer from to from_is to_is run kept count_is named =
      let m_is = begin.begun (began refusal b m info r a begin) in
      let job = begin.ok.1 in
      record {
        file = a.1.file;
        file_is = job.file;
        same = kept ∙ ap (λ (t : DownloadsTold). record t { clients = n.clients; cache = n.cache }) m_is;
        id = if_ok (λ x. x.0 ≡ a.0) (λ x. x.0 ≡ next_id b) answer (λ x p. p ∙ begin.ok.0) named;
        runs = rw (from_is, to_is, job.limits, job.range_is, job.config, job.expected, m_is, sym count_is) at run;
      }

-- `download_to_writer` that ran
pub wrote : (b m n : DownloadsTold) (before after : SinkTold) (info : XetFileInfo)
    (range : Result (Option FileRange) DataError) (a : UniqueID × JobTold) (answer : Result (UniqueID × ℕ) DataError)
    → OpenCall b m info range (Ok a) → Downloads WriterRun b n before after info (range_in range) answer
    → DownloadToWriterCall b n before after info range answer
wrote b m n before after info range a answer call ran =
    let none = began (refusal_of b range info) b m info (range_in range) a call in
    record {
      refused = λ f again. absurd (grind (arith, none, again));
      runs = λ o. at_range (λ r. Downloads WriterRun b n before after info r answer) range ran;
    }

-- `download_file` that ran
pub filed : (b m n : DownloadsTold) (before after : SinkTold) (info : XetFileInfo) (a : UniqueID × JobTold)
    (answer : Result (UniqueID × ℕ) DataError) → BackgroundCall b m info (Ok a)
    → Downloads FileRun b n before after info None answer → DownloadFileCall b n before after info answer
filed b m n before after info a answer call ran =
    let none = began (refusal_of b (Ok None) info) b m info None a call in
    record { refused = λ f again. absurd (grind (arith, none, again)); runs = λ o. ran }
