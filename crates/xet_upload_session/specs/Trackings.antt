-- What the tracker of a session is told, and when it refuses it.
use Rattle.std.specs.Prelude.{ℕ, ◌≡◌, ◌+◌, ◌-◌, ◌^◌, ◌⊎◌, ◌<◌, ◌≤◌, min, Bool, true, false, cond, ltb, List, [], ◌∷◌}
use Rattle.std.specs.Prelude.{◌++◌, length, map, take, Contains, Option, Some, None, is_some, Result, Err, IfOk, IfErr}
use Rattle.std.specs.Prelude.{OnOk, OnErr}
use Rattle.std.specs.List.{filter, sum_by}
use Rattle.xet_base.specs.declared.invalid.Invalid.{Invalid}
use Rattle.xet_base.specs.declared.invalid.Invalid.TheVariants as invalid
use Rattle.xet_base.specs.declared.item_id.UniqueID.{UniqueID}
use Rattle.xet_base.specs.declared.merklehash.MerkleHash.{MerkleHash}
use Rattle.xet_base.specs.declared.mdb_shard.Xorb.{Xorb}
use Rattle.xet_progress_state.specs.Counts.{sizes}
use Rattle.xet_progress_state.specs.declared.step.FileXorbDependency.{FileXorbDependency}
use Rattle.xet_progress_state.specs.declared.step.TrackerStep.{TrackerStep}
use Rattle.xet_progress_state.specs.declared.step.TrackerStep.TheVariants.{RegisterDependencies, RegisterNewFile}
use Rattle.xet_progress_state.specs.declared.step.TrackerStep.TheVariants.{RegisterNewXorb}
use Rattle.xet_progress_state.specs.declared.step.TrackerStep.TheVariants.{RegisterXorbUploadCompletion}
use Rattle.xet_upload.specs.Waitings.{Waiting, own_bytes}
use Rattle.xet_upload.specs.declared.data_error.DataError.{DataError}
use Rattle.xet_upload.specs.declared.data_error.DataError.TheVariants as data_error
use Rattle.xet_waiting.specs.declared.waiting.WaitingFile.{WaitingFile}
use Rattle.xet_upload_parts.specs.TrackerCalls.{CalledSome, with_call, with_calls}
use Rattle.xet_upload_session.specs.Calls.{finalized_error, waiting_hash, xorb_bytes}
use Rattle.xet_upload_parts.specs.Thresholds.{FitTogether, waiting_bytes}
use Rattle.xet_upload_session.specs.Completions.{with_waiting}
use Rattle.xet_upload_session.specs.Sessions.{SessionTold}
use Rattle.xet_upload_parts.specs.HashLists.{has}
pub use Rattle.xet_upload_parts.specs.Tracked.{IsRefusal, Tracks, first_refusal, xorb_calls}

-- ---- a given xorb

-- what the tracker is told of a given xorb by a call that answers Ok: the same, and then that the xorb is complete,
-- where none of its hash was put before
abbrev pub all_xorb_calls : List MerkleHash → Xorb → List FileXorbDependency → List TrackerStep
all_xorb_calls registered x ds = xorb_calls registered x ds
    ++ cond (has x.hash registered) [] (RegisterXorbUploadCompletion x.hash ∷ [])

-- a xorb that was put is counted as complete, but where memory for that was refused
abbrev pub CountsPut : {A : Type 0} → List TrackerStep → List TrackerStep → MerkleHash → Result A DataError → Type 0
CountsPut told after h answer = (after ≡ with_call told (RegisterXorbUploadCompletion h))
    ⊎ ((answer ≡ Err data_error.OutOfMemory) × (after ≡ told))

-- what the tracker is told of a given xorb: all of it on Ok, and on an error that it is complete only where it was put
pub record TracksXorb {A : Type 0} (b n : SessionTold) (before after : List TrackerStep) (x : Xorb)
    (ds : List FileXorbDependency) (answer : Result A DataError) : Type 0 where
  pub told : List TrackerStep
  pub count : ℕ
  pub accepted : told ≡ before ++ take count (xorb_calls b.registered x ds)
  pub ok : OnOk answer ((first_refusal before (xorb_calls b.registered x ds) ≡ None)
      × (after ≡ before ++ all_xorb_calls b.registered x ds))
  pub unput : OnErr answer (n.registered ≡ b.registered → after ≡ told)
  pub put : n.registered ≡ b.registered ++ x.hash ∷ []
      → (told ≡ before ++ xorb_calls b.registered x ds) × CountsPut told after x.hash answer
  pub refused : b.failed ≡ None → is_some n.failed ≡ true → told ≡ before ++ xorb_calls b.registered x ds
  pub again : OnErr answer (0 < length x.chunks → n.registered ≡ b.registered → n.failed ≡ None
      → (after ≡ before) ⊎ (after ≡ before ++ RegisterNewXorb x.hash (xorb_bytes x) ∷ []))
  pub kept : is_some b.failed ≡ true → 0 < length x.chunks → (Contains b.registered x.hash → ⊥) → after ≡ before
  pub ended : b.finalized ≡ true → after ≡ before
  pub err : IfErr answer (λ e. (why : Invalid) → e ≡ data_error.InvalidOperation why
      → ((e ≡ finalized_error) × (b.finalized ≡ true))
      ⊎ ((b.finalized ≡ false) × (first_refusal before (xorb_calls b.registered x ds) ≡ Some why)))

-- ---- a cut

-- what a waiting file has in the xorb that the waiting chunks become
abbrev pub own_part : MerkleHash → WaitingFile → FileXorbDependency
own_part h f = record {
  file_id = f.file_id;
  xorb_hash = h;
  n_bytes = min (sum_by (λ t. own_bytes t.xorb t.bytes) f.terms) (2 ^ 64 - 1);
  is_external = false;
}

-- the same of each file that has something in it
abbrev pub own_parts : MerkleHash → List WaitingFile → List FileXorbDependency
own_parts h fs = filter (λ d. ltb 0 d.n_bytes) (map (own_part h) fs)

-- the tracker is told of the xorb that is cut, and then of what its files have in it
abbrev pub cut_calls : SessionTold → List TrackerStep
cut_calls b = RegisterNewXorb (waiting_hash b) (waiting_bytes b.waiting)
    ∷ RegisterDependencies (own_parts (waiting_hash b) b.waiting.files) ∷ []

-- what the tracker is told of a cut, in which a refusal changes nothing: all on Ok where the xorb was put, and that it
-- is complete only then
pub record TracksCut {A : Type 0} (b n : SessionTold) (before after : List TrackerStep)
    (answer : Result A DataError) : Type 0 where
  pub told : List TrackerStep
  pub some : CalledSome before told (cut_calls b)
  pub all : OnOk answer (n.registered ≡ b.registered ++ waiting_hash b ∷ [] → told ≡ with_calls before (cut_calls b))
  pub unput : n.registered ≡ b.registered → after ≡ told
  pub put : n.registered ≡ b.registered ++ waiting_hash b ∷ [] → CountsPut told after (waiting_hash b) answer
  pub kept : is_some b.failed ≡ true → after ≡ before
  pub empty : b.waiting.chunks ≡ [] → after ≡ before

-- what the tracker is told at the end of a file: nothing where its data joins what waits, else what is told of the cut
pub record TracksFile (b n : SessionTold) (w : Waiting) (before after : List TrackerStep)
    (answer : Result (Unit {0}) DataError) : Type 0 where
  pub joins : FitTogether b.thresholds b.waiting w → after ≡ before
  pub cuts_file : (FitTogether b.thresholds b.waiting w → ⊥) → waiting_bytes b.waiting ≤ waiting_bytes w
      → TracksCut (with_waiting b w) n before after answer
  pub cuts_waiting : (FitTogether b.thresholds b.waiting w → ⊥) → waiting_bytes w < waiting_bytes b.waiting
      → TracksCut b n before after answer

-- ---- files

-- the source of ids has none left
abbrev pub ids_used_up : DataError
ids_used_up = data_error.InvalidOperation invalid.IdsUsedUp

-- a file was begun: it has the next id, and the number that the tracker gives it; an id is drawn at each exit, but
-- where the session is finalized or none is left
pub record StartsFile (before after : List TrackerStep) (next_id later_id : ℕ) (ended : Bool) (size : Option ℕ)
    (answer : Result (UniqueID × ℕ) DataError) : Type 0 where
  pub finalized : ended ≡ true → (answer ≡ Err finalized_error) × (after ≡ before) × (later_id ≡ next_id)
  pub used_up : ended ≡ false → next_id ≡ 2 ^ 64 - 1 → (answer ≡ Err ids_used_up) × (after ≡ before)
  pub tracks : ended ≡ false → (next_id ≡ 2 ^ 64 - 1 → ⊥) → Tracks before after (RegisterNewFile size ∷ []) answer
  pub id : IfOk answer (λ r. (r.0 ≡ record { 0 = next_id }) × (later_id ≡ next_id + 1))
  pub drawn : ended ≡ false → (next_id ≡ 2 ^ 64 - 1 → ⊥) → later_id ≡ next_id + 1
  pub undrawn : next_id ≡ 2 ^ 64 - 1 → later_id ≡ next_id
  pub number : IfOk answer (λ r. r.1 ≡ length (sizes before))
