-- What a cleaner tells the tracker of its session, and what the tracker refuses of it.
use Rattle.std.specs.Prelude.{ℕ, ◌≡◌, ◌⊎◌, Bool, true, List, [], ◌∷◌, ◌++◌, take, All, Option, None, Some, Result}
use Rattle.std.specs.Prelude.{IfErr}
use Rattle.xet_base.specs.declared.invalid.Invalid.{Invalid}
use Rattle.xet_progress_state.specs.declared.step.TrackerStep.{TrackerStep}
use Rattle.xet_progress_state.specs.declared.step.TrackerStep.TheVariants.{IncrementFileSize, RegisterDependencies}
use Rattle.xet_progress_state.specs.declared.step.TrackerStep.TheVariants.{RegisterNewFile, RegisterNewXorb}
use Rattle.xet_progress_state.specs.declared.step.TrackerStep.TheVariants.{RegisterXorbUploadCompletion}
use Rattle.xet_upload.specs.declared.data_error.DataError.{DataError}
use Rattle.xet_upload.specs.declared.data_error.DataError.TheVariants as data_error
use Rattle.xet_upload_session.specs.Calls.{finalized_error}
use Rattle.xet_upload_session.specs.Trackings.{first_refusal}

-- a call that tells what the file of this number has in xorbs, or of a xorb
abbrev pub IsPartOf : ℕ → TrackerStep → Type 0
IsPartOf file (RegisterDependencies ds) = All (λ d. d.file_id ≡ file) ds
IsPartOf file (RegisterNewXorb h n) = Unit {0}
IsPartOf file (RegisterXorbUploadCompletion h) = Unit {0}
IsPartOf file _ = ⊥

-- such a call, or the one by which the file grows by so many bytes, where its size isn't fixed
abbrev pub IsFor : ℕ → Option ℕ → ℕ → TrackerStep → Type 0
IsFor file size bytes (IncrementFileSize f n) = (f ≡ file) × (n ≡ bytes) × (size ≡ None)
IsFor file size bytes call = IsPartOf file call

-- a call that tells of a xorb, or what files have in xorbs
abbrev pub IsXorbCall : TrackerStep → Type 0
IsXorbCall (RegisterNewXorb h n) = Unit {0}
IsXorbCall (RegisterDependencies ds) = Unit {0}
IsXorbCall (RegisterXorbUploadCompletion h) = Unit {0}
IsXorbCall _ = ⊥

-- such a call, or the begin of a file of a fixed size
abbrev pub IsUploadCall : TrackerStep → Type 0
IsUploadCall (RegisterNewFile (Some size)) = Unit {0}
IsUploadCall call = IsXorbCall call

-- what the tracker is given at once: one call of the kind, or a new xorb and then parts in it
abbrev pub AreGiven : (TrackerStep → Type 0) → List TrackerStep → Type 0
AreGiven Kind (RegisterNewFile size ∷ []) = Kind (RegisterNewFile size)
AreGiven Kind (IncrementFileSize f n ∷ []) = Kind (IncrementFileSize f n)
AreGiven Kind (RegisterDependencies ds ∷ []) = Kind (RegisterDependencies ds)
AreGiven Kind (RegisterNewXorb h n ∷ RegisterDependencies ds ∷ []) = Kind (RegisterDependencies ds)
AreGiven Kind _ = ⊥

-- the tracker refuses one of these calls, which came last: all that it accepted came before, or is the front of them
pub record RefusesFor (Kind : TrackerStep → Type 0) (before after : List TrackerStep) (why : Invalid) : Type 0 where
  pub told : List TrackerStep
  pub calls : List TrackerStep
  pub are : AreGiven Kind calls
  pub count : ℕ
  pub accepted : after ≡ (before ++ told) ++ take count calls
  pub refusal : first_refusal (before ++ told) calls ≡ Some why

-- an invalid operation is an error of the cleaner's own, or the tracker refuses a call of the kind
abbrev pub RefusedOf : {A : Type 0} → (TrackerStep → Type 0) → (DataError → Type 0) → List TrackerStep
    → List TrackerStep → Result A DataError → Type 0
RefusedOf Kind own before after answer = IfErr answer (λ e. (why : Invalid) → e ≡ data_error.InvalidOperation why
    → own e ⊎ RefusesFor Kind before after why)

-- the tracker accepted calls of the kind alone; an invalid operation is an error of the cleaner's own, or is refused
-- by the tracker
pub record TellsOf {A : Type 0} (Kind : TrackerStep → Type 0) (own : DataError → Type 0)
    (before after : List TrackerStep) (answer : Result A DataError) : Type 0 where
  pub calls : List TrackerStep
  pub accepted : after ≡ before ++ calls
  pub are : All Kind calls
  pub refused : RefusedOf Kind own before after answer

-- the call by which a file grows by so many bytes, where its size isn't fixed
abbrev pub growth : ℕ → Option ℕ → ℕ → List TrackerStep
growth file None bytes = IncrementFileSize file bytes ∷ []
growth file (Some size) bytes = []

-- the tracker was told that the file grows by so many bytes, where its size isn't fixed, and then of parts alone
pub record GrowsFirst (file : ℕ) (size : Option ℕ) (bytes : ℕ) (before after : List TrackerStep) : Type 0 where
  pub parts : List TrackerStep
  pub accepted : after ≡ (before ++ growth file size bytes) ++ parts
  pub are_parts : All (IsPartOf file) parts

-- the session is finalized, and the error says so
abbrev pub IsLate : Bool → DataError → Type 0
IsLate finalized e = (e ≡ finalized_error) × (finalized ≡ true)
