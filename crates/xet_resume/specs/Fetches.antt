-- What one call of `fetch_range` says.
use Rattle.std.specs.Prelude.{ℕ, ◌≡◌, ◌≢◌, ◌⊎◌, ◌+◌, ◌-◌, ◌≤◌, true, List, [], ◌∷◌, length, None, Some, Option, All}
use Rattle.std.specs.Prelude.{IfOk, IfErr, IfSome, OnOk, Result, Ok, Err}
use Rattle.xet_base.specs.declared.cas_types.FileRange.{FileRange}
use Rattle.xet_base.specs.Store.{Store, bytes_of}
use Rattle.xet_outside.specs.Places.{before_place}
use Rattle.xet_outside.specs.Told.{ClientTold, Query, SinkTold, Took}
use Rattle.xet_error.specs.declared.error.FileReconstructionError.TheVariants as error
use Rattle.xet_error.specs.declared.error.Setting.{Setting}
use Rattle.xet_terms.specs.declared.reconstruction_config.ReconstructionConfig.{ReconstructionConfig}
use Rattle.xet_ties.specs.Causes.{refused_setting}
use Rattle.xet_ties.specs.InCall.{new_in}
use Rattle.xet_ties.specs.LegalWords.{CacheGoesOn, SignalGoesOn}
use Rattle.xet_ties.specs.Setup.{CacheTells, EachGoesOn, IsOver, RunTold, setup_of}
use Rattle.xet_gaps.specs.Gaps.{Gaps, is_missing, less, missing_bytes, parts_of}
use Rattle.xet_resume.specs.declared.resume_error.ResumeError.{ResumeError}
use Rattle.xet_resume.specs.declared.resume_error.ResumeError.TheVariants as resume_error
use Rattle.xet_resume.specs.Fills.{Fills}
use Rattle.xet_resume.specs.Holding.{HoldTold}

-- the error of an answer
abbrev pub stop_of : Result ℕ ResumeError → Option ResumeError
stop_of (Ok n) = None
stop_of (Err e) = Some e

-- ---- the record

-- all bytes that the file took were counted: on Ok, and with each error but want of memory and the file's
abbrev pub CountsAll : Option ResumeError → Type 0
CountsAll None = Unit {0}
CountsAll (Some resume_error.OutOfMemory) = ⊥
CountsAll (Some (resume_error.Run e)) = e ≢ error.IoError
CountsAll (Some (resume_error.Short expected actual)) = Unit {0}

-- a file took so many bytes
abbrev pub TookCount : SinkTold → SinkTold → ℕ → Type 0
TookCount before after n = (bytes : List ℕ) × Took before.took after.took bytes × (length bytes ≡ n)

-- the gaps lose the range up to the place that was reached, and nothing else changes
pub record Marks (range : FileRange) (reached : ℕ) (old new : Gaps) (before after : SinkTold)
    (answer : Result ℕ ResumeError) : Type 0 where
  pub marked : new ≡ record old { gaps = less old.gaps (record { start = range.start; end = reached }) }
  -- on Ok exactly the whole range, and the answer counts the bytes that were missing before and aren't now
  pub whole : OnOk answer (new.gaps ≡ less old.gaps range)
  pub counted : IfOk answer (λ n. n + missing_bytes new.gaps ≡ missing_bytes old.gaps)
  -- and but for two errors these are all that the file took
  pub all_taken : CountsAll (stop_of answer)
      → TookCount before after (missing_bytes old.gaps - missing_bytes new.gaps)

-- ---- queries

-- a query for the file starts at a byte that was missing
abbrev pub StartsMissing : Gaps → Query → Type 0
StartsMissing g q = (q.0 ≡ g.file) × (is_missing q.1.start g.gaps ≡ true)

-- so does each that the first connection was asked in the call, where it tells them
abbrev pub FirstStarts : Gaps → List ClientTold → List ClientTold → Type 0
FirstStarts g [] ns = Unit {0}
FirstStarts g (b ∷ bs) [] = ⊥
FirstStarts g (b ∷ bs) (n ∷ ns) = IfSome (new_in b.asked n.asked) (All (StartsMissing g))

-- ---- the call

-- a short part, over connections and a cache that tell one valid store: its file has another length
abbrev pub ShortTells : Gaps → RunTold → ResumeError → Type 0
ShortTells g told (resume_error.Short expected actual) =
    (s : Store) → IsOver s told.clients → CacheTells s told.cache → length (bytes_of s g.file) ≡ g.length_is → ⊥
ShortTells g told e = Unit {0}

-- connections and cache go on telling what they told, no count falls, and the file writes through what it did
pub record GoesOn (before after : RunTold) : Type 0 where
  pub goes_on : EachGoesOn before.clients after.clients
  pub cache_later : (s : Store) → IsOver s before.clients → CacheTells s before.cache → CacheTells s after.cache
  pub signal_later : SignalGoesOn before.signal after.signal
  pub counts_later : CacheGoesOn before.cache after.cache
  pub sink_later : before.sink.faults ≤ after.sink.faults
  pub link : before_place after.sink.link ≡ before_place before.sink.link

-- nothing was asked, and this was answered
pub record AskedNothing (range : FileRange) (reached : ℕ) (before after : RunTold) (answer : Result ℕ ResumeError)
    (e : ResumeError) : Type 0 where
  pub answered : answer ≡ Err e
  pub same : after ≡ before
  pub none : reached ≡ range.start

-- one call
pub record FetchCall (config : ReconstructionConfig) (range : FileRange) (old new : Gaps) (before after : RunTold)
    (answer : Result ℕ ResumeError) : Type 0 where
  -- a failing setting is told before all else
  pub settings : (e : Setting) → refused_setting (setup_of old.file range config) before.clients ≡ Some e
      → (answer ≡ Err (resume_error.Run (error.ConfigurationError e))) × (new ≡ old) × (after ≡ before)
  -- how far the range was read
  pub reached : ℕ
  pub marks : Marks range reached old new before.sink after.sink answer
  -- each part was read by a run of its own, whose answer is legal; or memory for the record was wanting, or a setting
  -- failed, and nothing was asked
  pub fills : Fills config old.file (parts_of old.gaps range) range.end before after reached (stop_of answer)
      ⊎ AskedNothing range reached before after answer resume_error.OutOfMemory
      ⊎ ((e : Setting) × (refused_setting (setup_of old.file range config) before.clients ≡ Some e)
      × AskedNothing range reached before after answer (resume_error.Run (error.ConfigurationError e)))
  -- over connections and a cache that tell one valid store a file that holds what isn't missing goes on so, whatever
  -- the answer
  pub holds : (s : Store) → IsOver s before.clients → CacheTells s before.cache → HoldTold old s before
      → HoldTold new s after
  -- only missing bytes are asked for
  pub asked : FirstStarts old before.clients after.clients
  pub short : IfErr answer (ShortTells old before)
  pub later : GoesOn before after
