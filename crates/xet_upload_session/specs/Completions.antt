-- The end of a file: its data joins what waits, or one of both is cut.
use Rattle.std.specs.Prelude.{ℕ, ◌≡◌, ◌<◌, ◌≤◌, ◌⊎◌, All, Contains, None, Result, IfErr, OnOk, OnErr}
use Rattle.xet_upload.specs.Metrics.{both}
use Rattle.xet_upload.specs.Waitings.{Waiting, merged}
use Rattle.xet_upload.specs.declared.data_error.DataError.{DataError}
use Rattle.xet_upload.specs.declared.metrics.DeduplicationMetrics.{DeduplicationMetrics}
use Rattle.xet_upload_parts.specs.Storable.{IsStorable}
use Rattle.xet_upload_parts.specs.Thresholds.{FitTogether, waiting_bytes}
use Rattle.xet_upload_session.specs.Calls.{CountsSent, Cut, Keeps, PutsFail, Says}
use Rattle.xet_upload_session.specs.Sessions.{IsListed, SessionTold, waiting_names}

-- counts with those of the chunks of a file; those of what was uploaded stay
abbrev pub with_file_counts : DeduplicationMetrics → DeduplicationMetrics → DeduplicationMetrics
with_file_counts m counts = record (both m counts) {
  xorb_bytes_uploaded = m.xorb_bytes_uploaded;
  shard_bytes_uploaded = m.shard_bytes_uploaded;
  total_bytes_uploaded = m.total_bytes_uploaded;
}

-- these data wait
abbrev pub with_waiting : SessionTold → Waiting → SessionTold
with_waiting t w = record t { waiting = w }

-- a file's data joined what waits, or this was refused and nothing changed
pub record Joins (b n : SessionTold) (w : Waiting) (answer : Result (Unit {0}) DataError) : Type 0 where
  pub fits : FitTogether b.thresholds b.waiting w
  pub ok : OnOk answer (n ≡ with_waiting b (merged b.waiting w))
  pub err : OnErr answer (n ≡ b)

-- the file's data is as large as what waits, or larger: it was cut, and what waited waits on
pub record CutsFile (b n : SessionTold) (w : Waiting) (now : ℕ)
    (answer : Result (Unit {0}) DataError) : Type 0 where
  pub passes : FitTogether b.thresholds b.waiting w → ⊥
  pub larger : waiting_bytes b.waiting ≤ waiting_bytes w
  pub middle : SessionTold
  pub cut : Cut (with_waiting b w) middle now answer
  pub same : n ≡ with_waiting middle b.waiting

-- what waits is larger: it was cut, and then the file's data waits
pub record CutsWaiting (b n : SessionTold) (w : Waiting) (now : ℕ)
    (answer : Result (Unit {0}) DataError) : Type 0 where
  pub passes : FitTogether b.thresholds b.waiting w → ⊥
  pub larger : waiting_bytes w < waiting_bytes b.waiting
  pub middle : SessionTold
  pub cut : Cut b middle now answer
  pub ok : OnOk answer (n ≡ with_waiting middle w)
  pub err : OnErr answer (n ≡ middle)

-- the data of a file was taken, whose xorbs are on the list, and of which a xorb can be stored
pub record TakesFile (b n : SessionTold) (w : Waiting) (now : ℕ)
    (answer : Result (Unit {0}) DataError) : Type 0 where
  pub keeps : Keeps b n
  pub storable : IsStorable w.chunks
  pub listed : All (Contains b.listed) (waiting_names w.files) → IsListed b → n.failed ≡ None → IsListed n
  pub exits : Joins b n w answer ⊎ CutsFile b n w now answer ⊎ CutsWaiting b n w now answer
  pub counts : CountsSent b n
  pub unfailed : OnOk answer (n.failed ≡ b.failed)
  pub said : b.failed ≡ None → Says n answer
  pub why : IfErr answer (PutsFail b n)
