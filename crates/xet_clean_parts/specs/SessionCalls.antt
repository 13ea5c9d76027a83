-- The calls of its session that a cleaner makes, and the moment that it hands on.
use Rattle.std.specs.Prelude.{ℕ, ◌≡◌, ◌⊎◌, Bool, List, [], ◌∷◌, Option, Result}
use Rattle.xet_base.specs.declared.merklehash.MerkleHash.{MerkleHash}
use Rattle.xet_base.specs.declared.mdb_shard.FileDataSequenceEntry.{FileDataSequenceEntry}
use Rattle.xet_base.specs.declared.mdb_shard.Xorb.{Xorb}
use Rattle.xet_upload.specs.Waitings.{Waiting}
use Rattle.xet_upload.specs.declared.data_error.DataError.{DataError}
use Rattle.xet_upload.specs.declared.metrics.DeduplicationMetrics.{DeduplicationMetrics}
use Rattle.xet_upload_session.specs.Calls.{Queries, Registers}
use Rattle.xet_upload_session.specs.Completions.{TakesFile, with_file_counts}
use Rattle.xet_upload_session.specs.Sessions.{SessionTold}

-- a search of the stores, or a xorb that is given at this moment
abbrev pub CallsOnce : ℕ → SessionTold → SessionTold → Type 0
CallsOnce now b n = ((hashes : List MerkleHash)
    × (answer : Result (Option (ℕ × FileDataSequenceEntry × Bool)) DataError) × Queries b n hashes answer)
    ⊎ ((x : Xorb) × (answer : Result Bool DataError) × Registers b n x now answer)

-- these counts of a file's chunks were added
abbrev pub with_counts : SessionTold → DeduplicationMetrics → SessionTold
with_counts t counts = record t { metrics = with_file_counts t.metrics counts }

-- such a call, or the data of a file that is taken at this moment, or counts that are added
abbrev pub UploadsOnce : ℕ → SessionTold → SessionTold → Type 0
UploadsOnce now b n = CallsOnce now b n
    ⊎ ((w : Waiting) × (answer : Result (Unit {0}) DataError) × TakesFile b n w now answer)
    ⊎ ((counts : DeduplicationMetrics) × (n ≡ with_counts b counts))

-- calls of a kind, one after another, which leave the session as these
abbrev pub CallsAll : (SessionTold → SessionTold → Type 0) → List SessionTold → SessionTold → SessionTold → Type 0
CallsAll Once [] b n = n ≡ b
CallsAll Once (m ∷ ms) b n = Once b m × CallsAll Once ms m n

-- nothing but such calls was made
abbrev pub CallsOf : (SessionTold → SessionTold → Type 0) → SessionTold → SessionTold → Type 0
CallsOf Once b n = (after : List SessionTold) × CallsAll Once after b n

-- searches and given xorbs alone
abbrev pub Calls : ℕ → SessionTold → SessionTold → Type 0
Calls now b n = CallsOf (CallsOnce now) b n
