-- What the steps of a session change.
use Rattle.std.specs.Prelude.{ℕ, ◌≡◌, ◌+◌, ◌-◌, ◌^◌, ◌⊎◌, ◌<◌, ◌≤◌, min, Bool, true, cond, List, [], ◌∷◌, ◌++◌, length}
use Rattle.std.specs.Prelude.{map, Contains, None, is_some, option_map, Result, Ok, OnOk, OnErr, IfOk, IfErr}
use Rattle.xet_base.specs.declared.error.OutOfMemory.{OutOfMemory}
use Rattle.xet_base.specs.declared.merklehash.MerkleHash.{MerkleHash}
use Rattle.xet_base.specs.declared.mdb_shard.Xorb.{Xorb}
use Rattle.xet_base.specs.declared.mdb_shard.MDBXorbInfo.{MDBXorbInfo}
use Rattle.xet_base.specs.declared.mdb_shard.MDBFileInfo.{MDBFileInfo}
use Rattle.xet_base.specs.Records.{Describes}
use Rattle.xet_outside.specs.Told.{Grew}
use Rattle.xet_uploader.specs.declared.uploader.Put.TheVariants as put
use Rattle.xet_progress_state.specs.declared.step.TrackerStep.{TrackerStep}
use Rattle.xet_progress_state.specs.declared.step.TrackerStep.TheVariants.{RegisterXorbUploadCompletion}
use Rattle.xet_shards.specs.Shards.{with_records}
use Rattle.xet_shard_interface.specs.Puts.{PutFailed}
use Rattle.xet_upload.specs.Waitings.{no_waiting, record_of_file, xorb_of_chunks}
use Rattle.xet_upload.specs.declared.data_error.DataError.{DataError}
use Rattle.xet_upload.specs.declared.metrics.DeduplicationMetrics.{DeduplicationMetrics}
use Rattle.xet_waiting.specs.declared.raw_xorb.PendingFile.{PendingFile}
use Rattle.xet_waiting.specs.declared.raw_xorb.RawXorbData.{RawXorbData}
use Rattle.xet_upload_session.specs.Calls.{CountsSent, Keeps, NoQueries, PutsFail, Recorded, RegisterStopped, Says}
use Rattle.xet_upload_session.specs.Calls.{WasPut, WasRefused, one_xorb, waiting_hash}
use Rattle.xet_upload_session.specs.Calls.{xorb_bytes}
use Rattle.xet_upload_session.specs.Sessions.{IsListed, SessionTold, Tells, log_of}
use Rattle.xet_upload_session.specs.Trackings.{CountsPut, own_part}
use Rattle.xet_upload_parts.specs.TrackerCalls.{with_call}
use Rattle.xet_upload_parts.specs.CutNotes.{part_of}
use Rattle.xet_upload_parts.specs.HashLists.{has}

-- so many bytes of a xorb more
abbrev pub with_sent : DeduplicationMetrics → ℕ → DeduplicationMetrics
with_sent m n = record m { xorb_bytes_uploaded = min (m.xorb_bytes_uploaded + n) (2 ^ 64 - 1) }

-- the put of one xorb: its hash comes onto the lists and its bytes are counted, or the failure is kept
pub record PutRaw (b n : SessionTold) (x : Xorb) (answer : Result (Unit {0}) DataError) : Type 0 where
  pub tells : Tells b → Tells n
  pub sent : ℕ
  pub ok : OnOk answer (n ≡ record b {
    uploader = n.uploader;
    listed = b.listed ++ x.hash ∷ [];
    registered = b.registered ++ x.hash ∷ [];
    metrics = with_sent b.metrics sent;
  })
  pub bytes : Tells b → OnOk answer (sent ≡ min (xorb_bytes x) (2 ^ 64 - 1))
  pub err : OnErr answer (n ≡ record b { uploader = n.uploader; failed = n.failed })
  pub grew : OnOk answer (Grew b.uploader.puts n.uploader.puts (put.Xorb x))
  pub put : Tells b → OnOk answer (log_of n ≡ log_of b ++ put.Xorb x ∷ [])
  pub queries : NoQueries b n
  pub unput : OnErr answer (log_of n ≡ log_of b)
  pub unfailed : b.failed ≡ None
  pub faults : b.uploader.faults ≤ n.uploader.faults
  pub steady : OnOk answer (n.uploader.faults ≡ b.uploader.faults)
  pub failed : IfErr answer (PutFailed b.uploader n.uploader n.failed)

-- the waiting data was taken as a xorb with its record, and files with theirs
pub record TookWaiting (b n : SessionTold) (answer : Result (RawXorbData × List PendingFile) OutOfMemory) : Type 0 where
  pub ok : OnOk answer (n ≡ record b { waiting = no_waiting })
  pub err : OnErr answer (n ≡ b)
  pub xorb : IfOk answer (λ r. r.0.xorb ≡ xorb_of_chunks b.waiting.chunks)
  pub describes : IfOk answer (λ r. Describes r.0.xorb_info r.0.xorb)
  pub files : IfOk answer (λ r. map (λ p. p.info) r.1 ≡ map (record_of_file (waiting_hash b)) b.waiting.files)
  pub parts : IfOk answer (λ r. map (part_of (waiting_hash b)) r.1 ≡ map (own_part (waiting_hash b)) b.waiting.files)

-- the records of the session are as they were, or one of a xorb came behind them
abbrev pub MaybeAdded : SessionTold → SessionTold → MDBXorbInfo → Type 0
MaybeAdded b n x = (n.shards.session.records ≡ b.shards.session.records)
    ⊎ (n.shards.session.records ≡ option_map (λ r. with_records r (one_xorb x)) b.shards.session.records)

-- a record of a xorb was added to those of the session, and was kept for staging or not
pub record AddedRecord (b n : SessionTold) (x : MDBXorbInfo) (now : ℕ)
    (answer : Result (Unit {0}) DataError) : Type 0 where
  pub same : n ≡ record b { shards = n.shards }
  pub recorded : Recorded b.shards n.shards x now answer

-- a xorb was put and its files are finished, or its put failed
pub record PutFinished (b n : SessionTold) (x : Xorb) (fs : List MDBFileInfo) (now : ℕ)
    (answer : Result (Unit {0}) DataError) : Type 0 where
  pub keeps : Keeps b n
  pub ok : OnOk answer (WasPut b n x fs now answer)
  pub err : OnErr answer (WasRefused b n ⊎ WasPut b n x fs now answer)
  pub said : Says n answer
  pub counts : CountsSent b n
  pub why : IfErr answer (PutsFail b n)

-- a given xorb was put, or it was refused
pub record PutGiven (b n : SessionTold) (x : Xorb) (now : ℕ) (answer : Result (Unit {0}) DataError) : Type 0 where
  pub keeps : Keeps b n
  pub listed : IsListed b → n.failed ≡ None → IsListed n
  pub ok : OnOk answer (WasPut b n x [] now (Ok tt))
  pub err : IfErr answer (RegisterStopped b n x now)
  pub said : b.failed ≡ None → Says n answer
  pub counts : CountsSent b n
  pub why : IfErr answer (PutsFail b n)

-- the xorb is on the list, which has it more at its end or is as it was
pub record OnList (b n : SessionTold) (x : MerkleHash) : Type 0 where
  pub is_there : Contains n.listed x
  pub same : (n ≡ b) ⊎ (n ≡ record b { listed = b.listed ++ x ∷ [] })
  pub once : Contains b.listed x → n ≡ b

-- a xorb with chunks is told as one that was not put
pub record Repeats (b n : SessionTold) (x : Xorb) : Type 0 where
  pub same : n ≡ record b { repeated = n.repeated }
  pub some : 0 < length x.chunks → n.repeated ≡ b.repeated ++ x ∷ []
  pub none : length x.chunks ≡ 0 → n.repeated ≡ b.repeated

-- a xorb was put and is counted as complete, or its put failed and the tracker is as before
pub record PutCounted (b n : SessionTold) (told after : List TrackerStep) (h : MerkleHash)
    (answer : Result (Unit {0}) DataError) : Type 0 where
  pub ok : OnOk answer ((n.registered ≡ b.registered ++ h ∷ [])
      × (after ≡ with_call told (RegisterXorbUploadCompletion h)))
  pub err : OnErr answer (((n.registered ≡ b.registered ++ h ∷ []) × CountsPut told after h answer)
      ⊎ ((n.registered ≡ b.registered) × (is_some n.failed ≡ true) × (after ≡ told)))

-- a given xorb is counted as complete where it is new; a failure of its put leaves the tracker
pub record GivenCounted (b n : SessionTold) (told after : List TrackerStep) (x : Xorb)
    (answer : Result Bool DataError) : Type 0 where
  pub ok : OnOk answer (after ≡ cond (has x.hash b.registered) told
      (with_call told (RegisterXorbUploadCompletion x.hash)))
  pub unput : OnErr answer (n.registered ≡ b.registered → after ≡ told)
  pub put : n.registered ≡ b.registered ++ x.hash ∷ [] → CountsPut told after x.hash answer
  pub failed : OnErr answer (0 < length x.chunks → n.registered ≡ b.registered → is_some n.failed ≡ true)
