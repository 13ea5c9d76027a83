-- A cleaner, what it stands for, and what its calls do.
use Rattle.std.specs.Prelude.{ℕ, ◌≡◌, ◌+◌, ◌-◌, ◌<◌, ◌^◌, ◌⊎◌, Bool, true, false, List, [], ◌∷◌, ◌++◌, length}
use Rattle.std.specs.Prelude.{Option, Some, None, IfSome, unwrap_or, Result, Ok, Err, IfOk, IfErr, OnOk, OnErr}
use Rattle.std.specs.List.{concat}
use Rattle.std.specs.Option.{option_or}
use Rattle.sha2.specs.Hashers.{Holds256}
use Rattle.sha2.specs.declared.Sha256.{Sha256}
use Rattle.xet_base.specs.declared.invalid.Invalid.TheVariants as invalid
use Rattle.xet_base.specs.declared.merklehash.MerkleHash.{MerkleHash}
use Rattle.xet_base.specs.Digests.{file_hash_of, infos_of}
use Rattle.xet_base.specs.Store.{Store}
use Rattle.xet_pointer.specs.declared.xet_file_info.XetFileInfo.{XetFileInfo}
use Rattle.xet_progress_state.specs.declared.step.TrackerStep.{TrackerStep}
use Rattle.xet_upload.specs.FileDatas.{Parts, PartsStand, no_parts}
use Rattle.xet_upload.specs.Metrics.{both, no_counts}
use Rattle.xet_upload.specs.Standing.{world}
use Rattle.xet_upload.specs.Waitings.{IsWithin}
use Rattle.xet_upload.specs.declared.data_error.DataError.{DataError}
use Rattle.xet_upload.specs.declared.data_error.DataError.TheVariants as data_error
use Rattle.xet_upload.specs.declared.metrics.DeduplicationMetrics.{DeduplicationMetrics}
use Rattle.xet_upload.specs.declared.sha256_policy.Sha256Policy.{Sha256Policy}
use Rattle.xet_upload.specs.declared.sha256_policy.Sha256Policy.TheVariants.{Compute}
use Rattle.xet_upload_session.specs.Calls.{Backs, CountsSent, Keeps, Says, finalized_error}
use Rattle.xet_upload_session.specs.Completions.{with_file_counts}
use Rattle.xet_upload_session.specs.Sessions.{HasListed, SessionTold, Tells, log_of}
use Rattle.xet_clean_parts.specs.Cleanings.{AreNamed, ChunkFails, CleanFails, Cleans, Leaves, NoFault}
use Rattle.xet_clean_parts.specs.FileCalls.{GrowsFirst, IsFor, IsLate, TellsOf}
use Rattle.xet_clean_parts.specs.Made.{CutInto, IsPickedFrom, PutsInTurn, PutsLast, PutsMade, PutsNone, PutsSo}
use Rattle.xet_clean_parts.specs.Made.{PutsSome, PutsToEnd, StayOne}
use Rattle.xet_clean_parts.specs.Places.{CutAt, CutBy, IsCutUp, IsNextCut, Telling}
use Rattle.xet_clean_parts.specs.Premises.{HashesAgree, IsOpen, IsSteady, NoClash}
use Rattle.xet_clean_parts.specs.SessionCalls.{Calls}
use Rattle.xet_clean_parts.specs.Cleanings.{IsFirstUnlisted}
use Rattle.xet_clean_parts.specs.Pointers.{pointer_to, recorded_sha256}
use Rattle.xet_clean.specs.Records.{CleanedFile, HasRecord}

-- a cleaner, of whose cutter is seen what it tells
pub record Cleaner : Type 0 where
  pub file_id : ℕ
  pub size : Option ℕ
  pub policy : Sha256Policy
  pub tell : Telling
  -- what was cut
  pub parts : Parts
  -- the bytes that were not cut yet
  pub pending : List ℕ
  pub hasher : Sha256
  -- how many bytes were fed
  pub fed : ℕ
  pub counts : DeduplicationMetrics
  -- the first error of `add_data`
  pub failed : Option DataError

-- the cleaner counts these bytes, and its hasher holds them where SHA-256 is computed
pub record IsFed (c : Cleaner) (bytes : List ℕ) : Type 0 where
  pub count : c.fed ≡ length bytes
  pub hashed : c.policy ≡ Compute → Holds256 c.hasher bytes

-- over a store, the cleaner stands for these bytes, which are those that were fed
pub record CleanerStands (s : Store) (c : Cleaner) (bytes : List ℕ) : Type 0 where
  pub front : List ℕ
  pub parts : PartsStand s c.parts front
  pub bytes_are : bytes ≡ front ++ c.pending
  pub fed : IsFed c bytes

-- a cleaner to which nothing was fed
pub record IsNewCleaner (c : Cleaner) (size : Option ℕ) (policy : Sha256Policy) (tell : Telling) : Type 0 where
  pub size_is : c.size ≡ size
  pub policy_is : c.policy ≡ policy
  pub tell_is : c.tell ≡ tell
  pub parts : c.parts ≡ no_parts
  pub pending : c.pending ≡ []
  pub fed : c.fed ≡ 0
  pub counts : c.counts ≡ no_counts
  pub failed : c.failed ≡ None
  pub stands : (s : Store) → CleanerStands s c []

-- the answer of a call that begins a file, of which only the numbers are looked at
abbrev pub started : {A B : Type 0} → (A → B) → Result A DataError → Result B DataError
started f (Ok a) = Ok (f a)
started f (Err e) = Err e

-- ---- feeding

-- the counts of a chunk of so many bytes
abbrev pub chunk_counts : ℕ → Bool → DeduplicationMetrics
chunk_counts n true = record no_counts { total_bytes = n; deduped_bytes = n; total_chunks = 1; deduped_chunks = 1 }
chunk_counts n false = record no_counts { total_bytes = n; new_bytes = n; total_chunks = 1; new_chunks = 1 }

-- counts with those of chunks, each of which was found or is new
abbrev pub CountsChunks : DeduplicationMetrics → List (List ℕ) → DeduplicationMetrics → Type 0
CountsChunks m [] n = n ≡ m
CountsChunks m (c ∷ cs) n = (found : Bool) × CountsChunks (both m (chunk_counts (length c) found)) cs n

-- bytes came behind those that wait
pub record TakesIn (c : Cleaner) (bytes : List ℕ) (d : Cleaner) : Type 0 where
  pub same : d ≡ record c {
    pending = c.pending ++ bytes;
    hasher = d.hasher;
    fed = c.fed + length bytes;
  }
  pub hashed : c.policy ≡ Compute → (m : List ℕ) → Holds256 c.hasher m → Holds256 d.hasher (m ++ bytes)

-- the next chunk came off the front, where the cutter says so, or none does
pub record NextChunk (c d : Cleaner) (last : Bool) (chunk : Option (List ℕ)) : Type 0 where
  pub same : d ≡ record c { pending = d.pending }
  pub pending : c.pending ≡ unwrap_or chunk [] ++ d.pending
  pub none : chunk ≡ None → last ≡ true → c.pending ≡ []
  pub place : IfSome chunk (λ cut. IsNextCut c.tell last c.pending (Some (length cut)))
  pub waits : chunk ≡ None → IsCutUp c.tell last c.pending

-- chunks were cut off the front of the pending bytes, each where the cutter says so, and cleaned
pub record CutsChunks (last : Bool) (b n : SessionTold) (c d : Cleaner) : Type 0 where
  pub cut : List (List ℕ)
  pub cleans : Cleans b n c.parts d.parts cut
  pub pending : c.pending ≡ concat cut ++ d.pending
  pub places : CutAt c.tell last c.pending cut d.pending
  pub so : PutsSo {A = Unit {0}} b n c.parts.own.chunks cut d.parts.own.chunks (Ok tt)
  pub counts : CountsChunks c.counts cut d.counts
  pub same : d ≡ record c { parts = d.parts; pending = d.pending; counts = d.counts }

-- the cleaner stands for these bytes too, and its terms are on the list as before
pub record Feeds (b n : SessionTold) (c : Cleaner) (bytes : List ℕ) (d : Cleaner) : Type 0 where
  pub cut : List (List ℕ)
  pub into : CutInto c.parts d.parts cut
  pub pending : c.pending ++ bytes ≡ concat cut ++ d.pending
  pub puts : Tells b → PutsInTurn b n c.parts.own.chunks cut d.parts.own.chunks
  pub full : IsWithin (c.parts.own.chunks ++ cut) → PutsNone b n
  pub failed : n.failed ≡ b.failed
  pub counts : CountsChunks c.counts cut d.counts
  pub stands : (k : Store) (before : List ℕ) → IsSteady k b → IsOpen n → NoClash k n cut
      → CleanerStands (world k (log_of b)) c before → CleanerStands (world k (log_of n)) d (before ++ bytes)
  pub fed : (before : List ℕ) → IsFed c before → IsFed d (before ++ bytes)
  pub named : HasListed b → IsOpen n → AreNamed b.listed c.parts.terms → AreNamed n.listed d.parts.terms
  pub same : d ≡ record c {
    parts = d.parts;
    pending = d.pending;
    hasher = d.hasher;
    fed = c.fed + length bytes;
    counts = d.counts;
  }

-- so it is of bytes that came at once, and chunks were cut where the cutter says so
pub record FeedsOnce (b n : SessionTold) (c : Cleaner) (bytes : List ℕ) (d : Cleaner) : Type 0 where
  pub feeds : Feeds b n c bytes d
  pub places : CutBy c.tell false (c.pending ++ bytes) feeds.cut d.pending

-- how many bytes may be fed
abbrev pub total_of : Cleaner → ℕ
total_of c = unwrap_or c.size (2 ^ 64 - 1)

-- more bytes than are left of them
abbrev pub PassesTotal : Cleaner → List ℕ → Type 0
PassesTotal c bytes = total_of c - c.fed < length bytes

abbrev pub past_total : Cleaner → List ℕ → DataError
past_total c bytes = data_error.InvalidOperation (invalid.PastTotal (total_of c) c.fed (length bytes))

-- why `add_data` fails: the cleaner failed before, or its size is passed, or a chunk of it wasn't added
abbrev pub AddFails : SessionTold → SessionTold → Cleaner → List ℕ → DataError → Type 0
AddFails b n c bytes e = (c.failed ≡ Some e) ⊎ ((e ≡ past_total c bytes) × PassesTotal c bytes) ⊎ ChunkFails b n e

-- the invalid operations of `add_data` that are no refusal of the tracker
abbrev pub IsOwnError : Bool → Cleaner → List ℕ → DataError → Type 0
IsOwnError finalized c bytes e = IsLate finalized e ⊎ (c.failed ≡ Some e)
    ⊎ ((e ≡ past_total c bytes) × PassesTotal c bytes)

-- bytes were fed, in one call; `AddsData` says what the cleaner keeps of an error
pub record FeedsSo (b n : SessionTold) (c : Cleaner) (bytes : List ℕ) (d : Cleaner)
    (answer : Result (Unit {0}) DataError) : Type 0 where
  pub leaves : Leaves b n
  pub ok : OnOk answer (FeedsOnce b n c bytes d)
  pub puts : PutsSome b n c.parts.own.chunks (c.pending ++ bytes) d.parts.own.chunks answer
  pub failed : d.failed ≡ c.failed
  pub finalized : b.finalized ≡ true → (answer ≡ Err finalized_error) × (n ≡ b)
  pub kept : b.finalized ≡ false → (e : DataError) → c.failed ≡ Some e → (answer ≡ Err e) × (n ≡ b)
  pub past : b.finalized ≡ false → c.failed ≡ None → PassesTotal c bytes
      → (answer ≡ Err (past_total c bytes)) × (n ≡ b)
  pub why : IfErr answer (AddFails b n c bytes)

-- the error of an answer
abbrev pub error_of : {A : Type 0} → Result A DataError → Option DataError
error_of (Ok a) = None
error_of (Err e) = Some e

-- bytes were fed, or the error is kept where none was
pub record AddsData (b n : SessionTold) (c : Cleaner) (bytes : List ℕ) (d : Cleaner)
    (answer : Result (Unit {0}) DataError) : Type 0 where
  pub leaves : Leaves b n
  pub ok : OnOk answer (FeedsOnce b n c bytes d)
  pub puts : PutsSome b n c.parts.own.chunks (c.pending ++ bytes) d.parts.own.chunks answer
  pub failed : d.failed ≡ option_or c.failed (error_of answer)
  pub unfailed : OnOk answer (NoFault b n)
  pub finalized : b.finalized ≡ true → (answer ≡ Err finalized_error) × (n ≡ b)
  pub kept : b.finalized ≡ false → (e : DataError) → c.failed ≡ Some e → (answer ≡ Err e) × (n ≡ b)
  pub past : b.finalized ≡ false → c.failed ≡ None → PassesTotal c bytes
      → (answer ≡ Err (past_total c bytes)) × (n ≡ b)
  pub why : IfErr answer (AddFails b n c bytes)

-- so bytes were fed to a session that threads share, under one hold of its lock: over some session, of which what its
-- type keeps is true, and some calls that its tracker accepted
pub record AddsShared (now : ℕ) (c : Cleaner) (bytes : List ℕ) (d : Cleaner) (answer : Result (Unit {0}) DataError)
    : Type 0 where
  pub found : SessionTold
  pub left : SessionTold
  pub before : List TrackerStep
  pub after : List TrackerStep
  pub listed : HasListed found
  pub adds : AddsData found left c bytes d answer
  pub tells : TellsOf (IsFor c.file_id c.size (length bytes)) (IsOwnError found.finalized c bytes) before after answer
  pub grows : OnOk answer (GrowsFirst c.file_id c.size (length bytes) before after)
  pub calls : Calls now found left

-- ---- the end

abbrev pub unknown_xorb : MerkleHash → DataError
unknown_xorb hash = data_error.InvalidOperation (invalid.UnknownXorb hash)

-- the invalid operations of `finish` that are no refusal of the tracker
abbrev pub IsEndError : SessionTold → Cleaner → DataError → Type 0
IsEndError b c e = IsLate b.finalized e ⊎ (c.failed ≡ Some e)
    ⊎ ((h : MerkleHash) × IsFirstUnlisted b.listed c.parts.terms h × (e ≡ unknown_xorb h))

-- why the end of a file is refused, with nothing cut: the first of three
abbrev pub EndRefused : SessionTold → Cleaner → DataError → Type 0
EndRefused b c e = ((b.finalized ≡ true) × (e ≡ finalized_error))
    ⊎ ((b.finalized ≡ false) × (c.failed ≡ Some e))
    ⊎ ((b.finalized ≡ false) × (c.failed ≡ None) × (h : MerkleHash) × IsFirstUnlisted b.listed c.parts.terms h
    × (e ≡ unknown_xorb h))

-- none of the three
pub record EndPasses (b : SessionTold) (c : Cleaner) : Type 0 where
  pub unfinalized : b.finalized ≡ false
  pub unfailed : c.failed ≡ None
  pub named : AreNamed b.listed c.parts.terms

-- the file that a cleaner ends, of these bytes and with this hash
abbrev pub cleaned_file : Cleaner → MerkleHash → List ℕ → CleanedFile
cleaned_file c hash bytes = record { hash = hash; sha256 = recorded_sha256 c.policy bytes; bytes = bytes }

-- these counts were added to the session's, in which the bytes of xorbs may have grown too
abbrev pub Counts : SessionTold → SessionTold → DeduplicationMetrics → Type 0
Counts b n counts = n.metrics
    ≡ record (with_file_counts b.metrics counts) { xorb_bytes_uploaded = n.metrics.xorb_bytes_uploaded }

-- the data of a cleaner was taken, which has cut all bytes: what other records stand for is kept, and the session has
-- a record of its file
pub record Completes (b n : SessionTold) (c : Cleaner)
    (answer : Result (XetFileInfo × DeduplicationMetrics) DataError) : Type 0 where
  pub keeps : Keeps b n
  pub backs : HasListed b → Backs b n
  pub puts : Tells b → PutsMade b n (b.waiting.chunks ++ c.parts.own.chunks) n.waiting.chunks
  pub last : Tells b → OnOk answer (PutsLast b n c.parts.own.chunks)
  pub full : StayOne b c.parts.own.chunks → PutsNone b n
  pub thresholds : n.thresholds ≡ b.thresholds
  pub waits : IsPickedFrom n.waiting.chunks (b.waiting.chunks ++ c.parts.own.chunks)
  pub hash : MerkleHash
  pub hash_is : hash ≡ file_hash_of c.parts.infos
  pub holds : (k : Store) (f : CleanedFile) → IsSteady k b → IsOpen n → HashesAgree k n → HasRecord k b f
      → HasRecord k n f
  pub stands : (k : Store) (bytes : List ℕ) → IsSteady k b → IsOpen n → HashesAgree k n
      → CleanerStands (world k (log_of b)) c bytes
      → OnOk answer (HasRecord k n (cleaned_file c hash bytes))
  pub pointer : (bytes : List ℕ) → IsFed c bytes
      → IfOk answer (λ r. r.0 ≡ pointer_to hash (length bytes) (recorded_sha256 c.policy bytes))
  pub unfailed : OnOk answer (n.failed ≡ b.failed)
  pub counts : IfOk answer (λ r. r.1 ≡ c.counts)
  pub counted : IfOk answer (λ r. Counts b n r.1)
  pub uncounted : OnErr answer (CountsSent b n)
  pub said : b.failed ≡ None → Says n answer
  pub why : IfErr answer (CleanFails b n)

-- a cleaner ended: what other records stand for is kept, and the session has a record that stands for what the cleaner
-- stood for; the pending bytes were cut, and what was put is made of what waited, of the file's own chunks and of those
-- that were cut, in turn; nothing was put where all these stay one
pub record Finishes (b n : SessionTold) (c : Cleaner)
    (answer : Result (XetFileInfo × DeduplicationMetrics) DataError) : Type 0 where
  pub keeps : Keeps b n
  pub backs : Backs b n
  pub cut : List (List ℕ)
  pub rest : List ℕ
  pub pending : c.pending ≡ concat cut ++ rest
  pub places : OnOk answer (CutAt c.tell true c.pending cut rest)
  pub all : OnOk answer (rest ≡ [])
  pub puts : Tells b → PutsMade b n (b.waiting.chunks ++ (c.parts.own.chunks ++ cut)) n.waiting.chunks
  pub turn : Tells b → OnOk answer (PutsToEnd b n c.parts.own.chunks cut)
  pub full : StayOne b (c.parts.own.chunks ++ cut) → PutsNone b n
  pub thresholds : n.thresholds ≡ b.thresholds
  pub waits : IsPickedFrom n.waiting.chunks (b.waiting.chunks ++ (c.parts.own.chunks ++ cut))
  pub hash : MerkleHash
  pub hash_is : OnOk answer (hash ≡ file_hash_of (c.parts.infos ++ infos_of cut))
  pub holds : (k : Store) (f : CleanedFile) → IsSteady k b → IsOpen n → HashesAgree k n → HasRecord k b f
      → HasRecord k n f
  pub stands : (k : Store) (bytes : List ℕ) → IsSteady k b → IsOpen n → NoClash k n cut
      → CleanerStands (world k (log_of b)) c bytes → OnOk answer (HasRecord k n (cleaned_file c hash bytes))
  pub pointer : (bytes : List ℕ) → IsFed c bytes
      → IfOk answer (λ r. r.0 ≡ pointer_to hash (length bytes) (recorded_sha256 c.policy bytes))
  pub counts : IfOk answer (λ r. CountsChunks c.counts cut r.1)
  pub counted : IfOk answer (λ r. Counts b n r.1)
  pub uncounted : OnErr answer (CountsSent b n)
  pub unfailed : OnOk answer (NoFault b n)
  pub said : b.failed ≡ None → Says n answer
  pub finalized : b.finalized ≡ true → (answer ≡ Err finalized_error) × (n ≡ b)
  pub kept : b.finalized ≡ false → (e : DataError) → c.failed ≡ Some e → (answer ≡ Err e) × (n ≡ b)
  pub unknown : b.finalized ≡ false → c.failed ≡ None → (h : MerkleHash) → IsFirstUnlisted b.listed c.parts.terms h
      → (answer ≡ Err (unknown_xorb h)) × (n ≡ b)
  pub why : IfErr answer (λ e. (c.failed ≡ Some e)
      ⊎ ((h : MerkleHash) × IsFirstUnlisted b.listed c.parts.terms h × (e ≡ unknown_xorb h)) ⊎ ChunkFails b n e)
