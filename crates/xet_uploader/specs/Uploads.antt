-- What an uploader tells, what one call of it may change, and what an uploader in memory answers.
use Rattle.std.specs.Prelude.{ℕ, ◌≡◌, ◌⊎◌, ◌≤◌, ◌+◌, ◌-◌, ◌^◌, min, List, [], ◌∷◌, length, map, find, Bool, option_map}
use Rattle.std.specs.Prelude.{Option, IsSome, Result, Ok, Err, IfOk, OnOk, OnErr, IsErrOf}
use Rattle.std.specs.List.{concat, list_any}
use Rattle.xet_base.specs.declared.mdb_shard.Xorb.{Xorb}
use Rattle.xet_base.specs.declared.mdb_shard.ShardRecord.{ShardRecord}
use Rattle.xet_base.specs.declared.mdb_shard.ChunkInfo.{ChunkInfo}
use Rattle.xet_base.specs.declared.mdb_shard.MDBXorbInfo.{MDBXorbInfo}
use Rattle.xet_base.specs.declared.merklehash.MerkleHash.{MerkleHash}
use Rattle.xet_base.specs.Digests.{chunk_hash_of}
use Rattle.xet_base.specs.Hashes.{hash_eq}
use Rattle.xet_base.specs.Store.{Store}
use Rattle.xet_outside.specs.declared.client.ClientError.{ClientError}
use Rattle.xet_outside.specs.declared.client.ClientError.TheVariants as client_error
use Rattle.xet_outside.specs.Told.{Rose, Grew}
use Rattle.xet_uploader.specs.declared.uploader.Put.{Put}
use Rattle.xet_uploader.specs.declared.uploader.Put.TheVariants as put

pub record UploaderTold : Type 0 where
  -- the store that it began with
  pub first : Option Store
  -- the accepted puts, which are its log
  pub puts : Option (List Put)
  -- the chunks that queries for records asked for
  pub asked : Option (List MerkleHash)
  -- the Ok answers to queries for records
  pub answered : Option (List (Option ShardRecord))
  pub faults : ℕ

-- one call of `put_xorb`
pub record PutXorbCall (before after : UploaderTold) (xorb : Xorb) (answer : Result ℕ ClientError) : Type 0 where
  pub accepted : OnOk answer (Grew before.puts after.puts (put.Xorb xorb))
  pub refused : OnErr answer (after.puts ≡ before.puts)
  pub sent : IsSome before.puts → IfOk answer (λ n. n ≡ min (length (concat xorb.chunks)) (2 ^ 64 - 1))
  pub first : after.first ≡ before.first
  pub asked : after.asked ≡ before.asked
  pub answered : after.answered ≡ before.answered
  pub faults : before.faults ≤ after.faults
  pub failed : IsErrOf answer client_error.Failed → Rose before.faults after.faults
  pub unfailed : OnOk answer (after.faults ≡ before.faults)
  pub memory : IsErrOf answer client_error.OutOfMemory → after.faults ≡ before.faults

-- one call of `put_shard`
pub record PutShardCall (before after : UploaderTold) (shard : ShardRecord)
    (answer : Result ℕ ClientError) : Type 0 where
  pub accepted : OnOk answer (Grew before.puts after.puts (put.Shard shard))
  pub refused : OnErr answer (after.puts ≡ before.puts)
  pub first : after.first ≡ before.first
  pub asked : after.asked ≡ before.asked
  pub answered : after.answered ≡ before.answered
  pub faults : before.faults ≤ after.faults
  pub failed : IsErrOf answer client_error.Failed → Rose before.faults after.faults
  pub unfailed : OnOk answer (after.faults ≡ before.faults)
  pub memory : IsErrOf answer client_error.OutOfMemory → after.faults ≡ before.faults

-- the chunk was asked for at most once, and no other was
abbrev pub AskedOnce : UploaderTold → UploaderTold → MerkleHash → Type 0
AskedOnce before after chunk = (after.asked ≡ before.asked) ⊎ Grew before.asked after.asked chunk

-- one call of `query_shard`
pub record QueryShardCall (before after : UploaderTold) (chunk : MerkleHash)
    (answer : Result (Option ShardRecord) ClientError) : Type 0 where
  pub puts : after.puts ≡ before.puts
  pub first : after.first ≡ before.first
  pub asked : OnOk answer (Grew before.asked after.asked chunk)
  pub unasked : OnErr answer (AskedOnce before after chunk)
  pub answered : IfOk answer (λ a. Grew before.answered after.answered a)
  pub unanswered : OnErr answer (after.answered ≡ before.answered)
  pub faults : before.faults ≤ after.faults
  pub failed : IsErrOf answer client_error.Failed → Rose before.faults after.faults

-- a count of faults that an uploader in memory keeps: a call that failed makes it one more, or leaves it at its last
-- value, and every other answer leaves it
abbrev pub CountsFailed : {A : Type 0} → ℕ → ℕ → Result A ClientError → Type 0
CountsFailed before after (Err client_error.Failed) = after ≡ min (before + 1) (2 ^ 64 - 1)
CountsFailed before after (Err client_error.OutOfMemory) = after ≡ before
CountsFailed before after (Ok a) = after ≡ before

-- ---- queries of an uploader in memory

-- the xorbs among some puts, in their order
abbrev pub xorbs_in : List Put → List Xorb
xorbs_in [] = []
xorbs_in (put.Xorb x ∷ ps) = x ∷ xorbs_in ps
xorbs_in (put.Shard r ∷ ps) = xorbs_in ps

-- a chunk's hash and its length, which a record counts up to 2 ^ 32 - 1
abbrev pub capped_info : List ℕ → ChunkInfo
capped_info c = record { hash = chunk_hash_of c; length = min (length c) (2 ^ 32 - 1) }

-- the record of a xorb, whose lengths are at most 2 ^ 32 - 1
abbrev pub record_of : Xorb → MDBXorbInfo
record_of x = record {
  hash = x.hash;
  num_bytes = min (length (concat x.chunks)) (2 ^ 32 - 1);
  chunks = map capped_info x.chunks;
}

-- the xorb has a chunk with this hash
abbrev pub has_chunk : MerkleHash → Xorb → Bool
has_chunk h x = list_any (λ c. hash_eq (chunk_hash_of c) h) x.chunks

-- a xorb record alone, without files
abbrev pub alone : MDBXorbInfo → ShardRecord
alone r = record { xorbs = r ∷ []; files = [] }

-- the record of the first xorb that has the chunk, without files
abbrev pub mem_query : List Put → MerkleHash → Option ShardRecord
mem_query ps h = option_map (λ x. alone (record_of x)) (find (has_chunk h) (xorbs_in ps))
