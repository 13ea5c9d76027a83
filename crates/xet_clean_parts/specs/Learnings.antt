-- Queries of the uploader, by which a session knows more.
use Rattle.std.specs.Prelude.{ℕ, ◌≡◌, ◌⊎◌, ◌≤◌, Bool, true, false, List, [], ◌∷◌, take, Option, is_some, Result, Ok}
use Rattle.std.specs.Prelude.{Err, IfOk, IfErr, OnOk, MatchResult}
use Rattle.std.specs.List.{flat_map, list_any}
use Rattle.std.specs.Option.{option_to_list}
use Rattle.xet_base.specs.declared.merklehash.MerkleHash.{MerkleHash}
use Rattle.xet_base.specs.declared.mdb_shard.ShardRecord.{ShardRecord}
use Rattle.xet_base.specs.declared.mdb_shard.Xorb.{Xorb}
use Rattle.xet_outside.specs.Told.{Added, Grew, Rose}
use Rattle.xet_uploader.specs.Uploads.{UploaderTold}
use Rattle.xet_shard_interface.specs.Interfaces.{StoreFails}
use Rattle.xet_shard_interface.specs.Puts.{Answered, Unanswered, all_with_shards}
use Rattle.xet_upload.specs.declared.data_error.DataError.{DataError}
use Rattle.xet_upload_session.specs.Calls.{Backs, Registers}
use Rattle.xet_upload_session.specs.Sessions.{SessionTold}

-- the uploader was asked for these chunks in order, for each at most once, and for no other
abbrev pub AskedSome : Option (List MerkleHash) → Option (List MerkleHash) → List MerkleHash → Type 0
AskedSome u v [] = v ≡ u
AskedSome u v (h ∷ hs) = (w : Option (List MerkleHash)) × ((w ≡ u) ⊎ Grew u w h) × AskedSome w v hs

-- a query for the chunk was answered, or the uploader failed; its faults did not fall
abbrev pub Queried : UploaderTold → UploaderTold → MerkleHash → Type 0
Queried u v h = (u.faults ≤ v.faults)
    × (((a : Option ShardRecord) × Answered u v h a) ⊎ (Unanswered u v h × Rose u.faults v.faults))

-- one query for each of these chunks, in order
abbrev pub QueriedAll : UploaderTold → UploaderTold → List MerkleHash → Type 0
QueriedAll u v [] = v ≡ u
QueriedAll u v (h ∷ hs) = (w : UploaderTold) × Queried u w h × QueriedAll w v hs

-- the records among answers
abbrev pub found_among : List (Option ShardRecord) → List ShardRecord
found_among rs = flat_map option_to_list rs

-- the uploader was asked for records that know these chunks: the cache gained what it answered, and nothing else but
-- the uploader changed; true comes exactly where one answer has records
pub record Learns (b n : SessionTold) (hs : List MerkleHash) (answer : Result Bool DataError) : Type 0 where
  pub same : n ≡ record b { uploader = n.uploader; shards = n.shards }
  pub stores : n.shards ≡ record b.shards { cache = n.shards.cache }
  pub puts : n.uploader.puts ≡ b.uploader.puts
  pub asked : AskedSome b.uploader.asked n.uploader.asked hs
  pub queried : OnOk answer (QueriedAll b.uploader n.uploader hs)
  pub answers : List (Option ShardRecord)
  pub answered : Added b.uploader.answered n.uploader.answered answers
  pub kept : ℕ
  pub cached : n.shards.cache.records ≡ all_with_shards b.shards.cache.records (take kept (found_among answers))
  pub learned : OnOk answer (n.shards.cache.records ≡ all_with_shards b.shards.cache.records (found_among answers))
  pub yes : IfOk answer (λ y. y ≡ list_any is_some answers)
  pub faults : b.uploader.faults ≤ n.uploader.faults
  pub cache : b.shards.cache.faults ≤ n.shards.cache.faults
  pub why : IfErr answer (StoreFails b.shards.cache.faults n.shards.cache.faults)

-- the pending queries are made, or none where queries are not enabled
pub record Completes (b n : SessionTold) (pending rest : List MerkleHash)
    (answer : Result Bool DataError) : Type 0 where
  pub disabled : b.queries ≡ false → (answer ≡ Ok false) × (n ≡ b) × (rest ≡ pending)
  pub learns : b.queries ≡ true → Learns b n pending answer × (rest ≡ [])
  pub backs : Backs b n

-- a given xorb was registered, and whether it was new isn't told
abbrev pub RegistersSo : SessionTold → SessionTold → Xorb → ℕ → Result (Unit {0}) DataError → Type 0
RegistersSo b n x now answer = MatchResult answer (λ u. (y : Bool) × Registers b n x now (Ok y))
    (λ e. Registers b n x now (Err e))
