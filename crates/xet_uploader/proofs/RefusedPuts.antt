-- Puts that are refused, and the record of a xorb, chunk by chunk.
use Rattle.std.proofs.Common.{◌≡◌, ℕ, ◌+◌, ◌<◌, ◌≤◌, List, [], ◌∷◌, ◌++◌, length, map, take, get_or, sym, ap, ◌∙◌, Err}
use Rattle.std.proofs.lemmas.List.{map_push, take_more}
use Rattle.xet_base.specs.declared.mdb_shard.ChunkInfo.{ChunkInfo}
use Rattle.xet_base.specs.declared.mdb_shard.ShardRecord.{ShardRecord}
use Rattle.xet_base.specs.declared.mdb_shard.Xorb.{Xorb}
use Rattle.xet_outside.specs.declared.client.ClientError.TheVariants as client_error
use Rattle.xet_outside.specs.Told.{Rose}
use Rattle.xet_uploader.specs.Uploads.{PutShardCall, PutXorbCall, UploaderTold, capped_info}

-- an upload that changed the counts alone
module _ (a b : UploaderTold) (first : b.first ≡ a.first) (puts : b.puts ≡ a.puts) (asked : b.asked ≡ a.asked)
    (answered : b.answered ≡ a.answered) (later : a.faults ≤ b.faults) where
  -- it failed
  pub xorb_failed : (x : Xorb) → Rose a.faults b.faults → PutXorbCall a b x (Err client_error.Failed)
  xorb_failed x rose = record {
    accepted = tt;
    refused = puts;
    sent = λ _. tt;
    first = first;
    asked = asked;
    answered = answered;
    faults = later;
    failed = λ _. rose;
    unfailed = tt;
    memory = λ e. cc;
  }

  pub shard_failed : (x : ShardRecord) → Rose a.faults b.faults → PutShardCall a b x (Err client_error.Failed)
  shard_failed x rose = record {
    accepted = tt;
    refused = puts;
    first = first;
    asked = asked;
    answered = answered;
    faults = later;
    failed = λ _. rose;
    unfailed = tt;
    memory = λ e. cc;
  }

  -- memory was wanting
  pub xorb_refused : (x : Xorb) → b.faults ≡ a.faults → PutXorbCall a b x (Err client_error.OutOfMemory)
  xorb_refused x same = record {
    accepted = tt;
    refused = puts;
    sent = λ _. tt;
    first = first;
    asked = asked;
    answered = answered;
    faults = later;
    failed = λ e. cc;
    unfailed = tt;
    memory = λ _. same;
  }

  pub shard_refused : (x : ShardRecord) → b.faults ≡ a.faults → PutShardCall a b x (Err client_error.OutOfMemory)
  shard_refused x same = record {
    accepted = tt;
    refused = puts;
    first = first;
    asked = asked;
    answered = answered;
    faults = later;
    failed = λ e. cc;
    unfailed = tt;
    memory = λ _. same;
  }

-- the records of the first chunks, and of one more
pub infos_more : (cs : List (List ℕ)) (i : ℕ) (c : List ℕ) (infos more : List ChunkInfo) (info : ChunkInfo)
    → i < length cs → c ≡ get_or cs i c → infos ≡ map capped_info (take i cs) → info ≡ capped_info c
    → more ≡ infos ++ info ∷ [] → more ≡ map capped_info (take (i + 1) cs)
infos_more cs i c infos more info within item done is added =
    added
    ∙ ap (λ (xs : List ChunkInfo). xs ++ info ∷ []) done
    ∙ ap (λ (x : ChunkInfo). map capped_info (take i cs) ++ x ∷ []) (is ∙ ap capped_info item)
    ∙ sym (ap (λ (xs : List (List ℕ)). map capped_info xs) (take_more cs i c within)
    ∙ map_push capped_info (take i cs) (get_or cs i c))
