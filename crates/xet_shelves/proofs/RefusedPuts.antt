-- Puts that are refused.
use Rattle.std.proofs.Common.{◌≡◌, ◌≤◌, Err}
use Rattle.xet_base.specs.declared.mdb_shard.ShardRecord.{ShardRecord}
use Rattle.xet_base.specs.declared.mdb_shard.Xorb.{Xorb}
use Rattle.xet_outside.specs.declared.client.ClientError.TheVariants as client_error
use Rattle.xet_outside.specs.Told.{Rose}
use Rattle.xet_uploader.specs.Uploads.{PutShardCall, PutXorbCall, UploaderTold}

-- an upload that changed the counts alone
module _ (a b : UploaderTold) (first : b.first ≡ a.first) (puts : b.puts ≡ a.puts) (asked : b.asked ≡ a.asked)
    (answered : b.answered ≡ a.answered) (later : a.faults ≤ b.faults) where
  -- it failed
  pub xorb_failed : (x : Xorb) → Rose a.faults b.faults → PutXorbCall a b x (Err client_error.Failed)
  xorb_failed x rose = record {
    accepted = tt;
    refused = puts;
    sent = λ _. tt;
    first = first;
    asked = asked;
    answered = answered;
    faults = later;
    failed = λ _. rose;
    unfailed = tt;
    memory = λ e. cc;
  }

  pub shard_failed : (x : ShardRecord) → Rose a.faults b.faults → PutShardCall a b x (Err client_error.Failed)
  shard_failed x rose = record {
    accepted = tt;
    refused = puts;
    first = first;
    asked = asked;
    answered = answered;
    faults = later;
    failed = λ _. rose;
    unfailed = tt;
    memory = λ e. cc;
  }

  -- memory was wanting
  pub xorb_refused : (x : Xorb) → b.faults ≡ a.faults → PutXorbCall a b x (Err client_error.OutOfMemory)
  xorb_refused x same = record {
    accepted = tt;
    refused = puts;
    sent = λ _. tt;
    first = first;
    asked = asked;
    answered = answered;
    faults = later;
    failed = λ e. cc;
    unfailed = tt;
    memory = λ _. same;
  }

  pub shard_refused : (x : ShardRecord) → b.faults ≡ a.faults → PutShardCall a b x (Err client_error.OutOfMemory)
  shard_refused x same = record {
    accepted = tt;
    refused = puts;
    first = first;
    asked = asked;
    answered = answered;
    faults = later;
    failed = λ e. cc;
    unfailed = tt;
    memory = λ _. same;
  }
