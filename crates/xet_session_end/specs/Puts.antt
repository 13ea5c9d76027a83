-- The put of a xorb whose refusal is kept.
use Rattle.std.specs.Prelude.{ℕ, ◌≡◌, Option, Some, Result, Ok, Err, OnOk, IfOk, IfErr}
use Rattle.xet_base.specs.declared.mdb_shard.Xorb.{Xorb}
use Rattle.xet_outside.specs.declared.client.ClientError.{ClientError}
use Rattle.xet_uploader.specs.Uploads.{PutXorbCall, UploaderTold}
use Rattle.xet_upload.specs.DataErrors.{of_client_error}
use Rattle.xet_upload.specs.declared.data_error.DataError.{DataError}

-- the uploader refused the xorb, which is kept and answered
pub record KeepsRefusal (u v : UploaderTold) (after : Option ClientError) (x : Xorb) (e : DataError) : Type 0 where
  pub refusal : ClientError
  pub call : PutXorbCall u v x (Err refusal)
  pub kept : after ≡ Some refusal
  pub told : e ≡ of_client_error refusal

-- one put of a xorb: where it was accepted, what is kept of failures is as before
pub record PutsXorb (u v : UploaderTold) (before after : Option ClientError) (x : Xorb)
    (answer : Result ℕ DataError) : Type 0 where
  pub accepted : IfOk answer (λ sent. PutXorbCall u v x (Ok sent))
  pub unfailed : OnOk answer (after ≡ before)
  pub refused : IfErr answer (KeepsRefusal u v after x)
