-- The end of a file in a session that threads share.
use Rattle.std.specs.Prelude.{ℕ, Result}
use Rattle.xet_upload.specs.declared.data_error.DataError.{DataError}
use Rattle.xet_upload_session.specs.Sessions.{HasListed}
use Rattle.xet_clean.specs.Cleaners.{Cleaner}
use Rattle.xet_jobs.specs.Jobs.{Ended, EndsJob, Seen}

-- a file ended under one hold of the lock, over some session of which what its type keeps is true
pub record HeldFinish (now : ℕ) (c : Cleaner) (answer : Result Ended DataError) : Type 0 where
  pub found : Seen
  pub left : Seen
  pub listed : HasListed found.session
  pub ends : EndsJob now found left c answer
