-- A session of which each record stands for its file's bytes.
use Rattle.xet_base.specs.Store.{Store}
use Rattle.xet_uploader.specs.StoresAfter.{files_in}
use Rattle.xet_shard_interface.specs.Interfaces.{records_of}
use Rattle.xet_upload.specs.Standing.{world}
use Rattle.xet_upload_session.specs.Sessions.{SessionTold, log_of}
use Rattle.xet_clean_parts.specs.Premises.{IsOpen}
use Rattle.xet_upload_laws.specs.RecordsStand.{AreRecords, AreWaiting}
use Rattle.xet_upload_laws.specs.StoreAfter.{HasStore}

-- the files that wait stand for their bytes, and so do the records of finished ones and those of the session's store
pub record HoldsRecords (k : Store) (t : SessionTold) : Type 0 where
  pub waiting : AreWaiting (world k (log_of t)) t.waiting
  pub finished : AreRecords (world k (log_of t)) t.finished
  pub recorded : AreRecords (world k (log_of t)) (records_of t.shards.session).files

-- over a store k of the known xorbs: the store after the log is there and valid, each file record of the log stands for
-- its file's bytes, and, unless a failed put is kept or the session is finalized, so does all that the session holds
pub record AllStand (k : Store) (t : SessionTold) : Type 0 where
  pub stored : HasStore k (log_of t)
  pub logged : AreRecords (world k (log_of t)) (files_in (log_of t))
  pub held : IsOpen t → HoldsRecords k t
