-- The store after a log, which is there and valid.
use Rattle.std.specs.Prelude.{◌≡◌, List, ◌++◌, map, All, Some}
use Rattle.xet_base.specs.declared.mdb_shard.ShardRecord.{ShardRecord}
use Rattle.xet_base.specs.declared.mdb_shard.Xorb.{Xorb}
use Rattle.xet_base.specs.Store.{IsValid, IsValidXorb, Store}
use Rattle.xet_uploader.specs.declared.uploader.Put.{Put}
use Rattle.xet_uploader.specs.declared.uploader.Put.TheVariants as put
use Rattle.xet_uploader.specs.StoresAfter.{files_in, store_after}
use Rattle.xet_upload.specs.Standing.{world}
use Rattle.xet_upload_laws.specs.RecordsStand.{AreRecords}

-- the store after these puts is there, and it is valid
pub record HasStore (k : Store) (log : List Put) : Type 0 where
  pub store : Store
  pub after : store_after k log ≡ Some store
  pub valid : IsValid store

-- it stays so where xorbs are put
abbrev pub StoreAfterXorbs : Type 0
StoreAfterXorbs = (k : Store) (log : List Put) (xs : List Xorb) → HasStore k log → All IsValidXorb xs
    → HasStore k (log ++ map put.Xorb xs)

-- and where shards are put whose file records stand for bytes in the world before
abbrev pub StoreAfterShards : Type 0
StoreAfterShards = (k : Store) (log : List Put) (ss : List ShardRecord) → HasStore k log
    → AreRecords (world k log) (files_in (map put.Shard ss)) → HasStore k (log ++ map put.Shard ss)
