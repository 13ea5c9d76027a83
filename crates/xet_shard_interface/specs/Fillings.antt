-- How records are filled into shards.
use Rattle.std.specs.Prelude.{ℕ, ◌+◌, ◌-◌, ◌^◌, min, Bool, ◌&&◌, ◌||◌, ltb, if◌then◌else◌, List, [], ◌∷◌, ◌++◌, length}
use Rattle.xet_base.specs.declared.mdb_shard.MDBXorbInfo.{MDBXorbInfo}
use Rattle.xet_base.specs.declared.mdb_shard.MDBFileInfo.{MDBFileInfo}
use Rattle.xet_base.specs.declared.mdb_shard.ShardRecord.{ShardRecord}
use Rattle.xet_base.specs.Records.{xorb_size, file_size}
use Rattle.xet_shard_interface.specs.declared.shard_filler.ShardFiller.{ShardFiller}
use Rattle.xet_shards.specs.Shards.{no_records}

abbrev pub no_shards : ShardFiller
no_shards = record { done = []; next = no_records; size = 0 }

-- some records are there
abbrev pub has_some : ShardRecord → Bool
has_some r = ltb 0 (length r.xorbs) || ltb 0 (length r.files)

-- so many bytes more are too many for the next shard, which has some
abbrev pub is_full : ℕ → ShardFiller → ℕ → Bool
is_full m f n = has_some f.next && ltb m (min (f.size + n) (2 ^ 64 - 1))

abbrev pub closed : ShardFiller → ShardFiller
closed f = record { done = f.done ++ f.next ∷ []; next = no_records; size = 0 }

abbrev pub room : ℕ → ShardFiller → ℕ → ShardFiller
room m f n = if is_full m f n then closed f else f

abbrev pub xorb_added : ShardFiller → MDBXorbInfo → ShardFiller
xorb_added f x = record {
  done = f.done;
  next = record { xorbs = f.next.xorbs ++ x ∷ []; files = f.next.files };
  size = min (f.size + min (xorb_size x) (2 ^ 64 - 1)) (2 ^ 64 - 1);
}

abbrev pub file_added : ShardFiller → MDBFileInfo → ShardFiller
file_added f x = record {
  done = f.done;
  next = record { xorbs = f.next.xorbs; files = f.next.files ++ x ∷ [] };
  size = min (f.size + min (file_size x) (2 ^ 64 - 1)) (2 ^ 64 - 1);
}

abbrev pub xorb_filled : ℕ → ShardFiller → MDBXorbInfo → ShardFiller
xorb_filled m f x = xorb_added (room m f (min (xorb_size x) (2 ^ 64 - 1))) x

abbrev pub file_filled : ℕ → ShardFiller → MDBFileInfo → ShardFiller
file_filled m f x = file_added (room m f (min (file_size x) (2 ^ 64 - 1))) x

-- one after another
abbrev pub xorbs_filled : ℕ → ShardFiller → List MDBXorbInfo → ShardFiller
xorbs_filled m f [] = f
xorbs_filled m f (x ∷ xs) = xorbs_filled m (xorb_filled m f x) xs

abbrev pub files_filled : ℕ → ShardFiller → List MDBFileInfo → ShardFiller
files_filled m f [] = f
files_filled m f (x ∷ xs) = files_filled m (file_filled m f x) xs

-- the shards, the next one among them where it has records
abbrev pub all_filled : ShardFiller → List ShardRecord
all_filled f = if has_some f.next then f.done ++ f.next ∷ [] else f.done

-- the records in shards
abbrev pub shards_in : ℕ → ShardRecord → List ShardRecord
shards_in m r = all_filled (files_filled m (xorbs_filled m no_shards r.xorbs) r.files)
