-- Searched records that describe xorbs which are there.
use Rattle.std.specs.Prelude.{◌≡◌, List, ◌++◌, All, Contains}
use Rattle.xet_base.specs.declared.mdb_shard.MDBXorbInfo.{MDBXorbInfo}
use Rattle.xet_base.specs.declared.mdb_shard.Xorb.{Xorb}
use Rattle.xet_base.specs.Store.{Store}
use Rattle.xet_shard_interface.specs.Interfaces.{known_told, known_xorbs, records_of}
use Rattle.xet_upload.specs.Standing.{IsRecordIn, world}
use Rattle.xet_upload_session.specs.Sessions.{SessionTold, log_of}

-- the records of xorbs in which a session searches
abbrev pub searched : SessionTold → List MDBXorbInfo
searched t = (records_of t.shards.session).xorbs ++ known_xorbs (known_told t.shards)

-- each of them has the hash and length of each chunk of a xorb of the store, or of one that was put
abbrev pub IsSound : Store → SessionTold → Type 0
IsSound k t = All (IsRecordIn (world k (log_of t))) (searched t)

-- among xorbs of a store equal hashes mean equal contents
abbrev pub XorbsAgree : Store → Type 0
XorbsAgree s = (x y : Xorb) → Contains s.xorbs x → Contains s.xorbs y → x.hash ≡ y.hash → x.chunks ≡ y.chunks
