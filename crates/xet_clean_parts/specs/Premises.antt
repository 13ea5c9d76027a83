-- What is asked of a session and of hashes, where something is said of what records stand for.
use Rattle.std.specs.Prelude.{ℕ, ◌≡◌, false, List, ◌++◌, Contains, None}
use Rattle.xet_base.specs.declared.mdb_shard.Xorb.{Xorb}
use Rattle.xet_base.specs.Store.{Store}
use Rattle.xet_upload.specs.Standing.{AgreesWith, world}
use Rattle.xet_upload.specs.Waitings.{xorb_of_chunks}
use Rattle.xet_upload_session.specs.Sessions.{HasListed, IsBackedSession, SessionTold, Tells, log_of}
use Rattle.xet_upload_session.specs.Sounds.{IsSound, XorbsAgree}

-- uploader and stores tell, the session is backed, and over the known xorbs of k each record that is searched
-- describes a xorb that is there
pub record IsSteady (k : Store) (t : SessionTold) : Type 0 where
  pub tells : Tells t
  pub backed : IsBackedSession t
  pub listed : HasListed t
  pub sound : IsSound k t

-- the session keeps no failed put, and is not finalized
pub record IsOpen (t : SessionTold) : Type 0 where
  pub unfailed : t.failed ≡ None
  pub unfinished : t.finalized ≡ false

-- a store with some xorbs more
abbrev pub with_xorbs : Store → List Xorb → Store
with_xorbs s xs = record s { xorbs = s.xorbs ++ xs }

-- the xorb that what waits becomes
abbrev pub waiting_xorb : SessionTold → Xorb
waiting_xorb t = xorb_of_chunks t.waiting.chunks

-- equal hashes mean equal contents, of the xorbs of a store, those of a session's log, and those that were not put
-- again
abbrev pub HashesAgree : Store → SessionTold → Type 0
HashesAgree k t = XorbsAgree (with_xorbs (world k (log_of t)) t.repeated)

-- so it is, and a chunk of the world's xorbs that has the hash of one that was cut is that chunk
pub record NoClash (k : Store) (t : SessionTold) (cut : List (List ℕ)) : Type 0 where
  pub xorbs : HashesAgree k t
  pub chunks : (x : Xorb) (c : List ℕ) → Contains (world k (log_of t)).xorbs x → Contains cut c → AgreesWith x.chunks c
