-- That equal hashes mean equal contents, of the lists that are there.
use Rattle.std.specs.Prelude.{ℕ, ◌≡◌, List, [], ◌++◌, map, All, Contains}
use Rattle.std.specs.List.{flat_map}
use Rattle.xet_base.specs.declared.mdb_shard.MDBFileInfo.{MDBFileInfo}
use Rattle.xet_base.specs.declared.mdb_shard.Xorb.{Xorb}
use Rattle.xet_base.specs.declared.merklehash.MerkleHash.{MerkleHash}
use Rattle.xet_base.specs.Store.{Store, chunks_of_file}
use Rattle.xet_uploader.specs.declared.uploader.Put.{Put}
use Rattle.xet_uploader.specs.StoresAfter.{files_in}
use Rattle.xet_upload.specs.Standing.{AgreesWith, chunks_at, term_of, world}
use Rattle.xet_upload_session.specs.Sessions.{SessionTold, log_of}
use Rattle.xet_clean_parts.specs.Premises.{HashesAgree}

-- the hash and the chunks of a file
abbrev pub HashedFile : Type 0
HashedFile = MerkleHash × List (List ℕ)

-- the chunks that the terms of a file record name
abbrev pub chunks_of_record : Store → MDBFileInfo → List (List ℕ)
chunks_of_record s r = flat_map (chunks_at s []) (map term_of r.entries)

-- the files of a store and those of the records of a log
abbrev pub known_files : Store → List Put → List HashedFile
known_files k log = map (λ f. (f.hash, chunks_of_file k f.hash)) k.files
    ++ map (λ r. (r.hash, chunks_of_record (world k log) r)) (files_in log)

-- among these files equal hashes mean equal chunks
abbrev pub FileHashesAgree : List HashedFile → Type 0
FileHashesAgree files = (a b : HashedFile) → Contains files a → Contains files b → a.0 ≡ b.0 → a.1 ≡ b.1

-- a chunk of a store's xorbs that has the hash of a part of these bytes is that part
abbrev pub PartsAgree : Store → List ℕ → Type 0
PartsAgree s bytes = (x : Xorb) (c front rest : List ℕ) → Contains s.xorbs x → bytes ≡ front ++ (c ++ rest)
    → AgreesWith x.chunks c

-- equal hashes mean equal contents, of the xorbs of the store k and of a session t, those that it didn't put again
-- among them; of some files; and of the chunks of those xorbs and the parts of what was fed
pub record HasNoClash (k : Store) (t : SessionTold) (named : List HashedFile) (fed : List (List ℕ)) : Type 0 where
  pub xorbs : HashesAgree k t
  pub files : FileHashesAgree named
  pub parts : All (PartsAgree (world k (log_of t))) fed
