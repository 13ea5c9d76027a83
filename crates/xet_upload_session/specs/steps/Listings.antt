-- What the lists of a session have, and what waits, as tests: a ghost field takes a fact of which there is one proof at
-- most.
use Rattle.std.specs.Prelude.{ℕ, ◌≡◌, Bool, true, ltb, List, length}
use Rattle.std.specs.List.{list_all}
use Rattle.xet_base.specs.declared.merklehash.MerkleHash.{MerkleHash}
use Rattle.xet_base.specs.declared.mdb_shard.MDBFileInfo.{MDBFileInfo}
use Rattle.xet_upload.specs.Orders.{names_of}
use Rattle.xet_upload.specs.Waitings.{IsWithin, Waiting}
use Rattle.xet_upload_session.specs.Sessions.{waiting_names}
use Rattle.xet_upload_parts.specs.HashLists.{has}

-- the list has each of these hashes
abbrev pub has_all : List MerkleHash → List MerkleHash → Bool
has_all listed hs = list_all (λ h. has h listed) hs

-- each xorb that the record of a finished or waiting file names is on the list, and each that was put
pub record AreListed (listed registered : List MerkleHash) (files : List MDBFileInfo) (waits : Waiting) : Type 0 where
  pub finished : has_all listed (names_of files) ≡ true
  pub waiting : has_all listed (waiting_names waits.files) ≡ true
  pub put : has_all listed registered ≡ true

-- each chunk has a byte
abbrev pub have_bytes : List (List ℕ) → Bool
have_bytes cs = list_all (λ c. ltb 0 (length c)) cs

-- a xorb of what waits can be stored
pub record AreStorable (chunks : List (List ℕ)) : Type 0 where
  pub some : have_bytes chunks ≡ true
  pub within : IsWithin chunks
