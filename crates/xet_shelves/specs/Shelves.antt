-- What a shelf tells, and what one call of a shelf or of a target may change.
use Rattle.std.specs.Prelude.{ℕ, ◌≡◌, ◌≤◌, Bool, ◌||◌, List, Option, Some, option_map, is_some}
use Rattle.std.specs.Prelude.{Result, IfOk, OnOk, IsErrOf, All}
use Rattle.std.specs.List.{list_any}
use Rattle.xet_base.specs.declared.merklehash.MerkleHash.{MerkleHash}
use Rattle.xet_base.specs.declared.mdb_shard.MDBFileInfo.{MDBFileInfo}
use Rattle.xet_base.specs.declared.mdb_shard.Xorb.{Xorb}
use Rattle.xet_base.specs.Hashes.{hash_eq}
use Rattle.xet_base.specs.Store.{Store, file_of, xorb_of}
use Rattle.xet_outside.specs.declared.client.ClientError.{ClientError}
use Rattle.xet_outside.specs.declared.client.ClientError.TheVariants as client_error
use Rattle.xet_outside.specs.Told.{Rose}
use Rattle.xet_store.specs.Refusals.{stored_term, term_length}
use Rattle.xet_uploader.specs.StoresAfter.{file_of_record, files_in}
use Rattle.xet_uploader.specs.Uploads.{UploaderTold, xorbs_in}
use Rattle.xet_uploader.specs.declared.uploader.Put.{Put}

-- ---- shelves

-- the store, where it is told, and the count of faults
pub record ShelfTold : Type 0 where
  pub store : Option Store
  pub faults : ℕ

-- one call: the store stays, and over a told one this holds of the answer
pub record ShelfCall {A : Type 0} (before after : ShelfTold) (Is : Store → A → Type 0)
    (answer : Result A ClientError) : Type 0 where
  pub store : after.store ≡ before.store
  pub is : (s : Store) → before.store ≡ Some s → IfOk answer (Is s)
  pub faults : before.faults ≤ after.faults
  pub failed : IsErrOf answer client_error.Failed → Rose before.faults after.faults
  pub unfailed : OnOk answer (after.faults ≡ before.faults)

-- the record is that of the store's file: none exactly where it isn't stored, and else its hash and its terms
abbrev pub IsRecordOf : MerkleHash → Store → Option MDBFileInfo → Type 0
IsRecordOf f s record_told = option_map file_of_record record_told ≡ file_of s f

-- each term of the record says how many bytes it has in the store
abbrev pub CountsBytes : Store → MDBFileInfo → Type 0
CountsBytes s r = All (λ e. e.bytes ≡ term_length s (stored_term e)) r.entries

-- it is the store's xorb, and none exactly where that isn't stored
abbrev pub IsXorbOf : MerkleHash → Store → Option Xorb → Type 0
IsXorbOf x s xorb = xorb ≡ xorb_of s x

-- ---- targets

-- a store or a log has the file, the xorb
abbrev pub has_file : Store → List Put → MerkleHash → Bool
has_file s log f = is_some (file_of s f) || list_any (λ r. hash_eq r.hash f) (files_in log)

abbrev pub has_xorb : Store → List Put → MerkleHash → Bool
has_xorb s log x = is_some (xorb_of s x) || list_any (λ y. hash_eq y.hash x) (xorbs_in log)

-- one call that looks for a hash: log, queries and first store stay, and where the first store and the log are told the
-- answer is whether one of them has it
pub record HasCall (before after : UploaderTold) (has : Store → List Put → Bool)
    (answer : Result Bool ClientError) : Type 0 where
  pub same : after ≡ record before { faults = after.faults }
  pub is : (s : Store) (log : List Put) → before.first ≡ Some s → before.puts ≡ Some log
      → IfOk answer (λ b. b ≡ has s log)
  pub faults : before.faults ≤ after.faults
  pub failed : IsErrOf answer client_error.Failed → Rose before.faults after.faults
  pub unfailed : OnOk answer (after.faults ≡ before.faults)
