-- What xorbs keep.
use Rattle.std.specs.Prelude.{ℕ, ◌≡◌, ◌==◌, ◌↔◌, All, Bool, Contains, List, cond, length, map, nat_lt}
use Rattle.std.specs.List.Sorted.{IsStrictlySortedBy}
use Rattle.xet_base.specs.declared.merklehash.MerkleHash.{MerkleHash}
use Rattle.xet_base.specs.declared.mdb_shard.Xorb.{Xorb}
use Rattle.xet_base.specs.declared.stored.StoredFile.{StoredFile}
use Rattle.xet_base.specs.Digests.{infos_of, xorb_hash_of}
use Rattle.xet_base.specs.Store.{IsValid, Store}
use Rattle.xet_audit.specs.Findings.{hash_cmp}
use Rattle.xet_audit.specs.declared.raw_store.RawFile.{RawFile}
use Rattle.xet_audit.specs.declared.raw_store.RawStore.{RawStore}
use Rattle.xet_audit.specs.Raws.{file_of_raw, store_of_raw}
use Rattle.xet_held.specs.Held.{new_numbers, passing}
use Rattle.xet_compact.specs.Compacts.{is_held, kept_file}
use Rattle.xet_compact.specs.declared.kept_xorb.KeptXorb.{KeptXorb}

-- the hash that a xorb keeps, or that of the chunks that it keeps
abbrev pub hash_by : Xorb → List (List ℕ) → MerkleHash
hash_by x cs = cond (length cs == length x.chunks) x.hash (xorb_hash_of (infos_of cs))

-- a xorb with the chunks whose numbers pass
abbrev pub kept_by : (ℕ → Bool) → Xorb → KeptXorb
kept_by p x = record {
  hash = hash_by x (passing p x.chunks);
  chunks = passing p x.chunks;
  numbers = new_numbers p (length x.chunks);
}

-- a xorb of a store, with the chunks that are held
abbrev pub kept_of : Store → Xorb → KeptXorb
kept_of s x = kept_by (is_held s x.hash) x

-- a valid store, the hashes of its xorbs, and what each keeps
pub record IsKept (raw : RawStore) (hashes : List MerkleHash) (kept : List KeptXorb) : Type 0 where
  pub valid : IsValid (store_of_raw raw)
  pub indexed : hashes ≡ map (λ x. x.hash) raw.xorbs
  pub kept_are : kept ≡ map (kept_of (store_of_raw raw)) raw.xorbs

-- a file that is kept, whose terms have no counts of bytes
pub record IsKeptFile (s : Store) (old : StoredFile) (new : RawFile) : Type 0 where
  pub is : file_of_raw new ≡ kept_file s old
  pub uncounted : All (λ t. t.bytes ≡ 0) new.terms

-- all files that are kept
pub record AreKeptFiles (s : Store) (files : List RawFile) : Type 0 where
  pub are : map file_of_raw files ≡ map (kept_file s) s.files
  pub uncounted : All (λ f. All (λ t. t.bytes ≡ 0) f.terms) files

-- it keeps a chunk, and the xorb that keeps these
abbrev pub keeps_some : KeptXorb → Bool
keeps_some k = nat_lt 0 (length k.chunks)

abbrev pub xorb_of_kept : KeptXorb → Xorb
xorb_of_kept k = record { hash = k.hash; chunks = k.chunks }

-- all files that are kept, by ascending hash
pub record AreAllFiles (s : Store) (files : List RawFile) : Type 0 where
  pub ascend : IsStrictlySortedBy hash_cmp (map (λ f. f.hash) (map file_of_raw files))
  pub same : (f : StoredFile) → Contains (map file_of_raw files) f ↔ Contains (map (kept_file s) s.files) f
  pub uncounted : All (λ f. All (λ t. t.bytes ≡ 0) f.terms) files
