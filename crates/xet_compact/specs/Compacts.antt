-- What is left of a store when chunks that no term holds are dropped.
use Rattle.std.specs.Prelude.{ℕ, ◌≡◌, ◌≢◌, ◌<◌, ◌==◌, ◌↔◌, Bool, cond, not, List, map, length, filter}
use Rattle.std.specs.Prelude.{All, Contains, IsTrue, option_map, unwrap_or}
use Rattle.std.specs.List.{count_by, enumerate_from, list_any, range_with_len, sum_by}
use Rattle.std.specs.List.Sorted.{IsStrictlySortedBy}
use Rattle.xet_base.specs.declared.merklehash.MerkleHash.{MerkleHash}
use Rattle.xet_base.specs.declared.mdb_shard.Xorb.{Xorb}
use Rattle.xet_base.specs.declared.stored.StoredFile.{StoredFile}
use Rattle.xet_base.specs.declared.stored.StoredTerm.{StoredTerm}
use Rattle.xet_base.specs.Digests.{infos_of, xorb_hash_of}
use Rattle.xet_base.specs.Store.{IsValid, Store, bytes_of, xorb_of}
use Rattle.xet_audit.specs.Findings.{hash_cmp, is_named}
use Rattle.xet_held.specs.Held.{covers}

-- ---- what is kept

-- a term of a file holds the chunk of this number of this xorb
abbrev pub is_held : Store → MerkleHash → ℕ → Bool
is_held s x k = list_any (λ f. list_any (covers x k) f.terms) s.files

-- how many of a xorb's chunks before this number are held
abbrev pub held_before : Store → MerkleHash → ℕ → ℕ
held_before s x k = count_by (is_held s x) (range_with_len 0 k)

-- the held chunks of a xorb
abbrev pub held_chunks : Store → Xorb → List (List ℕ)
held_chunks s x = map (λ p. p.1) (filter (λ p. is_held s x.hash p.0) (enumerate_from 0 x.chunks))

-- a xorb that keeps all its chunks keeps its hash; another gets that of those which it keeps
abbrev pub kept_hash : Store → Xorb → MerkleHash
kept_hash s x =
    cond (length (held_chunks s x) == length x.chunks) x.hash (xorb_hash_of (infos_of (held_chunks s x)))

abbrev pub kept_xorb : Store → Xorb → Xorb
kept_xorb s x = record { hash = kept_hash s x; chunks = held_chunks s x }

-- the xorbs that files name, as they are kept
abbrev pub kept_xorbs : Store → List Xorb
kept_xorbs s = map (kept_xorb s) (filter (λ x. is_named s x.hash) s.xorbs)

-- a term, by the hash that its xorb keeps or gets and by the chunks' new numbers
abbrev pub kept_term : Store → StoredTerm → StoredTerm
kept_term s t = record {
  xorb = unwrap_or (option_map (kept_hash s) (xorb_of s t.xorb)) t.xorb;
  from = held_before s t.xorb t.from;
  to = held_before s t.xorb t.to;
}

-- a file keeps its hash
abbrev pub kept_file : Store → StoredFile → StoredFile
kept_file s f = record { hash = f.hash; terms = map (kept_term s) f.terms }

-- how many chunks no term holds
abbrev pub dropped_count : Store → ℕ
dropped_count s = sum_by (λ x. count_by (λ p. not (is_held s x.hash p.0)) (enumerate_from 0 x.chunks)) s.xorbs

-- ---- the compacted store

-- two kept lists of chunks that differ would stand under this hash
pub record Clashes (s : Store) (h : MerkleHash) : Type 0 where
  pub one : Xorb
  pub other : Xorb
  pub one_kept : Contains (kept_xorbs s) one
  pub other_kept : Contains (kept_xorbs s) other
  pub same_hash : (one.hash ≡ h) × (other.hash ≡ h)
  pub differ : one.chunks ≢ other.chunks

-- the store has exactly the kept xorbs, each once, and exactly the kept files, both by ascending hash
pub record IsCompacted (s t : Store) : Type 0 where
  pub xorbs_ascend : IsStrictlySortedBy hash_cmp (map (λ x. x.hash) t.xorbs)
  pub files_ascend : IsStrictlySortedBy hash_cmp (map (λ f. f.hash) t.files)
  pub xorbs : (x : Xorb) → Contains t.xorbs x ↔ Contains (kept_xorbs s) x
  pub files : (f : StoredFile) → Contains t.files f ↔ Contains (map (kept_file s) s.files) f

-- ---- what it is for

-- each chunk of the store is held
abbrev pub AllHeld : Store → Type 0
AllHeld t = All (λ x. (k : ℕ) → k < length x.chunks → IsTrue (is_held t x.hash k)) t.xorbs

-- each xorb of it is named
abbrev pub NoneSpare : Store → Type 0
NoneSpare t = All (λ x. IsTrue (is_named t x.hash)) t.xorbs

-- the store is valid, has the same files with the same bytes and nothing else, and compacting it again changes nothing
pub record Serves (s t : Store) : Type 0 where
  pub valid : IsValid t
  pub same_files : (f : MerkleHash) → Contains (map (λ x. x.hash) t.files) f ↔ Contains (map (λ x. x.hash) s.files) f
  pub same_bytes : (f : MerkleHash) → bytes_of t f ≡ bytes_of s f
  pub held : AllHeld t
  pub named : NoneSpare t
  pub again : IsCompacted t t
  pub none_dropped : dropped_count t ≡ 0
