-- Which run of chunks a search finds in records of xorbs.
use Rattle.std.specs.Prelude.{ℕ, suc, ◌≡◌, ◌+◌, ◌<◌, ◌≤◌, ◌-◌, ◌^◌, ◌==◌, min, List, [], ◌∷◌, length, take, drop}
use Rattle.std.specs.Prelude.{if◌then◌else◌, Option, Some, None, option_and_then, slice_get, slice_range}
use Rattle.std.specs.List.{sum_by}
use Rattle.xet_base.specs.declared.merklehash.MerkleHash.{MerkleHash}
use Rattle.xet_base.specs.declared.mdb_shard.ChunkInfo.{ChunkInfo}
use Rattle.xet_base.specs.declared.mdb_shard.FileDataSequenceEntry.{FileDataSequenceEntry}
use Rattle.xet_base.specs.declared.mdb_shard.MDBXorbInfo.{MDBXorbInfo}
use Rattle.xet_base.specs.Hashes.{hash_eq}
use Rattle.xet_uploader.specs.XorbRecords.{first_with}

-- the chunks that a term can name
unfoldable pub counted : MDBXorbInfo → List ChunkInfo
counted x = take (2 ^ 32 - 1) x.chunks

-- how many of the hashes these chunks have in a row
abbrev pub run_of : List MerkleHash → List ChunkInfo → ℕ
run_of [] cs = 0
run_of (h ∷ hs) [] = 0
run_of (h ∷ hs) (c ∷ cs) = if hash_eq c.hash h then suc (run_of hs cs) else 0

-- the term of n chunks of a xorb from a place on; the sum of their lengths stops at 2 ^ 32 - 1
abbrev pub term_at : MDBXorbInfo → ℕ → ℕ → FileDataSequenceEntry
term_at x p n = record {
  xorb = x.hash;
  from = p;
  to = p + n;
  bytes = min (sum_by (λ c. c.length) (slice_range (counted x) p (p + n))) (2 ^ 32 - 1);
}

-- the longest run of the hashes from a place on, and how many hashes it has
abbrev pub run_at : MDBXorbInfo → List MerkleHash → ℕ → Option (ℕ × FileDataSequenceEntry)
run_at x hs p = let n = run_of hs (drop p (counted x)) in if n == 0 then None else Some (n, term_at x p n)

-- the run in the first record that has this hash, from the lowest place of the hash on
abbrev pub find_run : List MDBXorbInfo → MerkleHash → List MerkleHash → Option (ℕ × FileDataSequenceEntry)
find_run rs h hs =
    option_and_then (λ p. option_and_then (λ x. run_at x hs p.chunk) (slice_get rs p.xorb)) (first_with rs h)

-- the run of the hashes, by the first of them
abbrev pub find_in : List MDBXorbInfo → List MerkleHash → Option (ℕ × FileDataSequenceEntry)
find_in rs [] = None
find_in rs (h ∷ hs) = find_run rs h (h ∷ hs)

-- an answer of the right form, whatever the store holds
pub record IsRun (hashes : List MerkleHash) (n : ℕ) (e : FileDataSequenceEntry) : Type 0 where
  pub some : 0 < n
  pub most : n ≤ length hashes
  pub count : e.from + n ≡ e.to
