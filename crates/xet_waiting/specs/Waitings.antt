-- Data that waits to become a xorb, with the files that it belongs to.
use Rattle.std.specs.Prelude.{ℕ, ◌≡◌, ◌+◌, ◌<◌, ◌≤◌, ◌-◌, ◌^◌, min, List, [], ◌++◌, length, map, All}
use Rattle.std.specs.List.{concat, sum_by}
use Rattle.xet_base.specs.declared.merklehash.MerkleHash.{MerkleHash}
use Rattle.xet_base.specs.declared.mdb_shard.Xorb.{Xorb}
use Rattle.xet_base.specs.declared.mdb_shard.ChunkInfo.{ChunkInfo}
use Rattle.xet_base.specs.declared.mdb_shard.FileDataSequenceEntry.{FileDataSequenceEntry}
use Rattle.xet_base.specs.declared.mdb_shard.MDBFileInfo.{MDBFileInfo}
use Rattle.xet_base.specs.Digests.{infos_of, xorb_hash_of}
use Rattle.xet_waiting.specs.declared.waiting.TermXorb.{TermXorb}
use Rattle.xet_waiting.specs.declared.waiting.TermXorb.TheVariants.{Own, Stored}
use Rattle.xet_waiting.specs.declared.waiting.WaitingFile.{WaitingFile}
use Rattle.xet_waiting.specs.declared.waiting.WaitingTerm.{WaitingTerm}
use Rattle.xet_waiting.specs.declared.raw_xorb.PendingFile.{PendingFile}
use Rattle.xet_waiting.specs.Limits.{most_xorb_bytes, most_xorb_chunks}

-- ---- terms

-- the term, given the hash of the xorb that the waiting chunks became
abbrev pub named_xorb : MerkleHash → TermXorb → MerkleHash
named_xorb h Own = h
named_xorb h (Stored x) = x

abbrev pub named : MerkleHash → WaitingTerm → FileDataSequenceEntry
named h t = record { xorb = named_xorb h t.xorb; from = t.from; to = t.to; bytes = t.bytes }

-- the term, where so many chunks were put before the waiting ones; numbers of chunks are below 2 ^ 32
abbrev pub shift_by : ℕ → TermXorb → ℕ → ℕ
shift_by n Own k = min (k + n) (2 ^ 32 - 1)
shift_by n (Stored x) k = k

abbrev pub shifted : ℕ → WaitingTerm → WaitingTerm
shifted n t = record t { from = shift_by n t.xorb t.from; to = shift_by n t.xorb t.to }

-- ---- chunks and files

-- the chunks, and the files whose terms may count in them
pub record Waiting : Type 0 where
  pub chunks : List (List ℕ)
  pub files : List WaitingFile

abbrev pub no_waiting : Waiting
no_waiting = record { chunks = []; files = [] }

-- a xorb of these chunks is within the limits
abbrev pub IsWithin : List (List ℕ) → Type 0
IsWithin cs = (length cs ≤ most_xorb_chunks) × (length (concat cs) ≤ most_xorb_bytes)

-- a range of waiting chunks is not empty and ends within n of them; one of stored chunks may be any
abbrev pub LiesIn : ℕ → TermXorb → ℕ → ℕ → Type 0
LiesIn n Own a b = (a < b) × (b ≤ n)
LiesIn n (Stored x) a b = Unit {0}

-- a term that counts in the waiting chunks lies within n of them
abbrev pub IsCounted : ℕ → WaitingTerm → Type 0
IsCounted n t = LiesIn n t.xorb t.from t.to

abbrev pub AreCounted : ℕ → List WaitingFile → Type 0
AreCounted n fs = All (λ f. All (IsCounted n) f.terms) fs

-- each chunk has a byte
abbrev pub HaveBytes : List (List ℕ) → Type 0
HaveBytes cs = All (λ c. 0 < length c) cs

-- what an aggregator keeps beside the chunks and the files
pub record IsKept (chunks : List (List ℕ)) (infos : List ChunkInfo) (bytes : ℕ)
    (files : List WaitingFile) : Type 0 where
  pub infos_are : infos ≡ infos_of chunks
  pub bytes_are : bytes ≡ length (concat chunks)
  pub within : IsWithin chunks
  pub some : HaveBytes chunks
  pub counted : AreCounted (length chunks) files

abbrev pub file_shifted : ℕ → WaitingFile → WaitingFile
file_shifted n f = record f { terms = map (shifted n) f.terms }

-- one after the other
abbrev pub merged : Waiting → Waiting → Waiting
merged a b = record { chunks = a.chunks ++ b.chunks; files = a.files ++ map (file_shifted (length a.chunks)) b.files }

-- the xorb that the chunks become
abbrev pub xorb_of_chunks : List (List ℕ) → Xorb
xorb_of_chunks cs = record { hash = xorb_hash_of (infos_of cs); chunks = cs }

-- the record of a file, given the hash of the xorb
abbrev pub record_of_file : MerkleHash → WaitingFile → MDBFileInfo
record_of_file h f = record { hash = f.hash; entries = map (named h) f.terms; sha256 = f.sha256 }

-- how many bytes of a term wait
abbrev pub own_bytes : TermXorb → ℕ → ℕ
own_bytes Own n = n
own_bytes (Stored x) n = 0

-- a file of finished waiting data: its record, and how many of its bytes are in the xorb
pub record IsPending (h : MerkleHash) (f : WaitingFile) (p : PendingFile) : Type 0 where
  pub file_id : p.file_id ≡ f.file_id
  pub info : p.info ≡ record_of_file h f
  pub bytes : p.bytes_in_xorb ≡ min (sum_by (λ t. own_bytes t.xorb t.bytes) f.terms) (2 ^ 64 - 1)
