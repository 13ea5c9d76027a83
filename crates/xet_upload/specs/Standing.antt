-- What terms stand for: the chunks that they name, in a store's xorbs and in data that waits to become a xorb.
use Rattle.std.specs.Prelude.{ℕ, ◌^◌, ◌≡◌, ◌⊎◌, ◌+◌, ◌<◌, ◌≤◌, List, [], ◌∷◌, ◌++◌, length, map, All}
use Rattle.std.specs.Prelude.{Contains, IsSome, slice_range}
use Rattle.std.specs.List.{concat, flat_map}
use Rattle.xet_base.specs.declared.merklehash.MerkleHash.{MerkleHash}
use Rattle.xet_base.specs.declared.mdb_shard.Xorb.{Xorb}
use Rattle.xet_base.specs.declared.mdb_shard.FileDataSequenceEntry.{FileDataSequenceEntry}
use Rattle.xet_base.specs.declared.mdb_shard.MDBXorbInfo.{MDBXorbInfo}
use Rattle.xet_base.specs.Digests.{chunk_hash_of, infos_of}
use Rattle.xet_base.specs.Store.{Store, xorb_of, chunks_of}
use Rattle.xet_uploader.specs.declared.uploader.Put.{Put}
use Rattle.xet_uploader.specs.Uploads.{xorbs_in}
use Rattle.xet_waiting.specs.declared.waiting.TermXorb.{TermXorb}
use Rattle.xet_waiting.specs.declared.waiting.TermXorb.TheVariants.{Own, Stored}
use Rattle.xet_waiting.specs.declared.waiting.WaitingTerm.{WaitingTerm}
pub use Rattle.xet_waiting.specs.Waitings.{named, named_xorb, shift_by, shifted}

-- the xorbs of a store and then those of a log: of two with one hash the first is found
abbrev pub world : Store → List Put → Store
world k log = record { xorbs = k.xorbs ++ xorbs_in log; files = [] }

-- the chunks that a term counts in: those that wait beside it, or those of a stored xorb
abbrev pub place_of : Store → List (List ℕ) → TermXorb → List (List ℕ)
place_of s own Own = own
place_of s own (Stored h) = chunks_of s h

-- the xorb is stored, where the term names one
abbrev pub IsPlace : Store → TermXorb → Type 0
IsPlace s Own = Unit {0}
IsPlace s (Stored h) = IsSome (xorb_of s h)

abbrev pub chunks_at : Store → List (List ℕ) → WaitingTerm → List (List ℕ)
chunks_at s own t = slice_range (place_of s own t.xorb) t.from t.to

-- the term names chunks, at least one, and has the number of their bytes
pub record IsTerm (s : Store) (own : List (List ℕ)) (t : WaitingTerm) : Type 0 where
  pub some : t.from < t.to
  pub stored : IsPlace s t.xorb
  pub inside : t.to ≤ length (place_of s own t.xorb)
  pub bytes : t.bytes ≡ length (concat (chunks_at s own t))

-- the terms name chunks, and these are `cs`
pub record Stand (s : Store) (own : List (List ℕ)) (ts : List WaitingTerm) (cs : List (List ℕ)) : Type 0 where
  pub each : All (IsTerm s own) ts
  pub joined : flat_map (chunks_at s own) ts ≡ cs

-- ---- the terms of a file record

-- the term of a record as one that waits for nothing
abbrev pub term_of : FileDataSequenceEntry → WaitingTerm
term_of e = record { xorb = Stored e.xorb; from = e.from; to = e.to; bytes = e.bytes }

-- the terms of a file record stand for these bytes
pub record StandsFor (s : Store) (es : List FileDataSequenceEntry) (bytes : List ℕ) : Type 0 where
  pub chunks : List (List ℕ)
  pub stand : Stand s [] (map term_of es) chunks
  pub bytes_are : bytes ≡ concat chunks

-- ---- changes of terms

-- the term that goes on to the end of the next one
abbrev pub continue : WaitingTerm → WaitingTerm → WaitingTerm
continue l t = record l { to = t.to; bytes = l.bytes + t.bytes }

-- the chunks of the second term follow those of the first in one xorb
abbrev pub IsContinued : WaitingTerm → WaitingTerm → Type 0
IsContinued l t = (l.xorb ≡ t.xorb) × (l.to ≡ t.from)

-- the last of the terms can go on by this one: its chunks follow, and the bytes of both can be counted
pub record GoesOn (ts : List WaitingTerm) (t : WaitingTerm) : Type 0 where
  pub front : List WaitingTerm
  pub last : WaitingTerm
  pub before : ts ≡ front ++ last ∷ []
  pub follows : IsContinued last t
  pub fits : last.bytes + t.bytes < 2 ^ 32

-- the last term is continued by a term whose chunks follow its own in the same xorb
pub record Continued (ts : List WaitingTerm) (t : WaitingTerm) (us : List WaitingTerm) : Type 0 where
  pub front : List WaitingTerm
  pub last : WaitingTerm
  pub xorb : last.xorb ≡ t.xorb
  pub starts : last.to ≡ t.from
  pub before : ts ≡ front ++ last ∷ []
  pub after : us ≡ front ++ continue last t ∷ []

-- a term more
abbrev pub Added : List WaitingTerm → WaitingTerm → List WaitingTerm → Type 0
Added ts t us = (us ≡ ts ++ t ∷ []) ⊎ Continued ts t us

-- ---- equal hashes

-- among xorbs with this hash there is one content
abbrev pub AgreeOn : List Xorb → MerkleHash → List (List ℕ) → Type 0
AgreeOn xs h cs = (x : Xorb) → Contains xs x → x.hash ≡ h → x.chunks ≡ cs

-- a chunk of these that has the hash of `c` is `c`
abbrev pub AgreesWith : List (List ℕ) → List ℕ → Type 0
AgreesWith cs c = (a : List ℕ) → Contains cs a → chunk_hash_of a ≡ chunk_hash_of c → a ≡ c

-- among these chunks equal hashes mean equal bytes
abbrev pub ChunksAgree : List (List ℕ) → Type 0
ChunksAgree cs = (a b : List ℕ) → Contains cs a → Contains cs b → chunk_hash_of a ≡ chunk_hash_of b → a ≡ b

-- the record has the hash and length of each chunk of the stored xorb with its hash
pub record IsRecordIn (s : Store) (r : MDBXorbInfo) : Type 0 where
  pub stored : IsSome (xorb_of s r.hash)
  pub chunks : r.chunks ≡ infos_of (chunks_of s r.hash)
