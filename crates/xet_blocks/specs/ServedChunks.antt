-- Which chunks of a file have a byte in a range, and which of them lie in served blocks.
use Rattle.std.specs.Prelude.{ℕ, suc, ◌≡◌, true, List, [], ◌∷◌, All, Contains, length, min}
use Rattle.std.specs.List.{flat_map}
use Rattle.xet_base.specs.declared.cas_types.FileRange.{FileRange}
use Rattle.xet_base.specs.declared.merklehash.MerkleHash.{MerkleHash}
use Rattle.xet_base.specs.Lists.{placed}
use Rattle.xet_base.specs.Ranges.{Covers}
use Rattle.xet_base.specs.declared.stored.StoredTerm.{StoredTerm}
use Rattle.xet_base.specs.Store.{Store, bytes_of, chunks_of_term, terms_of_file}
use Rattle.xet_outside.specs.Plan.{lengths, placed_terms, touches}
use Rattle.xet_outside.specs.declared.served.Served.{Served}

-- a chunk of a file: its xorb, its number there, its place in the file and its length
abbrev pub FileChunk : Type 0
FileChunk = MerkleHash × ℕ × ℕ × ℕ

-- chunks of a xorb from a number on, given the place and the length of each
abbrev pub chunks_from : MerkleHash → ℕ → List (ℕ × ℕ) → List FileChunk
chunks_from x k [] = []
chunks_from x k (c ∷ cs) = (x, k, c.0, c.1) ∷ chunks_from x (suc k) cs

-- the chunks of a file's term that stands at a place
abbrev pub term_chunks : Store → ℕ × StoredTerm → List FileChunk
term_chunks s t = chunks_from t.1.xorb t.1.from (placed t.0 (lengths (chunks_of_term s t.1)))

-- the chunks of a file, in order
abbrev pub file_chunks : Store → MerkleHash → List FileChunk
file_chunks s f = flat_map (term_chunks s) (placed_terms s 0 (terms_of_file s f))

-- an entry has this chunk of this xorb
abbrev pub HasChunk : Served → MerkleHash → ℕ → Type 0
HasChunk e x k = (e.xorb ≡ x) × Covers k (suc k) e.ranges

-- some entry has it
abbrev pub IsServedIn : List Served → MerkleHash → ℕ → Type 0
IsServedIn es x k = (e : Served) × Contains es e × HasChunk e x k

-- the part of a range that the file has
abbrev pub part_of : Store → MerkleHash → FileRange → FileRange
part_of s f q = record { start = q.start; end = min q.end (length (bytes_of s f)) }

-- each chunk of the file that has a byte in the window lies in an entry
abbrev pub AllServed : Store → MerkleHash → FileRange → List Served → Type 0
AllServed s f q es = All (λ c. touches (part_of s f q) (c.2, c.3) ≡ true → IsServedIn es c.0 c.1) (file_chunks s f)
