-- What a store's xorbs and files have of another's.
use Rattle.std.specs.Prelude.{ℕ, ◌≡◌, List, Some, All}
use Rattle.std.specs.List.{concat, flat_map}
use Rattle.xet_base.specs.declared.mdb_shard.Xorb.{Xorb}
use Rattle.xet_base.specs.declared.stored.StoredFile.{StoredFile}
use Rattle.xet_base.specs.declared.stored.StoredTerm.{StoredTerm}
use Rattle.xet_base.specs.Store.{Store, chunks_of_term, file_of, xorb_of}

-- the bytes of some terms
abbrev pub bytes_in : Store → List StoredTerm → List ℕ
bytes_in s ts = concat (flat_map (chunks_of_term s) ts)

-- a xorb of this hash that the store has has the same chunks
abbrev pub HasChunks : Store → Xorb → Type 0
HasChunks t x = (y : Xorb) → xorb_of t x.hash ≡ Some y → x.chunks ≡ y.chunks

-- all xorbs of a store that another has have the same chunks there
abbrev pub XorbsAgree : Store → Store → Type 0
XorbsAgree s t = All (HasChunks t) s.xorbs

-- a file of this hash that the other store has has the same bytes
abbrev pub HasBytes : Store → Store → StoredFile → Type 0
HasBytes s t f = (g : StoredFile) → file_of t f.hash ≡ Some g → bytes_in s f.terms ≡ bytes_in t g.terms

-- all files of a store that another has have the same bytes there
abbrev pub FilesAgree : Store → Store → Type 0
FilesAgree s t = All (HasBytes s t) s.files
