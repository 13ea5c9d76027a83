-- What was cut of a file, and what it stands for.
use Rattle.std.specs.Prelude.{ℕ, ◌≡◌, ◌+◌, List, [], ◌∷◌, ◌++◌, length, map, Option}
use Rattle.std.specs.List.{concat}
use Rattle.xet_base.specs.declared.merklehash.MerkleHash.{MerkleHash}
use Rattle.xet_base.specs.declared.mdb_shard.ChunkInfo.{ChunkInfo}
use Rattle.xet_base.specs.Digests.{info_of, infos_of, xorb_hash_of}
use Rattle.xet_base.specs.Store.{Store}
use Rattle.xet_waiting.specs.declared.waiting.TermXorb.TheVariants.{Own, Stored}
use Rattle.xet_waiting.specs.declared.waiting.WaitingTerm.{WaitingTerm}
use Rattle.xet_upload.specs.Standing.{Stand, Added, GoesOn, term_of, named}
use Rattle.xet_waiting.specs.Waitings.{Waiting, no_waiting}

-- what was cut of a file: the chunks of its own that wait, its terms, and the hash and length of each of its chunks
pub record Parts : Type 0 where
  pub own : Waiting
  pub terms : List WaitingTerm
  pub infos : List ChunkInfo

abbrev pub no_parts : Parts
no_parts = record { own = no_waiting; terms = []; infos = [] }

-- the term, given the hash of the xorb that the waiting chunks became
abbrev pub renamed : MerkleHash → WaitingTerm → WaitingTerm
renamed h t = term_of (named h t)

-- the parts after the chunks that waited became a xorb: no terms count in waiting chunks any more
abbrev pub cut_parts : Parts → Parts
cut_parts p = record p { own = no_waiting; terms = map (renamed (xorb_hash_of (infos_of p.own.chunks))) p.terms }

-- the chunks that wait, with the file that was cut
abbrev pub with_file : Parts → ℕ → MerkleHash → Option MerkleHash → Waiting
with_file p id h sha = record p.own {
  files = p.own.files ++ record { file_id = id; hash = h; terms = p.terms; sha256 = sha } ∷ [];
}

-- the parts stand for these bytes of the file
pub record PartsStand (s : Store) (p : Parts) (bytes : List ℕ) : Type 0 where
  pub chunks : List (List ℕ)
  pub stand : Stand s p.own.chunks p.terms chunks
  pub infos_are : p.infos ≡ infos_of chunks
  pub bytes_are : bytes ≡ concat chunks

-- a chunk was added to those that wait; it is no term of its own where the last one goes on by it
pub record OwnAdded (p : Parts) (c : List ℕ) (q : Parts) : Type 0 where
  pub term : WaitingTerm
  pub xorb : term.xorb ≡ Own
  pub from : term.from ≡ length p.own.chunks
  pub to : term.to ≡ length p.own.chunks + 1
  pub bytes : term.bytes ≡ length c
  pub added : Added p.terms term q.terms
  pub joined : GoesOn p.terms term → length q.terms ≡ length p.terms
  pub own : q.own ≡ record p.own { chunks = p.own.chunks ++ c ∷ [] }
  pub infos : q.infos ≡ p.infos ++ info_of c ∷ []

-- a chunk was added that a xorb has at a place; it is no term of its own where the last one goes on by it
pub record FoundAdded (p : Parts) (x : MerkleHash) (i : ℕ) (info : ChunkInfo) (q : Parts) : Type 0 where
  pub term : WaitingTerm
  pub xorb : term.xorb ≡ Stored x
  pub from : term.from ≡ i
  pub to : term.to ≡ i + 1
  pub bytes : term.bytes ≡ info.length
  pub added : Added p.terms term q.terms
  pub joined : GoesOn p.terms term → length q.terms ≡ length p.terms
  pub own : q.own ≡ p.own
  pub infos : q.infos ≡ p.infos ++ info ∷ []
