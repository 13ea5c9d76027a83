-- Laws of what terms, parts and records stand for, and of ordered logs.
use Rattle.std.specs.Prelude.{ℕ, ◌≡◌, ◌<◌, ◌^◌, List, [], ◌∷◌, ◌++◌, length, map, take, find, All, Some, None}
use Rattle.std.specs.Prelude.{slice_index_or}
use Rattle.std.specs.List.{concat}
use Rattle.xet_base.specs.declared.merklehash.MerkleHash.{MerkleHash}
use Rattle.xet_base.specs.declared.mdb_shard.ChunkInfo.{ChunkInfo}
use Rattle.xet_base.specs.declared.mdb_shard.MDBFileInfo.{MDBFileInfo}
use Rattle.xet_base.specs.declared.mdb_shard.MDBXorbInfo.{MDBXorbInfo}
use Rattle.xet_base.specs.declared.mdb_shard.ShardRecord.{ShardRecord}
use Rattle.xet_base.specs.declared.mdb_shard.Xorb.{Xorb}
use Rattle.xet_base.specs.Digests.{chunk_hash_of, file_hash_of, info_of, infos_of, xorb_hash_of}
use Rattle.xet_base.specs.Hashes.{hash_eq}
use Rattle.xet_base.specs.Store.{Store, bytes_of, chunks_of, file_of}
use Rattle.xet_uploader.specs.declared.uploader.Put.{Put}
use Rattle.xet_uploader.specs.declared.uploader.Put.TheVariants as put
use Rattle.xet_uploader.specs.StoresAfter.{files_in, store_after}
use Rattle.xet_waiting.specs.declared.waiting.WaitingTerm.{WaitingTerm}
use Rattle.xet_upload.specs.FileDatas.{FoundAdded, OwnAdded, Parts, PartsStand, cut_parts, no_parts}
use Rattle.xet_upload.specs.Orders.{IsBacked, IsOrdered, IsThere, names_of}
use Rattle.xet_upload.specs.Standing.{Added, AgreeOn, AgreesWith, ChunksAgree, IsRecordIn, Stand, StandsFor, named}
use Rattle.xet_upload.specs.Standing.{shifted, term_of, world}
use Rattle.xet_waiting.specs.Waitings.{xorb_of_chunks}

-- ---- terms

-- where xorbs are added at the end, terms stand for what they stood for
abbrev pub MoreXorbs : Type 0
MoreXorbs = (s t : Store) (more : List Xorb) (own : List (List ℕ)) (ts : List WaitingTerm) (cs : List (List ℕ))
    → t.xorbs ≡ s.xorbs ++ more → Stand s own ts cs → Stand t own ts cs

-- and where chunks come behind those that wait
abbrev pub ChunksBehind : Type 0
ChunksBehind = (s : Store) (own more : List (List ℕ)) (ts : List WaitingTerm) (cs : List (List ℕ))
    → Stand s own ts cs → Stand s (own ++ more) ts cs

-- and where chunks come before them, and the terms are moved on by as many
abbrev pub ChunksBefore : Type 0
ChunksBefore = (s : Store) (front own : List (List ℕ)) (ts : List WaitingTerm) (cs : List (List ℕ))
    → length (front ++ own) < 2 ^ 32 → Stand s own ts cs
    → Stand s (front ++ own) (map (shifted (length front)) ts) cs

-- a term more, by which the last may go on, adds what it stands for
abbrev pub OneTermMore : Type 0
OneTermMore = (s : Store) (own : List (List ℕ)) (ts us : List WaitingTerm) (t : WaitingTerm) (cs ds : List (List ℕ))
    → Added ts t us → Stand s own ts cs → Stand s own (t ∷ []) ds → Stand s own us (cs ++ ds)

-- where the waiting chunks were put as a xorb, and no other xorb of its hash has another content, the terms of the
-- record stand for what the waiting ones stood for
abbrev pub ChunksAsXorb : Type 0
ChunksAsXorb = (k : Store) (log : List Put) (x : Xorb) (ts : List WaitingTerm) (cs : List (List ℕ))
    → AgreeOn (world k (log ++ put.Xorb x ∷ [])).xorbs x.hash x.chunks → Stand (world k log) x.chunks ts cs
    → Stand (world k (log ++ put.Xorb x ∷ [])) [] (map term_of (map (named x.hash) ts)) cs

-- ---- parts of a file

-- nothing that was cut stands for no bytes
abbrev pub NoParts : Type 0
NoParts = (s : Store) → PartsStand s no_parts []

-- with a chunk that waits, the parts stand for its bytes too
abbrev pub OneOwnMore : Type 0
OneOwnMore = (s : Store) (p q : Parts) (c bytes : List ℕ)
    → OwnAdded p c q → PartsStand s p bytes → PartsStand s q (bytes ++ c)

-- and with a chunk that a record has at a place, where the record is that of a stored xorb, and a chunk of that xorb
-- with the hash of this one is this one
abbrev pub OneFoundMore : Type 0
OneFoundMore = (s : Store) (p q : Parts) (c bytes : List ℕ) (r : MDBXorbInfo) (i : ℕ) (d : ChunkInfo)
    → IsRecordIn s r → i < length r.chunks → (slice_index_or r.chunks i d).hash ≡ chunk_hash_of c
    → AgreesWith (chunks_of s r.hash) c → FoundAdded p r.hash i (info_of c) q
    → PartsStand s p bytes → PartsStand s q (bytes ++ c)

-- where the chunks of its own were put as a xorb, a file's parts stand for what they stood for
abbrev pub PartsAsXorb : Type 0
PartsAsXorb = (k : Store) (log : List Put) (p : Parts) (bytes : List ℕ)
    → (let hash = xorb_hash_of (infos_of p.own.chunks) in
    AgreeOn (world k (log ++ put.Xorb (xorb_of_chunks p.own.chunks) ∷ [])).xorbs hash p.own.chunks)
    → PartsStand (world k log) p bytes
    → PartsStand (world k (log ++ put.Xorb (xorb_of_chunks p.own.chunks) ∷ [])) (cut_parts p) bytes

-- ---- logs

-- each prefix of an ordered log is ordered
abbrev pub PrefixIsOrdered : Type 0
PrefixIsOrdered = (log : List Put) (first n : ℕ) (known : List MerkleHash)
    → IsOrdered log first known → IsOrdered (take n log) first known

-- an ordered log stays ordered where a xorb is put
abbrev pub OrderedWithXorb : Type 0
OrderedWithXorb = (log : List Put) (first : ℕ) (known : List MerkleHash) (x : Xorb)
    → IsOrdered log first known → IsOrdered (log ++ put.Xorb x ∷ []) first known

-- and where a shard is put whose files name xorbs that are there
abbrev pub OrderedWithShard : Type 0
OrderedWithShard = (log : List Put) (first : ℕ) (known : List MerkleHash) (r : ShardRecord)
    → IsOrdered log first known → All (IsThere log known) (names_of r.files)
    → IsOrdered (log ++ put.Shard r ∷ []) first known

-- and where more is known
abbrev pub OrderedWithKnown : Type 0
OrderedWithKnown = (log : List Put) (first : ℕ) (known more : List MerkleHash)
    → IsOrdered log first known → IsOrdered log first (known ++ more)

-- what is there stays there where more is put and more is known
abbrev pub ThereWithMore : Type 0
ThereWithMore = (log puts : List Put) (known more : List MerkleHash) (h : MerkleHash)
    → IsThere log known h → IsThere (log ++ puts) (known ++ more) h

-- a xorb that is put is there
abbrev pub PutIsThere : Type 0
PutIsThere = (log : List Put) (known : List MerkleHash) (x : Xorb) → IsThere (log ++ put.Xorb x ∷ []) known x.hash

-- what is backed stays backed where more is put
abbrev pub BackedWithMore : Type 0
BackedWithMore = (log more : List Put) (known listed : List MerkleHash) (r : ShardRecord)
    → IsBacked log known listed r → IsBacked (log ++ more) known listed r

-- and where more is known
abbrev pub BackedWithKnown : Type 0
BackedWithKnown = (log : List Put) (known more listed : List MerkleHash) (r : ShardRecord)
    → IsBacked log known listed r → IsBacked log (known ++ more) listed r

-- ---- records

-- a file record whose terms stand for bytes, and which is the first of its hash in the log of an uploader to a store
-- that has no such file, gives these bytes in the store after the log
abbrev pub RecordResolves : Type 0
RecordResolves = (s t : Store) (log : List Put) (f : MDBFileInfo) (bytes : List ℕ) → store_after s log ≡ Some t
    → StandsFor (world s log) f.entries bytes → file_of s f.hash ≡ None
    → find (λ g. hash_eq g.hash f.hash) (files_in log) ≡ Some f → bytes_of t f.hash ≡ bytes

-- two files of one hash have the same bytes, if their hash is that of one list of hashes and lengths alone, and among
-- their chunks equal hashes mean equal bytes
abbrev pub SameHashSameBytes : Type 0
SameHashSameBytes = (cs ds : List (List ℕ)) → file_hash_of (infos_of cs) ≡ file_hash_of (infos_of ds)
    → (file_hash_of (infos_of cs) ≡ file_hash_of (infos_of ds) → infos_of cs ≡ infos_of ds)
    → ChunksAgree (cs ++ ds) → concat cs ≡ concat ds

-- so a later record of the same hash, whose file has the chunks `cs`, gives their bytes too, though the store has the
-- first record `f`, whose terms stand for the chunks `ds`
abbrev pub LaterResolves : Type 0
LaterResolves = (s t : Store) (log : List Put) (f : MDBFileInfo) (cs ds : List (List ℕ)) → store_after s log ≡ Some t
    → Stand (world s log) [] (map term_of f.entries) ds → file_of s f.hash ≡ None
    → find (λ g. hash_eq g.hash f.hash) (files_in log) ≡ Some f
    → f.hash ≡ file_hash_of (infos_of ds) → f.hash ≡ file_hash_of (infos_of cs)
    → (file_hash_of (infos_of cs) ≡ file_hash_of (infos_of ds) → infos_of cs ≡ infos_of ds)
    → ChunksAgree (cs ++ ds) → bytes_of t f.hash ≡ concat cs
