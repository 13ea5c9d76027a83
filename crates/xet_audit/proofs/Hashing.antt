-- Records of chunks, and hashes that are fed with them.
use Rattle.std.proofs.Common.{◌≡◌, ℕ, zero, suc, ◌+◌, ◌-◌, ◌^◌, ◌<◌, ◌≤◌, Bool, true, false, cond, ◌&&◌, List, [], ◌∷◌, ◌++◌, length, map, take, drop, get_or, refl, sym, ◌∙◌, ap, arith, subst, append_assoc, append-nil, Option, Some, None}
use Rattle.std.specs.Prelude.{nat_lt, slice_range}
use Rattle.std.specs.Int.{to_be_bytes, w32}
use Rattle.std.specs.List.{flat_map}
use Rattle.std.proofs.lemmas.Bool.{false≢true, le-ltb, lt-ltb}
use Rattle.std.proofs.lemmas.List.{drop-map, get_or-map, length-map, map-append, take-map, take_all, take_more}
use Rattle.std.proofs.lemmas.List.Concat.{flat_map-append}
use Rattle.std.proofs.lemmas.List.Folds.{list_all-append, list_all_at}
use Rattle.sha2.specs.Hashers.{Holds256}
use Rattle.sha2.specs.Sha256.{sha256}
use Rattle.sha2.specs.declared.Sha256.{Sha256}
use Rattle.xet_base.specs.declared.mdb_shard.ChunkInfo.{ChunkInfo}
use Rattle.xet_base.specs.declared.merklehash.MerkleHash.{MerkleHash}
use Rattle.xet_base.specs.declared.stored.StoredTerm.{StoredTerm}
use Rattle.xet_base.specs.Digests.{chunks_text, file_hash_of, info_of, infos_of, xorb_hash_of}
use Rattle.xet_base.specs.Hashes.{hash_eq}
use Rattle.xet_base.specs.Store.{Store, chunks_of_term}
use Rattle.xet_audit.specs.Findings.{are_short, is_file_hash, is_xorb_hash}
use Rattle.xet_audit.specs.steps.Records.{Fed, record_of}
use Rattle.xet_audit.proofs.Lists.{next}

-- ---- records

pub record_long : (c : List ℕ) → 2 ^ 32 ≤ length c → record_of c ≡ None
record_long c h = ap (λ (b : Bool). cond b (Some (info_of c)) None) (le-ltb (length c) (2 ^ 32) h)

pub record_short : (c : List ℕ) → length c < 2 ^ 32 → record_of c ≡ Some (info_of c)
record_short c h = ap (λ (b : Bool). cond b (Some (info_of c)) None) (lt-ltb (length c) (2 ^ 32) h)

short_of : (c : List ℕ) (info : ChunkInfo) → record_of c ≡ Some info → (nat_lt (length c) (2 ^ 32) ≡ true) × (info ≡ info_of c)
short_of c info e = go (nat_lt (length c) (2 ^ 32)) e
  where
    go : (b : Bool) → cond b (Some (info_of c)) None ≡ Some info → (b ≡ true) × (info ≡ info_of c)
    go true f = (refl, cc)
    go false f = absurd cc

long_of : (c : List ℕ) → record_of c ≡ None → nat_lt (length c) (2 ^ 32) ≡ false
long_of c e = go (nat_lt (length c) (2 ^ 32)) e
  where
    go : (b : Bool) → cond b (Some (info_of c)) None ≡ None → b ≡ false
    go true f = absurd cc
    go false f = refl

-- ---- what is fed

text_more : (cs ds : List (List ℕ)) → chunks_text (infos_of (cs ++ ds)) ≡ chunks_text (infos_of cs) ++ chunks_text (infos_of ds)
text_more cs ds = ap chunks_text (map-append info_of cs ds) ∙ flat_map-append (λ (c : ChunkInfo). c.hash.0 ++ to_be_bytes w32 c.length) (infos_of cs) (infos_of ds)

pub short_more : (cs ds : List (List ℕ)) → are_short (cs ++ ds) ≡ (are_short cs && are_short ds)
short_more cs ds = list_all-append (λ c. nat_lt (length c) (2 ^ 32)) cs ds

both : (a b : Bool) → a ≡ true → b ≡ true → (a && b) ≡ true
both true b e f = f
both false b e f = absurd (false≢true e)

not_both : (a b : Bool) → b ≡ false → (a && b) ≡ false
not_both true b e = e
not_both false b e = refl

not_first : (a b : Bool) → a ≡ false → (a && b) ≡ false
not_first a b e = ap (λ c. c && b) e

pub fed_none : (h : Sha256) → Fed h h []
fed_none h = record { short = refl; holds = λ m held. subst (Holds256 h) (sym (append-nil m)) held }

pub fed_more : (a b c : Sha256) (cs ds : List (List ℕ)) → Fed a b cs → Fed b c ds → Fed a c (cs ++ ds)
fed_more a b c cs ds one two = record {
  short = short_more cs ds ∙ both (are_short cs) (are_short ds) one.short two.short;
  holds = λ m held.
      subst (Holds256 c)
      (append_assoc m (chunks_text (infos_of cs)) (chunks_text (infos_of ds)) ∙ ap (λ (t : List ℕ). m ++ t) (sym (text_more cs ds)))
      (two.holds (m ++ chunks_text (infos_of cs)) (one.holds m held));
}

-- one chunk, its hash first and then its length
pub fed_one : (a b c : Sha256) (chunk : List ℕ) (info : ChunkInfo) → record_of chunk ≡ Some info → ((m : List ℕ) → Holds256 a m → Holds256 b (m ++ info.hash.0))
    → ((m : List ℕ) → Holds256 b m → Holds256 c (m ++ to_be_bytes w32 info.length)) → Fed a c (chunk ∷ [])
fed_one a b c chunk info is first last =
    let own = short_of chunk info is in record {
      short = both (nat_lt (length chunk) (2 ^ 32)) true own.0 refl;
      holds = λ m held.
          subst (Holds256 c)
          (append_assoc m info.hash.0 (to_be_bytes w32 info.length)
          ∙ ap (λ (i : ChunkInfo). m ++ (i.hash.0 ++ to_be_bytes w32 i.length)) own.1
          ∙ ap (λ (t : List ℕ). m ++ t) (sym (append-nil ((info_of chunk).hash.0 ++ to_be_bytes w32 (info_of chunk).length))))
          (last (m ++ info.hash.0) (first m held));
    }

-- ---- records in turn

module _ (records : List (Option ChunkInfo)) (cs : List (List ℕ)) (are : records ≡ map record_of cs) where
  pub records_count : length records ≡ length cs
  records_count = ap length are ∙ length-map cs record_of

  record_at : (i : ℕ) (d : List ℕ) (o : Option ChunkInfo) → i < length records → o ≡ get_or records i o → o ≡ record_of (get_or cs i d)
  record_at i d o h is = is ∙ ap (λ (rs : List (Option ChunkInfo)). get_or rs i o) are ∙ get_or-map record_of cs i d o (omega (arith, records_count))

  -- the next is short
  pub feed_next : (i : ℕ) (a b c d : Sha256) (info : ChunkInfo) (o : Option ChunkInfo) → i < length records → o ≡ get_or records i o → o ≡ Some info → Fed a b (take i cs)
      → ((m : List ℕ) → Holds256 b m → Holds256 c (m ++ info.hash.0)) → ((m : List ℕ) → Holds256 c m → Holds256 d (m ++ to_be_bytes w32 info.length))
      → Fed a d (take (i + 1) cs)
  feed_next i a b c d info o h is some was first last =
      let chunk = get_or cs i [] in
      let own : record_of chunk ≡ Some info = sym (record_at i [] o h is) ∙ some in
      let step : take (i + 1) cs ≡ take i cs ++ chunk ∷ [] = take_more cs i [] (omega (arith, records_count)) in
      subst (Fed a d) (sym step) (fed_more a b d (take i cs) (chunk ∷ []) was (fed_one b c d chunk info own first last))

  -- the next is long
  pub feed_stops : (i : ℕ) (o : Option ChunkInfo) → i < length records → o ≡ get_or records i o → o ≡ None → are_short cs ≡ false
  feed_stops i o h is none =
      list_all_at (λ c. nat_lt (length c) (2 ^ 32)) cs i [] (omega (arith, records_count)) (long_of (get_or cs i []) (sym (record_at i [] o h is) ∙ none))

  pub feed_all : (i : ℕ) (a b : Sha256) → length records ≤ i → Fed a b (take i cs) → Fed a b cs
  feed_all i a b past was = subst (Fed a b) (take_all i cs (omega (arith, records_count))) was

-- ---- the hashes of xorbs and files

pub xorb_hash_is : (h found : MerkleHash) (cs : List (List ℕ)) (bytes : List ℕ) → found.0 ≡ sha256 bytes → bytes ≡ 1 ∷ chunks_text (infos_of cs) → are_short cs ≡ true
    → hash_eq h found ≡ is_xorb_hash h cs
unfolding xorb_hash_of
xorb_hash_is h found cs bytes digest text short =
    let same : found ≡ xorb_hash_of (infos_of cs) = ap (λ (b : List ℕ). let m : MerkleHash = record { 0 = b } in m) (digest ∙ ap sha256 text) in
    ap (hash_eq h) same ∙ sym (ap (λ b. b && hash_eq h (xorb_hash_of (infos_of cs))) short)

pub file_hash_is : (h found : MerkleHash) (cs : List (List ℕ)) (bytes : List ℕ) → found.0 ≡ sha256 bytes → bytes ≡ 2 ∷ chunks_text (infos_of cs) → are_short cs ≡ true
    → hash_eq h found ≡ is_file_hash h cs
unfolding file_hash_of
file_hash_is h found cs bytes digest text short =
    let same : found ≡ file_hash_of (infos_of cs) = ap (λ (b : List ℕ). let m : MerkleHash = record { 0 = b } in m) (digest ∙ ap sha256 text) in
    ap (hash_eq h) same ∙ sym (ap (λ b. b && hash_eq h (file_hash_of (infos_of cs))) short)

pub no_xorb_hash : (h : MerkleHash) (cs : List (List ℕ)) → are_short cs ≡ false → is_xorb_hash h cs ≡ false
no_xorb_hash h cs e = not_first (are_short cs) (hash_eq h (xorb_hash_of (infos_of cs))) e

pub no_file_hash : (h : MerkleHash) (cs : List (List ℕ)) → are_short cs ≡ false → is_file_hash h cs ≡ false
no_file_hash h cs e = not_first (are_short cs) (hash_eq h (file_hash_of (infos_of cs))) e

-- ---- the chunks of terms

-- the records of a part are those of the part's chunks
pub part_records : (records : List (Option ChunkInfo)) (cs : List (List ℕ)) (a b : ℕ) → records ≡ map record_of cs → slice_range records a b ≡ map record_of (slice_range cs a b)
part_records records cs a b e =
    ap (λ (rs : List (Option ChunkInfo)). slice_range rs a b) e ∙ ap (take (b - a)) (drop-map record_of a cs) ∙ take-map record_of (b - a) (drop a cs)

module _ (s : Store) (ts : List StoredTerm) (i : ℕ) (t : StoredTerm) (h : i < length ts) (is : t ≡ get_or ts i t) where
  pub chunks_more : flat_map (chunks_of_term s) (take (i + 1) ts) ≡ flat_map (chunks_of_term s) (take i ts) ++ chunks_of_term s t
  chunks_more =
      ap (flat_map (chunks_of_term s)) (next ts i t h is) ∙ flat_map-append (chunks_of_term s) (take i ts) (t ∷ [])
      ∙ ap (λ (cs : List (List ℕ)). flat_map (chunks_of_term s) (take i ts) ++ cs) (append-nil (chunks_of_term s t))

  pub feed_term_more : (a b c : Sha256) → Fed a b (flat_map (chunks_of_term s) (take i ts)) → Fed b c (chunks_of_term s t) → Fed a c (flat_map (chunks_of_term s) (take (i + 1) ts))
  feed_term_more a b c was now = subst (Fed a c) (sym chunks_more) (fed_more a b c (flat_map (chunks_of_term s) (take i ts)) (chunks_of_term s t) was now)

-- a term with a long chunk is one of terms with a long chunk
pub long_within : (s : Store) (ts : List StoredTerm) (i : ℕ) (d : StoredTerm) → i < length ts → are_short (chunks_of_term s (get_or ts i d)) ≡ false → are_short (flat_map (chunks_of_term s) ts) ≡ false
long_within s [] i d h e = absurd (omega arith)
long_within s (t ∷ ts) zero d h e = short_more (chunks_of_term s t) (flat_map (chunks_of_term s) ts) ∙ not_first (are_short (chunks_of_term s t)) (are_short (flat_map (chunks_of_term s) ts)) e
long_within s (t ∷ ts) (suc i) d h e =
    short_more (chunks_of_term s t) (flat_map (chunks_of_term s) ts)
    ∙ not_both (are_short (chunks_of_term s t)) (are_short (flat_map (chunks_of_term s) ts)) (long_within s ts i d (omega arith) e)
