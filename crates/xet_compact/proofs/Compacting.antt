-- A compacted store of its sorted parts.
use Rattle.std.proofs.Common.{◌≡◌, ℕ, ◌<◌, Bool, true, false, MatchBool, List, [], ◌∷◌, length, map, get_or, refl, sym, ◌∙◌, ap, subst, arith, ◌↔◌, All, AllPairs, Contains, IsPermutation}
use Rattle.std.specs.List.Sorted.{IsStrictlySortedBy}
use Rattle.std.proofs.lemmas.List.{get_or-map, length-map}
use Rattle.std.proofs.lemmas.List.Sorted.{All-permutation, Contains-permutation, IsPermutation-map, IsPermutation-sym}
use Rattle.xet_base.specs.declared.merklehash.MerkleHash.{MerkleHash}
use Rattle.xet_base.specs.declared.mdb_shard.Xorb.{Xorb}
use Rattle.xet_base.specs.declared.stored.StoredFile.{StoredFile}
use Rattle.xet_base.specs.Hashes.{hash_eq}
use Rattle.xet_base.specs.Store.{IsValid, Store}
use Rattle.xet_audit.specs.Findings.{faults, hash_cmp}
use Rattle.xet_audit.specs.declared.raw_store.RawFile.{RawFile}
use Rattle.xet_audit.specs.declared.raw_store.RawStore.{RawStore}
use Rattle.xet_audit.specs.Raws.{IsUncounted, file_of_raw, store_of_raw}
use Rattle.xet_compact.specs.Compacts.{Clashes, IsCompacted, kept_file, kept_xorbs}
use Rattle.xet_compact.specs.Documents.{IsInOrder}
use Rattle.xet_compact.specs.Refusals.{CompactCause}
use Rattle.xet_compact.specs.declared.compaction.CompactError.{CompactError}
use Rattle.xet_compact.specs.declared.compaction.CompactError.TheVariants as compact_error
use Rattle.xet_compact.specs.steps.Ascending.{AreFiles, AreXorbs, ClashCause}
use Rattle.xet_compact.specs.steps.Kept.{AreAllFiles, AreKeptFiles}

pub raw_hashes : (files : List RawFile) → map (λ (f : StoredFile). f.hash) (map file_of_raw files) ≡ map (λ (f : RawFile). f.hash) files
raw_hashes [] = refl
raw_hashes (f ∷ fs) = ap (λ (hs : List MerkleHash). f.hash ∷ hs) (raw_hashes fs)

-- the hashes of kept files differ, as those of the files do
pub kept_files_apart : (s : Store) (files : List RawFile) → IsValid s → AreKeptFiles s files
    → AllPairs (λ (a b : RawFile). hash_eq a.hash b.hash ≡ false) files
kept_files_apart s files v k = λ i j d less within.
    let e = file_of_raw d in
    let long_raw = length-map files file_of_raw in
    let long = ap length k.are in
    let long_kept = length-map s.files (kept_file s) in
    let hash = λ (n : ℕ) (l : n < length files).
    let near : get_or (map file_of_raw files) n e ≡ file_of_raw (get_or files n d) = get_or-map file_of_raw files n d e l in
    let far : get_or (map (kept_file s) s.files) n e ≡ kept_file s (get_or s.files n e) = get_or-map (kept_file s) s.files n e
    e (omega (arith, l, long_raw, long, long_kept)) in
    let is : (get_or files n d).hash ≡ (get_or s.files n e).hash = ap (λ (f : StoredFile). f.hash) (sym near
    ∙ ap (λ (l : List StoredFile). get_or l n e) k.are ∙ far) in
    is in
    ap (λ (h : MerkleHash). hash_eq h (get_or files j d).hash) (hash i (omega (arith, less, within)))
    ∙ ap (λ (h : MerkleHash). hash_eq (get_or s.files i e).hash h) (hash j within)
    ∙ v.files_differ i j e less (omega (arith, within, long_raw, long, long_kept))

-- the files that are kept, sorted
pub all_files : (s : Store) (files sorted : List RawFile) → AreKeptFiles s files → AreFiles files sorted → AreAllFiles s sorted
all_files s files sorted k f =
    let moved = IsPermutation-map file_of_raw files sorted f.moved in
    record {
      ascend = subst (λ (hs : List MerkleHash). IsStrictlySortedBy hash_cmp hs) (sym (raw_hashes sorted)) f.ascend;
      same = λ g. (
        λ within. subst (λ (l : List StoredFile). Contains l g) k.are (Contains-permutation (map file_of_raw sorted)
            (map file_of_raw files) g (IsPermutation-sym (map file_of_raw files) (map file_of_raw sorted) moved) within),
        λ within. Contains-permutation (map file_of_raw files) (map file_of_raw sorted) g moved
            (subst (λ (l : List StoredFile). Contains l g) (sym k.are) within),
      );
      uncounted = All-permutation (λ (r : RawFile). All (λ t. t.bytes ≡ 0) r.terms) files sorted f.moved k.uncounted;
    }

-- a store of all that is kept
pub compacted_of : (s : Store) (files : List RawFile) (xorbs : List Xorb) → AreAllFiles s files
    → AreXorbs (kept_xorbs s) xorbs → IsCompacted s (store_of_raw (record { xorbs = xorbs; files = files }))
compacted_of s files xorbs f x = record {
  xorbs_ascend = x.ascend;
  files_ascend = f.ascend;
  xorbs = x.same;
  files = f.same;
}

-- a clash of what is kept is one of the store
pub clash_cause : (s : Store) (e : CompactError) → faults s ≡ [] → ClashCause (kept_xorbs s) e → CompactCause s e
clash_cause s compact_error.OutOfMemory valid c = tt
clash_cause s compact_error.NotValid valid c = absurd c
clash_cause s (compact_error.Clash h) valid c = (
  valid,
  record {
    one = c.one;
    other = c.other;
    one_kept = c.one_in;
    other_kept = c.other_in;
    same_hash = c.same_hash;
    differ = c.differ;
  },
)

-- a store whose hashes ascend stands in order
pub in_order : (raw : RawStore) (b : Bool) → IsStrictlySortedBy hash_cmp (map (λ (x : Xorb). x.hash) raw.xorbs)
    → MatchBool b (IsStrictlySortedBy hash_cmp (map (λ (f : RawFile). f.hash) raw.files)) (Unit {0})
    → MatchBool b (IsInOrder (store_of_raw raw)) (Unit {0})
in_order raw true xorbs files =
    record { xorbs = xorbs; files = subst (λ (hs : List MerkleHash). IsStrictlySortedBy hash_cmp hs) (sym (raw_hashes raw.files)) files }
in_order raw false xorbs files = tt
