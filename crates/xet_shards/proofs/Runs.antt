-- What a search for a run of chunks finds.
use Rattle.std.proofs.Common.{◌≡◌, ℕ, zero, suc, ◌+◌, ◌-◌, ◌^◌, ◌<◌, ◌≤◌, min, Bool, true, false, cond, List, [], ◌∷◌, length, take, drop, refl, sym, ◌∙◌, ap, subst, arith, get_or, ◌⊎◌, inl, inr}
use Rattle.std.specs.Prelude.{Option, Some, None, IfSome, Contains, option_map, option_and_then, slice_get, if◌then◌else◌, ◌==◌}
use Rattle.std.proofs.lemmas.Bool.{cases_lt, eqb-false}
use Rattle.std.proofs.lemmas.List.{drop_all, length-take, get_or-take, take_min}
use Rattle.std.proofs.lemmas.List.Quantifiers.{position-Some}
use Rattle.std.proofs.lemmas.Option.{none-some, same_Some, get_or_from_slice_get}
use Rattle.xet_base.specs.declared.merklehash.MerkleHash.{MerkleHash}
use Rattle.xet_base.specs.declared.mdb_shard.ChunkInfo.{ChunkInfo}
use Rattle.xet_base.specs.declared.mdb_shard.FileDataSequenceEntry.{FileDataSequenceEntry}
use Rattle.xet_base.specs.declared.mdb_shard.MDBXorbInfo.{MDBXorbInfo}
use Rattle.xet_base.specs.Hashes.{hash_eq}
use Rattle.xet_base.proofs.CallerLemmas.{hash_eq-true}
use Rattle.xet_uploader.specs.declared.xorb_records.ChunkPlace.{ChunkPlace}
use Rattle.xet_uploader.specs.XorbRecords.{first_with}
use Rattle.xet_uploader.proofs.CallerLemmas.{IsFirstIn, first_with-is}
use Rattle.xet_shards.specs.Runs.{counted, run_of, term_at, run_at, find_run, find_in, IsRun}

pub length-counted : (x : MDBXorbInfo) → length (counted x) < 2 ^ 32
unfolding counted
length-counted x = omega (arith, length-take (2 ^ 32 - 1) x.chunks)

pub counted_cut : (x : MDBXorbInfo) (n : ℕ) (cs : List ChunkInfo) → cs ≡ x.chunks → n ≡ min (2 ^ 32 - 1) (length cs) → take n cs ≡ counted x
unfolding counted
counted_cut x n cs e h = ap (λ (k : ℕ). take k cs) h ∙ take_min (2 ^ 32 - 1) cs ∙ ap (take (2 ^ 32 - 1)) e

pub run_of-nil : (hs : List MerkleHash) → run_of hs [] ≡ 0
run_of-nil [] = refl
run_of-nil (h ∷ hs) = refl

run_of-le : (hs : List MerkleHash) (cs : List ChunkInfo) → run_of hs cs ≤ length hs
run_of-le [] cs = omega arith
run_of-le (h ∷ hs) [] = omega arith
run_of-le (h ∷ hs) (c ∷ cs) = go (hash_eq c.hash h) (run_of-le hs cs)
  where
    go : (b : Bool) → run_of hs cs ≤ length hs → (if b then suc (run_of hs cs) else 0) ≤ suc (length hs)
    go true k = omega (arith, k)
    go false k = omega arith

-- past the shorter list there is no run
pub run_of-end : (hs : List MerkleHash) (cs : List ChunkInfo) (i : ℕ) → min (length hs) (length cs) ≤ i → run_of (drop i hs) (drop i cs) ≡ 0
run_of-end hs cs i h = go (cases_lt i (length hs))
  where
    go : (i < length hs) ⊎ (length hs ≤ i) → run_of (drop i hs) (drop i cs) ≡ 0
    go (inl k) = let e : length cs ≤ i = omega (arith, h, k) in ap (run_of (drop i hs)) (drop_all i cs e) ∙ run_of-nil (drop i hs)
    go (inr k) = ap (λ (xs : List MerkleHash). run_of xs (drop i cs)) (drop_all i hs k)

-- nor from a place past the chunks
pub run_past : (hs : List MerkleHash) (cs : List ChunkInfo) (place : ℕ) → length cs ≤ place → run_of hs (drop place cs) ≡ 0
run_past hs cs place h = ap (run_of hs) (drop_all place cs h) ∙ run_of-nil hs

-- ---- the search

-- a record has the hash where a run was found
pub record FoundAt (rs : List MDBXorbInfo) (h : MerkleHash) (f : ℕ × FileDataSequenceEntry) : Type 0 where
  pub holder : MDBXorbInfo
  pub is_there : Contains rs holder
  pub named : f.1.xorb ≡ holder.hash
  pub within : f.1.from < length holder.chunks
  pub hash : (d : ChunkInfo) → (get_or holder.chunks f.1.from d).hash ≡ h

any_info : ChunkInfo
any_info = record { hash = record { 0 = [] }; length = 0 }

positive : (n : ℕ) → (n ≡ 0 → ⊥) → 0 < n
positive zero h = absurd (h refl)
positive (suc n) h = omega arith

-- what a run at a place is
run_at-is : (x : MDBXorbInfo) (hs : List MerkleHash) (p : ℕ) (f : ℕ × FileDataSequenceEntry) → run_at x hs p ≡ Some f → (0 < run_of hs (drop p (counted x))) × ((run_of hs (drop p (counted x)), term_at x p (run_of hs (drop p (counted x)))) ≡ f)
run_at-is x hs p f e = go (run_of hs (drop p (counted x)) == 0) refl e
  where
    go : (b : Bool) → (run_of hs (drop p (counted x)) == 0) ≡ b
        → cond b None (Some (run_of hs (drop p (counted x)), term_at x p (run_of hs (drop p (counted x))))) ≡ Some f
        → (0 < run_of hs (drop p (counted x))) × ((run_of hs (drop p (counted x)), term_at x p (run_of hs (drop p (counted x)))) ≡ f)
    go true k e = absurd (none-some f e)
    go false k e = (
      positive (run_of hs (drop p (counted x))) (eqb-false (run_of hs (drop p (counted x))) 0 k),
      same_Some (run_of hs (drop p (counted x)), term_at x p (run_of hs (drop p (counted x)))) f e,
    )

find_run-parts : (rs : List MDBXorbInfo) (h : MerkleHash) (hs : List MerkleHash) (f : ℕ × FileDataSequenceEntry) → find_run rs h hs ≡ Some f
    → (p : ChunkPlace) × (x : MDBXorbInfo) × (first_with rs h ≡ Some p) × (slice_get rs p.xorb ≡ Some x) × (run_at x hs p.chunk ≡ Some f)
find_run-parts rs h hs f e = go (first_with rs h) refl e
  where
    inner : (p : ChunkPlace) → first_with rs h ≡ Some p → (m : Option MDBXorbInfo) → slice_get rs p.xorb ≡ m → option_and_then (λ x. run_at x hs p.chunk) m ≡ Some f
        → (p : ChunkPlace) × (x : MDBXorbInfo) × (first_with rs h ≡ Some p) × (slice_get rs p.xorb ≡ Some x) × (run_at x hs p.chunk ≡ Some f)
    inner p a None b e = absurd (none-some f e)
    inner p a (Some x) b e = (p, x, a, b, e)

    go : (o : Option ChunkPlace) → first_with rs h ≡ o → option_and_then (λ p. option_and_then (λ x. run_at x hs p.chunk) (slice_get rs p.xorb)) o ≡ Some f
        → (p : ChunkPlace) × (x : MDBXorbInfo) × (first_with rs h ≡ Some p) × (slice_get rs p.xorb ≡ Some x) × (run_at x hs p.chunk ≡ Some f)
    go None a e = absurd (none-some f e)
    go (Some p) a e = inner p a (slice_get rs p.xorb) refl e

pub find_in-at : (rs : List MDBXorbInfo) (h : MerkleHash) (hs : List MerkleHash) (f : ℕ × FileDataSequenceEntry) → find_in rs (h ∷ hs) ≡ Some f → FoundAt rs h f
find_in-at rs h hs f e =
    let parts = find_run-parts rs h (h ∷ hs) f e in
    let p = parts.0 in
    let x = parts.1 in
    let first = first_with-is rs h p parts.2 in
    let run = run_at-is x (h ∷ hs) p.chunk f parts.4 in
    let holder : first.holder ≡ x = same_Some first.holder x (sym first.is_there ∙ parts.3) in
    let Q : MDBXorbInfo → Type 0 = λ y. (p.chunk < length y.chunks) × ((d : ChunkInfo) → (get_or y.chunks p.chunk d).hash ≡ h) in
    let at : Q x = subst Q holder (chunk_at first) in
    let P : ℕ × FileDataSequenceEntry → Type 0 = FoundAt rs h in
    subst P run.1 (record {
      holder = x;
      is_there = (p.xorb, first.inside, get_or_from_slice_get rs p.xorb x x parts.3);
      named = refl;
      within = at.0;
      hash = at.1;
    })
  where
    chunk_at : {p : ChunkPlace} → (k : IsFirstIn rs h p) → (p.chunk < length k.holder.chunks) × ((d : ChunkInfo) → (get_or k.holder.chunks p.chunk d).hash ≡ h)
    chunk_at {p} k = (
      (position-Some (λ c. hash_eq c.hash h) k.holder.chunks p.chunk any_info k.chunk).0,
      λ d. hash_eq-true (get_or k.holder.chunks p.chunk d).hash h (position-Some (λ c. hash_eq c.hash h) k.holder.chunks p.chunk d k.chunk).1,
    )

pub find_in-run : (rs : List MDBXorbInfo) (hs : List MerkleHash) → IfSome (find_in rs hs) (λ f. IsRun hs f.0 f.1)
find_in-run rs [] = tt
find_in-run rs (h ∷ hs) = go (find_run rs h (h ∷ hs)) refl
  where
    go : (o : Option (ℕ × FileDataSequenceEntry)) → find_run rs h (h ∷ hs) ≡ o → IfSome o (λ f. IsRun (h ∷ hs) f.0 f.1)
    go None e = tt
    go (Some f) e =
        let parts = find_run-parts rs h (h ∷ hs) f e in
        let run = run_at-is parts.1 (h ∷ hs) parts.0.chunk f parts.4 in
        let P : ℕ × FileDataSequenceEntry → Type 0 = λ f. IsRun (h ∷ hs) f.0 f.1 in
        subst P run.1 (record { some = run.0; most = run_of-le (h ∷ hs) (drop parts.0.chunk (counted parts.1)); count = refl })
