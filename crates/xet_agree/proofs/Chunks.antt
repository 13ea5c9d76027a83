-- Chunks of xorbs, one by one, and the bytes of terms.
use Rattle.std.proofs.Common.{◌≡◌, ℕ, ◌+◌, ◌-◌, ◌^◌, ◌<◌, min, All, Bool, true, List, [], ◌∷◌, ◌++◌, length, get_or, take, drop, refl, sym, ◌∙◌, ap, arith, Option, Some}
use Rattle.std.specs.Bool.{Decides}
use Rattle.std.specs.Prelude.{IsSome, option_map, slice_range, unwrap_or}
use Rattle.std.specs.List.{concat, flat_map}
use Rattle.std.proofs.lemmas.Bool.{false≢true}
use Rattle.std.proofs.lemmas.List.{append-nil, drop_more, length-append, take_more}
use Rattle.std.proofs.lemmas.List.Concat.{flat_map-append}
use Rattle.std.proofs.lemmas.List.Elements.{All-head, All-tail}
use Rattle.std.proofs.lemmas.List.Folds.{concat-append}
use Rattle.xet_base.specs.declared.merklehash.MerkleHash.{MerkleHash}
use Rattle.xet_base.specs.declared.mdb_shard.Xorb.{Xorb}
use Rattle.xet_base.specs.declared.stored.StoredTerm.{StoredTerm}
use Rattle.xet_base.specs.Hashes.{hash_eq}
use Rattle.xet_base.specs.Store.{IsTermIn, Store, chunks_of, chunks_of_term, xorb_of}
use Rattle.xet_base.proofs.CallerLemmas.{hash_eq-true}
use Rattle.xet_agree.specs.steps.Alike.{HasChunks, XorbsAgree, bytes_in}
use Rattle.xet_agree.proofs.Found.{found_all, found_passes}

-- the chunk of a number, as a range of one
pub one_chunk : (cs : List (List ℕ)) (k : ℕ) → k < length cs → concat (slice_range cs k (k + 1)) ≡ get_or cs k []
one_chunk cs k within =
    let one : k + 1 - k ≡ 1 = omega arith in
    ap (λ (n : ℕ). concat (take n (drop k cs))) one
    ∙ ap (λ (l : List (List ℕ)). concat (take 1 l)) (drop_more cs k [] within) ∙ append-nil (get_or cs k [])

-- two lists have one chunk in common where these parts are equal
pub same_chunk : (xs ys : List (List ℕ)) (k : ℕ) (r : Bool) → k < length xs → k < length ys
    → Decides r (concat (slice_range xs k (k + 1)) ≡ concat (slice_range ys k (k + 1)))
    → (r ≡ true → get_or xs k [] ≡ get_or ys k []) × (get_or xs k [] ≡ get_or ys k [] → r ≡ true)
same_chunk xs ys k r in_xs in_ys d =
    let first = one_chunk xs k in_xs in
    let second = one_chunk ys k in_ys in
    (λ h. sym first ∙ d.0 h ∙ second, λ e. d.1 (first ∙ e ∙ sym second))

-- the bytes of terms, from one on
pub bytes_more : (s : Store) (ts : List StoredTerm) (i : ℕ) (d : StoredTerm) → i < length ts
    → bytes_in s (drop i ts) ≡ concat (chunks_of_term s (get_or ts i d)) ++ bytes_in s (drop (i + 1) ts)
bytes_more s ts i d within =
    ap (λ (l : List StoredTerm). bytes_in s l) (drop_more ts i d within)
    ∙ concat-append (chunks_of_term s (get_or ts i d)) (flat_map (chunks_of_term s) (drop (i + 1) ts))

-- how many bytes terms have up to one, and with it
pub count_more : (s : Store) (ts : List StoredTerm) (i : ℕ) (d : StoredTerm) → i < length ts
    → length (bytes_in s (take (i + 1) ts))
    ≡ length (bytes_in s (take i ts)) + length (concat (chunks_of_term s (get_or ts i d)))
count_more s ts i d within =
    let u = get_or ts i d in
    let parts : bytes_in s (take (i + 1) ts) ≡ bytes_in s (take i ts) ++ concat (chunks_of_term s u) =
    ap (λ (l : List StoredTerm). bytes_in s l) (take_more ts i d within)
    ∙ ap concat (flat_map-append (chunks_of_term s) (take i ts) (u ∷ []))
    ∙ concat-append (flat_map (chunks_of_term s) (take i ts)) (chunks_of_term s u ++ [])
    ∙ ap (λ (l : List (List ℕ)). bytes_in s (take i ts) ++ concat l) (append-nil (chunks_of_term s u)) in
    ap length parts ∙ length-append (bytes_in s (take i ts)) (concat (chunks_of_term s u))

-- so their count, which stops at 2^64 - 1
pub counted_more : (s : Store) (ts : List StoredTerm) (i : ℕ) (d : StoredTerm) (count size : ℕ) → i < length ts
    → count ≡ min (length (bytes_in s (take i ts))) (2 ^ 64 - 1)
    → size ≡ length (concat (chunks_of_term s (get_or ts i d)))
    → min (count + size) (2 ^ 64 - 1) ≡ min (length (bytes_in s (take (i + 1) ts))) (2 ^ 64 - 1)
counted_more s ts i d count size within so_far is =
    let more = count_more s ts i d within in
    omega (arith, more, so_far, is)

module _ (s t : Store) (agree : XorbsAgree s t) where
  -- a term that both stores have has equal chunks in both
  pub same_term : (u : StoredTerm) → IsTermIn s u → IsTermIn t u → chunks_of_term s u ≡ chunks_of_term t u
  same_term u a b =
      ap (λ (cs : List (List ℕ)). slice_range cs u.from u.to) (same (xorb_of s u.xorb) (xorb_of t u.xorb) refl refl a.stored b.stored)
    where
      same : (o r : Option Xorb) → xorb_of s u.xorb ≡ o → xorb_of t u.xorb ≡ r → IsSome o → IsSome r
          → chunks_of s u.xorb ≡ chunks_of t u.xorb
      same (Some x) (Some y) e f p q =
          let is : x.hash ≡ u.xorb = hash_eq-true x.hash u.xorb (found_passes (λ (z : Xorb). hash_eq z.hash u.xorb) s.xorbs x e) in
          let chunks : x.chunks ≡ y.chunks = found_all (λ (z : Xorb). hash_eq z.hash u.xorb) (HasChunks t) s.xorbs x e agree y
          (ap (λ (h : MerkleHash). xorb_of t h) is ∙ f) in
          ap (λ (o : Option Xorb). unwrap_or (option_map (λ (x : Xorb). x.chunks) o) []) e ∙ chunks
          ∙ sym (ap (λ (o : Option Xorb). unwrap_or (option_map (λ (x : Xorb). x.chunks) o) []) f)
      same (Some x) _ e f p q = absurd (false≢true q)
      same _ r e f p q = absurd (false≢true p)

  -- so terms that both have have equal bytes in both
  pub same_terms : (ts : List StoredTerm) → All (IsTermIn s) ts → All (IsTermIn t) ts → bytes_in s ts ≡ bytes_in t ts
  same_terms [] a b = refl
  same_terms (u ∷ us) a b =
      let here = same_term u (All-head (IsTermIn s) u us a) (All-head (IsTermIn t) u us b) in
      let rest = same_terms us (All-tail (IsTermIn s) u us a) (All-tail (IsTermIn t) u us b) in
      concat-append (chunks_of_term s u) (flat_map (chunks_of_term s) us)
      ∙ ap (λ (cs : List (List ℕ)). concat cs ++ bytes_in s us) here
      ∙ ap (λ (bs : List ℕ). concat (chunks_of_term t u) ++ bs) rest
      ∙ sym (concat-append (chunks_of_term t u) (flat_map (chunks_of_term t) us))
