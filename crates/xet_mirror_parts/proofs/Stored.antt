-- Terms and files of a store, in another that has the same xorbs.
use Rattle.std.proofs.Common.{◌≡◌, ℕ, ◌≤◌, Bool, true, false, List, [], ◌∷◌, ◌++◌, length, refl, sym, ◌∙◌, ap, subst, arith}
use Rattle.std.specs.Prelude.{Option, Some, is_some, option_map, unwrap_or, slice_range, All, nat_lt, nat_le, ◌&&◌}
use Rattle.std.specs.List.{concat, flat_map, sum_by}
use Rattle.std.proofs.lemmas.Bool.{false≢true, ltb-true, leb-true}
use Rattle.std.proofs.lemmas.List.{length-append}
use Rattle.std.proofs.lemmas.List.Folds.{concat-append}
use Rattle.std.proofs.lemmas.List.Sums.{sum_by-cons}
use Rattle.std.proofs.lemmas.List.Elements.{All-head, All-tail}
use Rattle.xet_base.specs.declared.merklehash.MerkleHash.{MerkleHash}
use Rattle.xet_base.specs.declared.mdb_shard.Xorb.{Xorb}
use Rattle.xet_base.specs.declared.stored.StoredTerm.{StoredTerm}
use Rattle.xet_base.specs.Hashes.{hash_eq}
use Rattle.xet_base.specs.Store.{Store, IsTermIn, IsValid, IsValidXorb, chunks_of, chunks_of_term, xorb_of}
use Rattle.xet_store.specs.Refusals.{is_term_in, term_length}
use Rattle.xet_mirror_parts.proofs.Finds.{found_all}

-- a xorb of a valid store is well formed
pub xorb_in : (s : Store) → IsValid s → (h : MerkleHash) (x : Xorb) → xorb_of s h ≡ Some x → IsValidXorb x
xorb_in s v h x e = found_all IsValidXorb (λ y. hash_eq y.hash h) s.xorbs x v.xorbs e

-- ---- one term

pub and_parts : (a b : Bool) → (a && b) ≡ true → (a ≡ true) × (b ≡ true)
and_parts true b h = (refl, h)
and_parts false b h = absurd (false≢true h)

pub term-in : (s : Store) (t : StoredTerm) → is_term_in s t ≡ true → IsTermIn s t
term-in s t h =
    let last = and_parts (nat_lt t.from t.to && is_some (xorb_of s t.xorb)) (nat_le t.to (length (chunks_of s t.xorb))) h in
    let first = and_parts (nat_lt t.from t.to) (is_some (xorb_of s t.xorb)) last.0 in
    record {
      some = ltb-true t.from t.to first.0;
      stored = first.1;
      inside = leb-true t.to (length (chunks_of s t.xorb)) last.1;
    }

-- both stores have the xorb, with the same chunks
pub record HaveSame (s u : Store) (h : MerkleHash) : Type 0 where
  pub there : Xorb
  pub there_is : xorb_of s h ≡ Some there
  pub here : Xorb
  pub here_is : xorb_of u h ≡ Some here
  pub chunks : here.chunks ≡ there.chunks

pub same-chunks : (s u : Store) (h : MerkleHash) → HaveSame s u h → chunks_of u h ≡ chunks_of s h
same-chunks s u h k =
    let of : Option Xorb → List (List ℕ) = λ o. unwrap_or (option_map (λ x. x.chunks) o) [] in
    ap of k.here_is ∙ k.chunks ∙ sym (ap of k.there_is)

pub same-term : (s u : Store) (t : StoredTerm) → HaveSame s u t.xorb → chunks_of_term u t ≡ chunks_of_term s t
same-term s u t k = ap (λ cs. slice_range cs t.from t.to) (same-chunks s u t.xorb k)

pub same-in : (s u : Store) (t : StoredTerm) → HaveSame s u t.xorb → IsTermIn s t → IsTermIn u t
same-in s u t k i = record {
  some = i.some;
  stored = ap is_some k.here_is;
  inside = subst (λ (cs : List (List ℕ)). t.to ≤ length cs) (sym (same-chunks s u t.xorb k)) i.inside;
}

-- ---- many terms

pub same-terms : (s u : Store) (ts : List StoredTerm) → All (λ t. HaveSame s u t.xorb) ts
    → flat_map (chunks_of_term u) ts ≡ flat_map (chunks_of_term s) ts
same-terms s u [] a = refl
same-terms s u (t ∷ ts) a =
    let here = same-term s u t (All-head (λ t. HaveSame s u t.xorb) t ts a) in
    let rest = same-terms s u ts (All-tail (λ t. HaveSame s u t.xorb) t ts a) in
    λ i. here i ++ rest i

-- the lengths of terms add up to that of their bytes
pub length-terms : (s : Store) (ts : List StoredTerm)
    → length (concat (flat_map (chunks_of_term s) ts)) ≡ sum_by (term_length s) ts
length-terms s [] = refl
length-terms s (t ∷ ts) =
    let here = chunks_of_term s t in
    let rest = flat_map (chunks_of_term s) ts in
    omega (
      arith,
      ap length (concat-append here rest),
      length-append (concat here) (concat rest),
      length-terms s ts,
      sum_by-cons (term_length s) t ts,
    )
