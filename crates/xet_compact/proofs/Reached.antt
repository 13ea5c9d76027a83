-- How far the terms of all files reach.
use Rattle.std.proofs.Common.{◌≡◌, ℕ, zero, suc, ◌+◌, ◌<◌, Bool, true, false, ◌||◌, List, [], ◌∷◌, ◌++◌, length, map, get_or, take, replicate, refl, sym, ◌∙◌, ap, arith, le-ltb}
use Rattle.std.specs.List.{list_any}
use Rattle.std.proofs.lemmas.List.{get_or-map, length-map, length-replicate, take-replicate}
use Rattle.std.proofs.lemmas.List.Folds.{list_any-append}
use Rattle.xet_base.specs.declared.merklehash.MerkleHash.{MerkleHash}
use Rattle.xet_base.specs.declared.mdb_shard.Xorb.{Xorb}
use Rattle.xet_base.specs.declared.stored.StoredFile.{StoredFile}
use Rattle.xet_base.specs.declared.stored.StoredTerm.{StoredTerm}
use Rattle.xet_base.specs.Store.{IsTermIn, Store}
use Rattle.xet_held.specs.Held.{covers, greatest, is_reached}
use Rattle.xet_held.specs.Reaches.{Extends, IsWithin}
use Rattle.xet_compact.specs.steps.Reaches.{AreReached}
use Rattle.xet_compact.proofs.HeldTerms.{term_at}
use Rattle.xet_compact.proofs.Placed.{place_of}

or_false : (b : Bool) → b ≡ (b || false)
or_false true = refl
or_false false = refl

greatest_none : (n : ℕ) → greatest (replicate n 0) ≡ 0
greatest_none zero = refl
greatest_none (suc n) = greatest_none n

pub reached_none : (xs : List Xorb) → AreReached xs [] (map (λ (x : Xorb). replicate (length x.chunks) 0) xs)
reached_none xs =
    let rows = map (λ (x : Xorb). replicate (length x.chunks) 0) xs in
    let at = λ (i : ℕ) (d : Xorb) (l : i < length xs). get_or-map (λ (x : Xorb). replicate (length x.chunks) 0) xs i d [] l in
    record {
      count = length-map xs (λ (x : Xorb). replicate (length x.chunks) 0);
      long = λ i d l. ap length (at i d l) ∙ length-replicate (length (get_or xs i d).chunks) 0;
      held = λ i k d l kl.
          let none : greatest (take (k + 1) (get_or rows i [])) ≡ 0 = ap (λ (r : List ℕ). greatest (take (k + 1) r)) (at i d l)
          ∙ ap greatest (take-replicate (k + 1) (length (get_or xs i d).chunks) 0 (omega (arith, kl)))
          ∙ greatest_none (k + 1) in
          le-ltb k (greatest (take (k + 1) (get_or rows i []))) (omega (arith, none));
    }

pub reached_more : (xs : List Xorb) (hs : List MerkleHash) (fs : List StoredFile) (f : StoredFile) (a b : List (List ℕ))
    → hs ≡ map (λ (x : Xorb). x.hash) xs → AreReached xs fs a → Extends hs a b f.terms → AreReached xs (fs ++ f ∷ []) b
reached_more xs hs fs f a b same r x = record {
  count = x.count ∙ r.count;
  long = λ i d l. x.long i ∙ r.long i d l;
  held = λ i k d l kl.
      let count = r.count in
      let long = r.long i d l in
      let hashes_long = ap length same ∙ length-map xs (λ (x : Xorb). x.hash) in
      let hash : get_or hs i d.hash ≡ (get_or xs i d).hash = ap (λ (h : List MerkleHash). get_or h i d.hash) same
      ∙ get_or-map (λ (x : Xorb). x.hash) xs i d d.hash l in
      x.held i k d.hash (omega (arith, l, hashes_long)) (omega (arith, l, count)) (omega (arith, kl, long))
      ∙ ap (λ (h : MerkleHash). is_reached (get_or a i []) k || list_any (covers h k) f.terms) hash
      ∙ ap (λ (q : Bool). q || list_any (covers (get_or xs i d).hash k) f.terms) (r.held i k d l kl)
      ∙ ap (λ (q : Bool). list_any (λ (g : StoredFile). list_any (covers (get_or xs i d).hash k) g.terms) fs || q) (or_false
      (list_any (covers (get_or xs i d).hash k) f.terms))
      ∙ sym (list_any-append (λ (g : StoredFile). list_any (covers (get_or xs i d).hash k) g.terms) fs (f ∷ []));
}

-- a term of a valid store has its place
pub within_of : (s : Store) (rs : List (List ℕ)) (fs : List StoredFile) (t : StoredTerm) → AreReached s.xorbs fs rs
    → IsTermIn s t → IsWithin (map (λ (x : Xorb). x.hash) s.xorbs) rs t
within_of s rs fs t r is_in =
    let x = term_at s t is_in in
    let at = place_of s.xorbs t.xorb x.xorb x.found in
    let count = r.count in
    let inside = at.inside in
    let long = r.long at.place x.xorb at.inside in
    let chunks = ap (λ (y : Xorb). length y.chunks) (at.is x.xorb) in
    let some = x.some in
    let within = x.inside in
    record {
      place = at.place;
      found = at.found;
      inside = omega (arith, count, inside);
      some = omega (arith, long, chunks, some, within);
    }
