-- The xorb of a term, by its hash's number.
use Rattle.std.proofs.Common.{◌≡◌, ℕ, ◌<◌, ◌≤◌, Bool, true, false, ◌&&◌, List, length, map, get_or, refl, sym, ◌∙◌, ap, arith, subst, Some, None}
use Rattle.std.specs.Prelude.{is_some, nat_le, nat_lt, slice_range}
use Rattle.std.proofs.lemmas.Bool.{false≢true, leb-true, ltb-true}
use Rattle.std.proofs.lemmas.List.{get_or-map, get_or_default, length-map}
use Rattle.xet_base.specs.declared.mdb_shard.Xorb.{Xorb}
use Rattle.xet_base.specs.declared.merklehash.MerkleHash.{MerkleHash}
use Rattle.xet_base.specs.declared.stored.StoredTerm.{StoredTerm}
use Rattle.xet_base.specs.Store.{Store, chunks_of, chunks_of_term, xorb_of}
use Rattle.xet_store.specs.Refusals.{is_term_in}
use Rattle.xet_audit.specs.steps.Tables.{IsTable, place_of}
use Rattle.xet_audit.proofs.Tables.{hashes_of, no_xorb, some_chunks_of, the_xorb_of}

module _ (s : Store) (keys : List MerkleHash) (places : List ℕ) (t : IsTable (hashes_of s.xorbs) keys places) (h : MerkleHash) (n place : ℕ)
    (key : place_of keys h ≡ Some n) where
  pub number_in : n < length places
  number_in = (the_xorb_of s keys places t h n key).0

  module _ (is : place ≡ get_or places n place) where
    abbrev pub xorb_at : Xorb
    xorb_at = get_or s.xorbs place no_xorb

    same : get_or places n 0 ≡ place
    same = get_or_default places n 0 place number_in ∙ sym is

    pub place_in : place < length s.xorbs
    place_in = subst (λ (k : ℕ). k < length s.xorbs) same (the_xorb_of s keys places t h n key).1

    pub located : xorb_of s h ≡ Some xorb_at
    located = subst (λ (k : ℕ). xorb_of s h ≡ Some (get_or s.xorbs k no_xorb)) same ((the_xorb_of s keys places t h n key).2 no_xorb)

    -- what is kept for each xorb
    module _ {B : Type 0} (f : Xorb → B) (kept : List B) (all : kept ≡ map f s.xorbs) where
      pub kept_in : place < length kept
      kept_in = let m = place_in in omega (arith, m, ap length all, length-map s.xorbs f)

      pub kept_at : (b : B) → b ≡ get_or kept place b → b ≡ f xorb_at
      kept_at b e = e ∙ ap (λ (bs : List B). get_or bs place b) all ∙ get_or-map f s.xorbs place no_xorb b place_in

-- ---- terms that name chunks

and_parts : (a b : Bool) → (a && b) ≡ true → (a ≡ true) × (b ≡ true)
and_parts true b h = (refl, h)
and_parts false b h = absurd (false≢true h)

module _ (s : Store) (t : StoredTerm) (x : Xorb) (is : xorb_of s t.xorb ≡ Some x) where
  pub term_chunks : chunks_of_term s t ≡ slice_range x.chunks t.from t.to
  term_chunks = ap (λ (cs : List (List ℕ)). slice_range cs t.from t.to) (some_chunks_of s t.xorb x is)

  pub term_order : is_term_in s t ≡ true → (t.from < t.to) × (t.to ≤ length x.chunks)
  term_order h =
      let last = and_parts (nat_lt t.from t.to && is_some (xorb_of s t.xorb)) (nat_le t.to (length (chunks_of s t.xorb))) h in
      let first = and_parts (nat_lt t.from t.to) (is_some (xorb_of s t.xorb)) last.0 in
      let inside = leb-true t.to (length (chunks_of s t.xorb)) last.1 in
      (ltb-true t.from t.to first.0, omega (arith, inside, ap length (some_chunks_of s t.xorb x is)))

-- a term whose xorb's hash has no key names none
pub never_in : (s : Store) (t : StoredTerm) → xorb_of s t.xorb ≡ None → is_term_in s t ≡ true → ⊥
never_in s t none h =
    let last = and_parts (nat_lt t.from t.to && is_some (xorb_of s t.xorb)) (nat_le t.to (length (chunks_of s t.xorb))) h in
    let first = and_parts (nat_lt t.from t.to) (is_some (xorb_of s t.xorb)) last.0 in
    false≢true (ap is_some (sym none) ∙ first.1)
