-- Why a xorb is refused, and what is so where it is not.
use Rattle.std.proofs.Common.{◌≡◌, ◌^◌, ◌++◌, ◌∷◌, [], Bool, true, false, cond, Option, refl, sym, ◌∙◌, ap, arith, get_or}
use Rattle.std.specs.Prelude.{◌==◌, Some, None, is_none, is_some, length, nat_le}
use Rattle.std.specs.List.{concat, list_any}
use Rattle.std.proofs.lemmas.Bool.{eqb-false, leb-false}
use Rattle.xet_base.specs.declared.mdb_shard.Xorb.{Xorb}
use Rattle.xet_base.specs.declared.merklehash.MerkleHash.{MerkleHash}
use Rattle.xet_base.specs.Store.{IsValidXorb, Store, xorb_of}
use Rattle.xet_store.specs.Refusals.{xorb_misfit, xorb_refusal}
use Rattle.xet_store.specs.declared.mem_store.StoreRefused.{StoreRefused}
use Rattle.xet_store.specs.declared.mem_store.StoreRefused.TheVariants.{EmptyChunk, Taken, TooLong, TooManyChunks}
use Rattle.xet_store.proofs.UsedXorbs.{any_at}

-- a xorb that is no misfit is valid
pub valid_xorb : (x : Xorb) → xorb_misfit x ≡ None → IsValidXorb x
valid_xorb x h =
    let passed = tests (list_any (λ c. length c == 0) x.chunks) (nat_le (2 ^ 32) (length x.chunks))
    (nat_le (2 ^ 32) (length (concat x.chunks))) h in
    record {
      nonempty = λ k d l.
          let n = eqb-false (length (get_or x.chunks k d)) 0 (any_at (λ c. length c == 0) x.chunks k d passed.0 l) in
          omega (arith, n);
      chunk_count = leb-false (2 ^ 32) (length x.chunks) passed.1;
      byte_count = leb-false (2 ^ 32) (length (concat x.chunks)) passed.2;
    }
  where
    tests : (a b c : Bool) → cond a (Some EmptyChunk) (cond b (Some TooManyChunks) (cond c (Some TooLong) None)) ≡ None
        → (a ≡ false) × (b ≡ false) × (c ≡ false)
    tests true b c h = cc
    tests false true c h = cc
    tests false false true h = cc
    tests false false false h = (refl, refl, refl)

module _ (s : Store) (x : Xorb) where
  -- a xorb that is not refused is new and no misfit
  pub not_refused : None ≡ xorb_refusal s x → (xorb_of s x.hash ≡ None) × (xorb_misfit x ≡ None)
  not_refused h = go (xorb_of s x.hash) (xorb_misfit x) (sym h)
    where
      go : (o : Option Xorb) (m : Option StoreRefused) → cond (is_some o) (Some Taken) m ≡ None
          → (o ≡ None) × (m ≡ None)
      go None m e = (refl, e)
      go (Some y) m e = cc

  -- a misfit is refused, unless a xorb of its hash is there
  pub misfit_refused : (h : MerkleHash) (r e : StoreRefused) → h ≡ x.hash → Some r ≡ xorb_misfit x
      → e ≡ cond (is_some (xorb_of s h)) Taken r → xorb_refusal s x ≡ Some e
  misfit_refused h r e same misfit is =
      go (is_some (xorb_of s x.hash)) (xorb_misfit x) misfit
      ∙ ap Some (sym (is ∙ ap (λ (k : MerkleHash). cond (is_some (xorb_of s k)) Taken r) same))
    where
      go : (b : Bool) (m : Option StoreRefused) → Some r ≡ m → cond b (Some Taken) m ≡ Some (cond b Taken r)
      go true m k = refl
      go false m k = sym k

  -- whether a xorb that is no misfit is added
  module _ (y : Xorb) (added : Bool) (same : y ≡ x) (is : added ≡ is_none (xorb_of s y.hash))
      (fits : None ≡ xorb_misfit x) where
    refusal : (o : Option Xorb) (m : Option StoreRefused) → None ≡ m
        → cond (is_some o) (Some Taken) m ≡ cond (is_none o) None (Some Taken)
    refusal None m e = sym e
    refusal (Some z) m e = refl

    by_added : xorb_refusal s x ≡ cond added None (Some Taken)
    by_added =
        refusal (xorb_of s x.hash) (xorb_misfit x) fits
        ∙ ap (λ (b : Bool). cond b None (Some Taken))
        (sym (is ∙ ap (λ (z : Xorb). is_none (xorb_of s z.hash)) same))

    pub added_accepted : added ≡ true → xorb_refusal s x ≡ None
    added_accepted e = by_added ∙ ap (λ (b : Bool). cond b None (Some Taken)) e

    pub left_refused : added ≡ false → xorb_refusal s x ≡ Some Taken
    left_refused e = by_added ∙ ap (λ (b : Bool). cond b None (Some Taken)) e

    pub store_added : (t : Store) → added ≡ true
        → t ≡ cond added (record s { xorbs = s.xorbs ++ y ∷ [] }) s → t ≡ record s { xorbs = s.xorbs ++ x ∷ [] }
    store_added t e k =
        k ∙ ap (λ (b : Bool). cond b (record s { xorbs = s.xorbs ++ y ∷ [] }) s) e
        ∙ ap (λ (z : Xorb). record s { xorbs = s.xorbs ++ z ∷ [] }) same

    pub store_left : (t : Store) → added ≡ false → t ≡ cond added (record s { xorbs = s.xorbs ++ y ∷ [] }) s → t ≡ s
    store_left t e k = k ∙ ap (λ (b : Bool). cond b (record s { xorbs = s.xorbs ++ y ∷ [] }) s) e
