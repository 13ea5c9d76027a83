-- Why the terms of a file are refused, by a walk over them.
use Rattle.std.proofs.Common.{◌≡◌, ℕ, ◌+◌, ◌-◌, ◌<◌, ◌≤◌, ◌^◌, ◌++◌, ◌∷◌, [], true, false, List, map, take, get_or, min, ap, sym, ◌∙◌, arith}
use Rattle.std.specs.Prelude.{Some, None, length}
use Rattle.std.specs.List.{list_all, sum_by}
use Rattle.std.proofs.lemmas.Bool.{le-leb, lt-leb}
use Rattle.std.proofs.lemmas.List.{map_push, take_all, take_more}
use Rattle.std.proofs.lemmas.List.Folds.{list_all_at, list_all_more}
use Rattle.std.proofs.lemmas.List.Sums.{sum_by_more}
use Rattle.xet_base.specs.declared.mdb_shard.FileDataSequenceEntry.{FileDataSequenceEntry as Entry}
use Rattle.xet_base.specs.declared.stored.StoredTerm.{StoredTerm}
use Rattle.xet_base.specs.Store.{Store}
use Rattle.xet_store.specs.declared.mem_store.StoreRefused.TheVariants.{BadTerm, TooLong}
use Rattle.xet_store.specs.Refusals.{is_term_in, stored_term, term_length}
use Rattle.xet_store.specs.steps.TermRefusals.{terms_refusal}

-- the first terms as a store keeps them, and one more
pub stored_more : (ts : List Entry) (i : ℕ) (d : Entry) (found more : List StoredTerm) → i < length ts
    → found ≡ map stored_term (take i ts) → more ≡ found ++ stored_term (get_or ts i d) ∷ []
    → more ≡ map stored_term (take (i + 1) ts)
stored_more ts i d found more h e f =
    f ∙ ap (λ (xs : List StoredTerm). xs ++ stored_term (get_or ts i d) ∷ []) e
    ∙ sym (ap (λ (xs : List Entry). map stored_term xs) (take_more ts i d h)
    ∙ map_push stored_term (take i ts) (get_or ts i d))

module _ (s : Store) (ts : List Entry) where
  -- the first terms are in the store, and one more is
  pub good_more : (i : ℕ) (d : Entry) → i < length ts → list_all (λ t. is_term_in s (stored_term t)) (take i ts) ≡ true
      → is_term_in s (stored_term (get_or ts i d)) ≡ true
      → list_all (λ t. is_term_in s (stored_term t)) (take (i + 1) ts) ≡ true
  good_more i d h good is = list_all_more (λ t. is_term_in s (stored_term t)) ts i d h ∙ rw (good, is)

  -- the bytes of the first terms, and of one more
  pub summed_more : (i n m k top : ℕ) (d : Entry) → i < length ts
      → n ≡ min (sum_by (λ t. term_length s (stored_term t)) (take i ts)) top
      → k ≡ term_length s (stored_term (get_or ts i d)) → m ≡ min (n + k) top
      → m ≡ min (sum_by (λ t. term_length s (stored_term t)) (take (i + 1) ts)) top
  summed_more i n m k top d h e f g =
      omega (arith, e, f, g, sum_by_more (λ t. term_length s (stored_term t)) ts i d h)

  -- a term that is not in the store
  pub bad_term : (i : ℕ) (d : Entry) → i < length ts → is_term_in s (stored_term (get_or ts i d)) ≡ false
      → terms_refusal s ts ≡ Some BadTerm
  bad_term i d h out = rw (list_all_at (λ t. is_term_in s (stored_term t)) ts i d h out)

  -- all terms are in the store, and have so many bytes
  module _ (i n : ℕ) (past : length ts ≤ i)
      (good : list_all (λ t. is_term_in s (stored_term t)) (take i ts) ≡ true)
      (summed : n ≡ min (sum_by (λ t. term_length s (stored_term t)) (take i ts)) (2 ^ 128 - 1)) where
    all_good : list_all (λ t. is_term_in s (stored_term t)) ts ≡ true
    all_good = rw (take_all i ts past) at good

    all_summed : n ≡ min (sum_by (λ t. term_length s (stored_term t)) ts) (2 ^ 128 - 1)
    all_summed = rw (take_all i ts past) at summed

    pub too_long : 2 ^ 64 - 1 < n → terms_refusal s ts ≡ Some TooLong
    too_long h =
        let sum : ℕ = sum_by (λ t. term_length s (stored_term t)) ts in
        rw (all_good, le-leb (2 ^ 64) sum (omega (arith, h, all_summed)))

    pub not_refused : n ≤ 2 ^ 64 - 1 → terms_refusal s ts ≡ None
    not_refused h =
        let sum : ℕ = sum_by (λ t. term_length s (stored_term t)) ts in
        rw (all_good, lt-leb (2 ^ 64) sum (omega (arith, h, all_summed)))

    pub all_stored : (found : List StoredTerm) → found ≡ map stored_term (take i ts) → found ≡ map stored_term ts
    all_stored found e = e ∙ ap (λ (xs : List Entry). map stored_term xs) (take_all i ts past)
