-- The terms of a file in a document.
use Rattle.std.proofs.Common.{◌≡◌, ℕ, ◌+◌, ◌<◌, ◌≤◌, List, [], ◌∷◌, ◌++◌, length, drop, get_or, refl, sym, ap, ◌∙◌, append_assoc, append-nil, arith}
use Rattle.std.specs.Prelude.{Option, Some, None, option_and_then, option_map}
use Rattle.std.proofs.lemmas.List.{drop_all, drop_more}
use Rattle.serde_json.specs.Data.{Items}
use Rattle.serde_json.specs.Find.{as_array}
use Rattle.serde_json.specs.View.{items_view, view}
use Rattle.serde_json.specs.declared.value.Value.{Value}
use Rattle.xet_base.specs.declared.stored.StoredTerm.{StoredTerm}
use Rattle.xet_document.specs.Document.{term_of_items, terms_of_items}

-- fewer than three values are no term
term_of-short : (vs : List Value) → length vs < 3 → term_of_items (items_view vs) ≡ None
term_of-short [] h = refl
term_of-short (a ∷ []) h = refl
term_of-short (a ∷ b ∷ []) h = refl
term_of-short (a ∷ b ∷ c ∷ vs) h = absurd (omega arith)

-- nor are more than three
term_of-long : (vs : List Value) → 4 ≤ length vs → term_of_items (items_view vs) ≡ None
term_of-long [] h = absurd (omega arith)
term_of-long (a ∷ []) h = absurd (omega arith)
term_of-long (a ∷ b ∷ []) h = absurd (omega arith)
term_of-long (a ∷ b ∷ c ∷ []) h = absurd (omega arith)
term_of-long (a ∷ b ∷ c ∷ d ∷ vs) h = refl

-- the same, of an array's items
module _ (o : Option Items) (vs : List Value) (is : Some (items_view vs) ≡ o) where
  pub no_term-short : length vs < 3 → None ≡ option_and_then term_of_items o
  no_term-short h = sym (term_of-short vs h) ∙ ap (option_and_then term_of_items) is

  pub no_term-long : 4 ≤ length vs → None ≡ option_and_then term_of_items o
  no_term-long h = sym (term_of-long vs h) ∙ ap (option_and_then term_of_items) is

-- ---- the terms so far and those that are left

module _ (vs : List Value) (i : ℕ) (front : List StoredTerm) (whole : Option (List StoredTerm))
    (left : whole ≡ option_map (λ rest. front ++ rest) (terms_of_items (items_view (drop i vs)))) where
  -- none is left
  pub terms_end : length vs ≤ i → whole ≡ Some front
  terms_end past =
      left ∙ ap (λ (xs : List Value). option_map (λ rest. front ++ rest) (terms_of_items (items_view xs))) (drop_all i vs past) ∙ ap Some (append-nil front)

  module _ (v : Value) (within : i < length vs) (is : v ≡ get_or vs i v) where
    abbrev pub rest_of : Option (List StoredTerm)
    rest_of = terms_of_items (items_view (drop (i + 1) vs))

    next : whole ≡ option_map (λ rest. front ++ rest) (option_and_then (λ t. option_map (λ ts. t ∷ ts) rest_of) (option_and_then term_of_items (as_array (view v))))
    next =
        let split : drop i vs ≡ v ∷ drop (i + 1) vs = drop_more vs i v within ∙ ap (λ (x : Value). x ∷ drop (i + 1) vs) (sym is) in
        left ∙ ap (λ (xs : List Value). option_map (λ rest. front ++ rest) (terms_of_items (items_view xs))) split

    -- one is this term
    pub terms_more : (t : StoredTerm) → Some t ≡ option_and_then term_of_items (as_array (view v)) → whole ≡ option_map (λ rest. (front ++ t ∷ []) ++ rest) rest_of
    terms_more t some =
        next ∙ ap (λ (o : Option StoredTerm). option_map (λ rest. front ++ rest) (option_and_then (λ t. option_map (λ ts. t ∷ ts) rest_of) o)) (sym some) ∙ joined rest_of
      where
        joined : (o : Option (List StoredTerm)) → option_map (λ rest. front ++ rest) (option_map (λ ts. t ∷ ts) o) ≡ option_map (λ rest. (front ++ t ∷ []) ++ rest) o
        joined None = refl
        joined (Some ts) = ap Some (sym (append_assoc front (t ∷ []) ts))
