-- Chunks that are cut from their joined bytes, one after another.
use Rattle.std.proofs.Common.{◌≡◌, ℕ, ◌+◌, ◌-◌, ◌<◌, ◌≤◌, List, [], ◌∷◌, ◌++◌, length, drop, get_or, map, sym, ◌∙◌, ap, subst, append_assoc, append-nil, arith}
use Rattle.std.specs.Prelude.{slice_range}
use Rattle.std.proofs.lemmas.List.{drop_all, drop_more, get_or_default}
use Rattle.xet_base.proofs.CallerLemmas.{length-slice_range}
use Rattle.xet_store.specs.Parts.{AreEnds, parts}
use Rattle.xet_store.proofs.CallerLemmas.{ends-le}

-- how many bytes a part within a list has
pub part_length : (xs : List ℕ) (a b : ℕ) → a ≤ b → b ≤ length xs → length (slice_range xs a b) ≡ b - a
part_length xs a b up within = omega (arith, length-slice_range xs a b)

-- a number read by its place, at any default
pub number_at : (ns : List ℕ) (i : ℕ) → i < length ns → get_or ns i 0 ≡ get_or ns i (get_or ns i 0)
number_at ns i h = get_or_default ns i 0 (get_or ns i 0) h

-- the chunk that ends next, with those before it and those that are left
module _ (bytes ends : List ℕ) (start i e : ℕ) (done : List (List ℕ)) (within : i < length ends) (is : e ≡ get_or ends i e)
    (fill : AreEnds start (drop i ends) (length bytes)) where
  split : drop i ends ≡ e ∷ drop (i + 1) ends
  split = drop_more ends i e within ∙ ap (λ (x : ℕ). x ∷ drop (i + 1) ends) (sym is)

  here : (start ≤ e) × AreEnds e (drop (i + 1) ends) (length bytes)
  here = subst (λ (es : List ℕ). AreEnds start es (length bytes)) split fill

  pub cut_order : start ≤ e
  cut_order = here.0

  pub cut_within : e ≤ length bytes
  cut_within = ends-le e (drop (i + 1) ends) (length bytes) here.1

  pub cut_rest : AreEnds e (drop (i + 1) ends) (length bytes)
  cut_rest = here.1

  pub cut_more : parts bytes 0 ends ≡ done ++ parts bytes start (drop i ends)
      → parts bytes 0 ends ≡ (done ++ slice_range bytes start e ∷ []) ++ parts bytes e (drop (i + 1) ends)
  cut_more left =
      left ∙ ap (λ (es : List ℕ). done ++ parts bytes start es) split
      ∙ sym (append_assoc done (slice_range bytes start e ∷ []) (parts bytes e (drop (i + 1) ends)))

-- none is left
pub cut_all : (bytes ends : List ℕ) (start i : ℕ) (done : List (List ℕ)) → length ends ≤ i
    → parts bytes 0 ends ≡ done ++ parts bytes start (drop i ends) → parts bytes 0 ends ≡ done
cut_all bytes ends start i done past left =
    left ∙ ap (λ (es : List ℕ). done ++ parts bytes start es) (drop_all i ends past) ∙ append-nil done

-- one more of a list's elements was made
pub made_more : {A B : Type 0} (f : A → B) (all made now : List B) (rest next : List A) (x : A) → all ≡ made ++ map f rest → rest ≡ x ∷ next
    → now ≡ made ++ f x ∷ [] → all ≡ now ++ map f next
made_more {A} f all made now rest next x left step push =
    left ∙ ap (λ (xs : List A). made ++ map f xs) step ∙ sym (append_assoc made (f x ∷ []) (map f next)) ∙ ap (λ ys. ys ++ map f next) (sym push)

pub made_all : {A B : Type 0} (f : A → B) (all made : List B) (rest : List A) → all ≡ made ++ map f rest → rest ≡ [] → made ≡ all
made_all {A} f all made rest left none = sym (left ∙ ap (λ (xs : List A). made ++ map f xs) none ∙ append-nil made)
