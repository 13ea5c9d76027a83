-- One step of the loops over files and terms.
use Rattle.std.proofs.Common.{◌≡◌, ℕ, ◌+◌, ◌<◌, List, [], ◌∷◌, ◌++◌, length, map, take, drop, set, sym, ◌∙◌, ap, subst, arith, get_or}
use Rattle.std.specs.List.{AllZip}
use Rattle.std.proofs.lemmas.List.{take_more, get_or_default, take_more_set, map_more, drop-set-lt, drop_more}

-- a list of which the front is changed by f and the rest is as it was, one step on
module _ {A : Type 0} (f : A → A) (xs ys : List A) (i : ℕ) (d e y : A) (count : length ys ≡ length xs) (within : i < length ys)
    (front : take i ys ≡ map f (take i xs)) (rest : drop i ys ≡ drop i xs) (is : y ≡ f (get_or ys i e)) where
  low : i < length xs
  low = omega arith

  same : (get_or ys i d ≡ get_or xs i d) × (drop (i + 1) ys ≡ drop (i + 1) xs)
  same =
      let a = drop_more ys i d within in
      let b = drop_more xs i d low in
      let both : get_or ys i d ∷ drop (i + 1) ys ≡ get_or xs i d ∷ drop (i + 1) xs = sym a ∙ rest ∙ b in
      (cc, cc)

  pub mapped_step : (take (i + 1) (set ys i y) ≡ map f (take (i + 1) xs)) × (drop (i + 1) (set ys i y) ≡ drop (i + 1) xs)
  mapped_step =
      let below : i < i + 1 = omega arith in (
        take_more_set ys i y within ∙ ap (λ (zs : List A). zs ++ y ∷ []) front ∙ ap (λ (z : A). map f (take i xs) ++ z ∷ []) (is ∙ ap f (get_or_default ys i e d within ∙ same.0)) ∙ sym (map_more f xs i d low),
        drop-set-lt (i + 1) ys i y below ∙ same.1,
      )

-- a pair of elements more
pub zip_push : {X Y : Type 0} (R : X → Y → Type 0) (xs : List X) (ys : List Y) (x : X) (y : Y) → AllZip R xs ys → R x y → AllZip R (xs ++ x ∷ []) (ys ++ y ∷ [])
zip_push R [] [] x y h r = (r, tt)
zip_push R [] (b ∷ ys) x y h r = absurd h
zip_push R (a ∷ xs) [] x y h r = absurd h
zip_push R (a ∷ xs) (b ∷ ys) x y h r = (h.0, zip_push R xs ys x y h.1 r)

pub zip_more : {X Y : Type 0} (R : X → Y → Type 0) (xs : List X) (ys : List Y) (i : ℕ) (x : X) (y : Y) → i < length xs → x ≡ get_or xs i x → AllZip R (take i xs) ys → R x y → AllZip R (take (i + 1) xs) (ys ++ y ∷ [])
zip_more {X} {Y} R xs ys i x y h e all r =
    let P : List X → Type 0 = λ zs. AllZip R zs (ys ++ y ∷ []) in
    let more : take (i + 1) xs ≡ take i xs ++ x ∷ [] = take_more xs i x h ∙ ap (λ (z : X). take i xs ++ z ∷ []) (sym e) in
    subst P (sym more) (zip_push R (take i xs) ys x y all r)
