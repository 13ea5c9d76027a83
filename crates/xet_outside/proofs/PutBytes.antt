-- Bytes at a place of a content.
use Rattle.std.proofs.Common.{◌≡◌, ℕ, ◌+◌, ◌-◌, List, [], ◌∷◌, ◌++◌, take, drop, length, replicate, ap, sym, ◌∙◌, refl, arith, length-append, append_assoc, add-zero}
use Rattle.std.proofs.lemmas.List.{append-nil, length-take, length-replicate, take_at, drop_at, drop-drop}
use Rattle.xet_outside.specs.Places.{put_at}

abbrev pub full : List ℕ → ℕ → List ℕ → List ℕ
full c p xs = take p c ++ replicate (p - length c) 0 ++ xs ++ drop (p + length xs) c

length-front : (c : List ℕ) (p : ℕ) → length (take p c ++ replicate (p - length c) 0) ≡ p
length-front c p =
    let a = length-append (take p c) (replicate (p - length c) 0) in
    let b = length-take p c in
    let d = length-replicate {A = ℕ} (p - length c) 0 in
    omega arith

rest_more : (f xs ys c : List ℕ) (p : ℕ) → length (f ++ xs) ≡ p + length xs → drop (p + length xs + length ys) (f ++ xs ++ drop (p + length xs) c) ≡ drop (p + length (xs ++ ys)) c
rest_more f xs ys c p h =
    let n : p + length xs + length ys ≡ p + length (xs ++ ys) = let a = length-append xs ys in omega arith in
    sym (drop-drop (length ys) (p + length xs) (f ++ xs ++ drop (p + length xs) c)) ∙ ap (λ (l : List ℕ). drop (length ys) l) (drop_at (f ++ xs) (drop (p + length xs) c) (p + length xs) h) ∙ drop-drop (length ys) (p + length xs) c ∙ ap (λ (k : ℕ). drop k c) n

full_more : (c : List ℕ) (p : ℕ) (xs ys : List ℕ) → full (full c p xs) (p + length xs) ys ≡ full c p (xs ++ ys)
full_more c p xs ys =
    let l = length-front c p in
    let f : List ℕ = take p c ++ replicate (p - length c) 0 in
    let h : length (take p c ++ replicate (p - length c) 0 ++ xs) ≡ p + length xs = let a = length-append (take p c ++ replicate (p - length c) 0) xs in omega arith in
    let t = take_at (take p c ++ replicate (p - length c) 0 ++ xs) (drop (p + length xs) c) (p + length xs) h in
    let z : p + length xs - length (take p c ++ replicate (p - length c) 0 ++ xs ++ drop (p + length xs) c) ≡ 0 = let a = length-append (take p c ++ replicate (p - length c) 0 ++ xs) (drop (p + length xs) c) in omega arith in
    let r = rest_more (take p c ++ replicate (p - length c) 0) xs ys c p h in
    rw (t, z, r, append-nil, append_assoc (take p c ++ replicate (p - length c) 0) xs ys) refl

-- bytes after bytes
pub put_more : (c : List ℕ) (p : ℕ) (xs ys : List ℕ) → put_at (put_at c p xs) (p + length xs) ys ≡ put_at c p (xs ++ ys)
put_more c p [] ys = rw add-zero refl
put_more c p (x ∷ xs) [] = ap (λ (l : List ℕ). put_at c p l) (sym (append-nil (x ∷ xs)))
put_more c p (x ∷ xs) (y ∷ ys) = full_more c p (x ∷ xs) (y ∷ ys)
