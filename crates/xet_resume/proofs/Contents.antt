-- Bytes at a place of a content.
use Rattle.std.proofs.Common.{◌≡◌, ◌⊎◌, ℕ, ◌+◌, ◌-◌, ◌<◌, ◌≤◌, List, [], ◌∷◌, ◌++◌, length, take, drop, replicate, get_or, Option, Some, None, min}
use Rattle.std.proofs.Common.{refl, sym, ap, ◌∙◌, ⊎_elim, inl, inr, arith, length-append, length-drop, length-take, slice_get, slice_range}
use Rattle.std.proofs.lemmas.Bool.{cases_lt}
use Rattle.std.proofs.lemmas.List.{get_or-append_right, get_or-drop, get_or-take, get_or_append_left, length-replicate}
use Rattle.std.proofs.lemmas.Option.{slice_get-get_or, slice_get_within}
use Rattle.xet_outside.specs.Places.{put_at}

-- two lists with the same element at a place each
pub got_same : (xs ys : List ℕ) (i j : ℕ) → i < length xs → j < length ys → get_or xs i 0 ≡ get_or ys j 0
    → slice_get xs i ≡ slice_get ys j
got_same xs ys i j h k e =
    slice_get-get_or xs i 0 h ∙ ap (λ (n : ℕ). Some n) e ∙ sym (slice_get-get_or ys j 0 k)

-- where they are the same they have the same element
pub same_got : (xs ys : List ℕ) (i j : ℕ) → i < length xs → j < length ys → slice_get xs i ≡ slice_get ys j
    → get_or xs i 0 ≡ get_or ys j 0
same_got xs ys i j h k e =
    let z : ◌≡◌ {A = Option ℕ} (Some (get_or xs i 0)) (Some (get_or ys j 0)) =
    sym (slice_get-get_or xs i 0 h) ∙ e ∙ slice_get-get_or ys j 0 k in
    cc

-- a place of a list that has an element there
pub got_within : (xs ys : List ℕ) (i j : ℕ) → j < length ys → slice_get xs i ≡ slice_get ys j → i < length xs
got_within xs ys i j k e = slice_get_within xs i (get_or ys j 0) (e ∙ slice_get-get_or ys j 0 k)

-- ---- after a write

module _ (c : List ℕ) (p : ℕ) (x : ℕ) (xs : List ℕ) where
  abbrev front : List ℕ
  front = take p c ++ replicate (p - length c) 0

  front_length : length (take p c ++ replicate (p - length c) 0) ≡ p
  front_length =
      let a = length-append (take p c) (replicate (p - length c) 0) in
      let b = length-take p c in
      let d = length-replicate {A = ℕ} (p - length c) 0 in
      omega (arith, a, b, d)

  whole_length : length (put_at c p (x ∷ xs)) ≡ p + length (x ∷ xs) + (length c - (p + length (x ∷ xs)))
  whole_length =
      let a = length-append (front ++ (x ∷ xs)) (drop (p + length (x ∷ xs)) c) in
      let b = length-append front (x ∷ xs) in
      let d = length-drop (p + length (x ∷ xs)) c in
      let e = front_length in
      omega (arith, a, b, d, e)

  -- inside
  in_put : (i : ℕ) → p ≤ i → i < p + length (x ∷ xs)
      → get_or (put_at c p (x ∷ xs)) i 0 ≡ get_or (x ∷ xs) (i - p) 0
  in_put i h k =
      let b = length-append front (x ∷ xs) in
      let e = front_length in
      get_or_append_left (front ++ (x ∷ xs)) (drop (p + length (x ∷ xs)) c) 0 i (omega (arith, b, e, k))
      ∙ get_or-append_right front (x ∷ xs) p i 0 e h

  -- before
  before_put : (i : ℕ) → i < p → i < length c → get_or (put_at c p (x ∷ xs)) i 0 ≡ get_or c i 0
  before_put i h k =
      let b = length-append front (x ∷ xs) in
      let e = front_length in
      let d = length-take p c in
      get_or_append_left (front ++ (x ∷ xs)) (drop (p + length (x ∷ xs)) c) 0 i (omega (arith, b, e, h))
      ∙ get_or_append_left front (x ∷ xs) 0 i (omega (arith, e, h))
      ∙ get_or_append_left (take p c) (replicate (p - length c) 0) 0 i (omega (arith, d, h, k))
      ∙ get_or-take p c i 0 h

  -- behind
  behind_put : (i : ℕ) → p + length (x ∷ xs) ≤ i → get_or (put_at c p (x ∷ xs)) i 0 ≡ get_or c i 0
  behind_put i h =
      let b = length-append front (x ∷ xs) in
      let e = front_length in
      let at : p + length (x ∷ xs) + (i - (p + length (x ∷ xs))) ≡ i = omega (arith, h) in
      get_or-append_right (front ++ (x ∷ xs)) (drop (p + length (x ∷ xs)) c) (p + length (x ∷ xs)) i 0
      (omega (arith, b, e)) h
      ∙ get_or-drop (p + length (x ∷ xs)) c (i - (p + length (x ∷ xs))) 0
      ∙ ap (λ (n : ℕ). get_or c n 0) at

-- a byte that was written
pub put_inside : (c : List ℕ) (p : ℕ) (xs : List ℕ) (i : ℕ) → p ≤ i → i < p + length xs
    → slice_get (put_at c p xs) i ≡ slice_get xs (i - p)
put_inside c p [] i h k = absurd (omega (arith, h, k))
put_inside c p (x ∷ xs) i h k =
    let w = whole_length c p x xs in
    got_same (put_at c p (x ∷ xs)) (x ∷ xs) i (i - p) (omega (arith, w, k)) (omega (arith, h, k)) (in_put c p x xs i h k)

-- a byte that was there before and wasn't written
pub put_outside : (c : List ℕ) (p : ℕ) (xs : List ℕ) (i : ℕ) → i < length c → (i < p) ⊎ (p + length xs ≤ i)
    → slice_get (put_at c p xs) i ≡ slice_get c i
put_outside c p [] i l o = refl
put_outside c p (x ∷ xs) i l (inl h) =
    let w = whole_length c p x xs in
    got_same (put_at c p (x ∷ xs)) c i i (omega (arith, w, h, l)) l (before_put c p x xs i h l)
put_outside c p (x ∷ xs) i l (inr h) =
    let w = whole_length c p x xs in
    got_same (put_at c p (x ∷ xs)) c i i (omega (arith, w, h, l)) l (behind_put c p x xs i h)

-- ---- a part of a list

-- an element of a beginning of a part
pub part_get : (xs : List ℕ) (a b k i : ℕ) → i < length (take k (slice_range xs a b))
    → slice_get (take k (slice_range xs a b)) i ≡ slice_get xs (a + i)
part_get xs a b k i h =
    let n = length-take k (slice_range xs a b) in
    let m = length-take (b - a) (drop a xs) in
    let o = length-drop a xs in
    got_same (take k (slice_range xs a b)) xs i (a + i) h (omega (arith, n, m, o, h))
    (get_or-take k (slice_range xs a b) i 0 (omega (arith, n, h))
    ∙ get_or-take (b - a) (drop a xs) i 0 (omega (arith, n, m, h))
    ∙ get_or-drop a xs i 0)
