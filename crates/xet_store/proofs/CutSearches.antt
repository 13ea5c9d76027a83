-- A term cut by two searches among the places of its chunks.
use Rattle.std.proofs.Common.{◌≡◌, ℕ, zero, suc, [], ◌+◌, ◌-◌, ◌^◌, ◌≤◌, ◌<◌, List, length, take, min, max, get_or, refl, subst, arith, inl, inr, ⊎_elim, ◌⊎◌, Bool, true, false}
use Rattle.std.specs.Prelude.{All, nat_lt, sum}
use Rattle.std.proofs.lemmas.Bool.{ltb-false, ltb-true}
use Rattle.std.proofs.lemmas.List.{get_or-map, length-map}
use Rattle.std.proofs.Math.Nat.{lt_of_not-le}
use Rattle.std.proofs.lemmas.List.Sums.{sum_by_more}
use Rattle.xet_base.specs.declared.cas_types.FileRange.{FileRange}
use Rattle.xet_base.specs.declared.stored.StoredTerm.{StoredTerm}
use Rattle.xet_outside.specs.Plan.{lengths}
use Rattle.std.specs.List.{concat}
use Rattle.xet_store.proofs.JoinedChunks.{length-concat-take, place-le, place_is}
use Rattle.xet_store.proofs.CutTerms.{IsChunkAt, IsCutTo, cut_after, cut_before, cut_none, cut_touched}

lt_or_le : (a b : ℕ) → (a < b) ⊎ (b ≤ a)
lt_or_le a b = by_test (nat_lt a b) refl
  where
    by_test : (v : Bool) → nat_lt a b ≡ v → (a < b) ⊎ (b ≤ a)
    by_test true e = inl (ltb-true a b e)
    by_test false e = inr (ltb-false a b e)

-- the place of a chunk in the joined chunks
abbrev pub place_of : List (List ℕ) → ℕ → ℕ
place_of cs k = sum (take k (lengths cs))

-- the place after the next chunk is greater, where no chunk is empty
place-lt : (cs : List (List ℕ)) (k : ℕ) → All (λ c. 0 < length c) cs → k < length cs
    → place_of cs k < place_of cs (k + 1)
place-lt cs k full h =
    let many : k < length (lengths cs) = omega (arith, length-map cs (λ c. length c)) in
    let more = sum_by_more (λ x. x) (lengths cs) k 0 many in
    let some = full_at cs k full h in
    omega (arith, more, some)
  where
    full_at : (cs : List (List ℕ)) (k : ℕ) → All (λ c. 0 < length c) cs → k < length cs → 0 < get_or (lengths cs) k 0
    full_at cs k full h = rw (get_or-map (λ (c : List ℕ). length c) cs k [] 0 h) (full k [] h)

-- the chunks of a term by the range: those that end before it, those that it touches, those after
pub record IsCutAt (cs : List (List ℕ)) (q : FileRange) (p : ℕ) (t : StoredTerm) (first end : ℕ) : Type 0 where
  pub low : t.from ≤ first
  pub ordered : first ≤ end
  pub high : end ≤ t.to
  pub inside : t.to ≤ length cs
  pub before : (k : ℕ) → t.from ≤ k → k < first → p + (place_of cs (k + 1) - place_of cs t.from) ≤ q.start
  pub past : (k : ℕ) → first ≤ k → k < t.to → q.start < p + (place_of cs (k + 1) - place_of cs t.from)
  pub touched : (k : ℕ) → first ≤ k → k < end
      → max (p + (place_of cs k - place_of cs t.from)) q.start < min (p + (place_of cs
      (k + 1) - place_of cs t.from)) q.end
  pub after : (k : ℕ) → end ≤ k → k < t.to → q.end ≤ p + (place_of cs k - place_of cs t.from)

-- a walk over all of them counts just these
module _ (cs : List (List ℕ)) (q : FileRange) (p : ℕ) (t : StoredTerm) (first end : ℕ)
    (c : IsCutAt cs q p t first end) where
  chunk_at : (k : ℕ) → t.from ≤ k → k < t.to → IsChunkAt cs p t k (p + (place_of cs k - place_of cs t.from)) (p +
      (place_of cs (k + 1) - place_of cs t.from))
  chunk_at k l h = record { low = l; high = h; inside = c.inside; at_is = refl; end_is = refl }

  to_first : (n k : ℕ) → k ≡ t.from + n → k ≤ first → IsCutTo cs q p t k k 0
  to_first zero k e h = let same : t.from ≡ k = omega (
    arith,
    e,
  ) in subst (λ (j : ℕ). IsCutTo cs q p t j j 0) same (cut_none cs q p t)
  to_first (suc n) k e h =
      let j = t.from + n in
      let next : j + 1 ≡ k = omega (arith, e) in
      let o = c.ordered in let i = c.high in
      let one = cut_before cs q p t j j 0 _ _ (chunk_at j (omega arith) (omega (
        arith,
        e,
        h,
        o,
        i,
      ))) (to_first n j refl (omega (arith, e, h))) (c.before j (omega arith) (omega (arith, e, h))) in
      subst (λ (m : ℕ). IsCutTo cs q p t m m 0) next one

  to_end : (n k : ℕ) → k ≡ first + n → k ≤ end → IsCutTo cs q p t k first n
  to_end zero k e h =
      let l = c.low in
      let same : first ≡ k = omega (arith, e) in
      subst (λ (j : ℕ). IsCutTo cs q p t j first 0) same (to_first (first - t.from) first (omega (
        arith,
        l,
      )) (omega arith))
  to_end (suc n) k e h =
      let j = first + n in
      let next : j + 1 ≡ k = omega (arith, e) in
      let count : n + 1 ≡ suc n = omega arith in
      let l = c.low in let i = c.high in
      let one = cut_touched cs q p t j first n _ _ (chunk_at j (omega (arith, l)) (omega (
        arith,
        e,
        h,
        i,
      ))) (to_end n j refl (omega (arith, e, h)))
      (c.past j (omega arith) (omega (arith, e, h, i))) (c.touched j (omega arith) (omega (arith, e, h))) in
      subst (λ (m : ℕ). IsCutTo cs q p t k first m) count (subst (λ (m : ℕ). IsCutTo cs q p t m first (n + 1)) next one)

  to_last : (n k : ℕ) → k ≡ end + n → k ≤ t.to → IsCutTo cs q p t k first (end - first)
  to_last zero k e h =
      let o = c.ordered in
      let same : end ≡ k = omega (arith, e) in
      subst (λ (j : ℕ). IsCutTo cs q p t j first (end - first)) same (to_end (end - first) end (omega (
        arith,
        o,
      )) (omega arith))
  to_last (suc n) k e h =
      let j = end + n in
      let next : j + 1 ≡ k = omega (arith, e) in
      let l = c.low in let o = c.ordered in
      let past = c.after j (omega arith) (omega (arith, e, h)) in
      let one = cut_after cs q p t j first (end - first) _ _ (chunk_at j (omega (arith, l, o)) (omega (
        arith,
        e,
        h,
      ))) (to_last n j refl (omega (arith, e, h)))
      (c.past j (omega (arith, o)) (omega (arith, e, h))) (omega (arith, past)) in
      subst (λ (m : ℕ). IsCutTo cs q p t m first (end - first)) next one

  pub cut_walked : IsCutTo cs q p t t.to first (end - first)
  cut_walked = let h = c.high in to_last (t.to - end) t.to (omega (arith, h)) (omega arith)

-- what two searches find: the first chunk that ends past the range's start stands before `second`, and `end` is the
-- first
-- that starts at or past the range's end
pub record AreFound (cs : List (List ℕ)) (q : FileRange) (p : ℕ) (t : StoredTerm) (second end : ℕ) : Type 0 where
  pub some : t.from < t.to
  pub inside : t.to ≤ length cs
  pub full : All (λ c. 0 < length c) cs
  pub short : place_of cs t.to < 2 ^ 32
  pub touched : max p q.start < min (p + (place_of cs t.to - place_of cs t.from)) q.end
  pub second_low : t.from + 1 ≤ second
  pub second_high : second ≤ t.to
  pub second_before : (k : ℕ) → t.from + 1 ≤ k → k < second → place_of cs k ≤ min (place_of cs t.from + (q.start - p))
      (2 ^ 64 - 1)
  pub second_past : second < t.to → min (place_of cs t.from + (q.start - p)) (2 ^ 64 - 1) < place_of cs second
  pub end_low : second ≤ end
  pub end_high : end ≤ t.to
  pub end_before : (k : ℕ) → second ≤ k → k < end → place_of cs k ≤ min (place_of cs t.from + (q.end - p))
      (2 ^ 64 - 1) - 1
  pub end_past : end < t.to → min (place_of cs t.from + (q.end - p)) (2 ^ 64 - 1) - 1 < place_of cs end

module _ (cs : List (List ℕ)) (q : FileRange) (p : ℕ) (t : StoredTerm) (second end : ℕ)
    (f : AreFound cs q p t second end) where
  -- places ascend
  up : (a b : ℕ) → a ≤ b → place_of cs a ≤ place_of cs b
  up a b h = place-le cs a b h

  short_at : (k : ℕ) → k ≤ t.to → place_of cs k < 2 ^ 32
  short_at k h = let s = f.short in let u = up k t.to h in omega (arith, s, u)

  -- the chunk before `second` ends past the start
  second_ends : p + (place_of cs second - place_of cs t.from) ≤ q.start → ⊥
  second_ends h =
      let low = f.second_low in let high = f.second_high in let touched = f.touched in let inside = f.inside in let some
      = f.some in
      let u = up t.from second (omega (arith, low)) in
      let s = short_at second high in
      let strict = place-lt cs t.from f.full (omega (arith, inside, some)) in
      let v = up (t.from + 1) second low in
      ⊎_elim
      (λ (less : second < t.to). let past = f.second_past less in omega (arith, past, s, h, u, strict, v))
      (λ (last : t.to ≤ second). let w = up t.to second last in omega (arith, w, h, u, touched))
      (lt_or_le second t.to)

  pub is_cut_at : IsCutAt cs q p t (second - 1) end
  is_cut_at =
      let low = f.second_low in let high = f.second_high in let touched = f.touched in let elow = f.end_low in let ehigh
      = f.end_high in
      record {
        low = omega (arith, low);
        ordered = omega (arith, elow);
        high = ehigh;
        inside = f.inside;
        before = λ k l h.
            let b = f.second_before (k + 1) (omega (arith, l)) (omega (arith, h)) in
            let strict = place-lt cs k f.full (let i = f.inside in omega (arith, i, h, high)) in
            let u = up t.from k l in
            omega (arith, b, strict, u);
        past = λ k l h.
            let u = up second (k + 1) (omega (arith, l)) in
            let v = up t.from second (omega (arith, low)) in
            lt_of_not-le (λ bad. second_ends (omega (arith, bad, u, v)));
        touched = λ k l h.
            let inside = f.inside in
            let strict = place-lt cs k f.full (omega (arith, inside, h, ehigh)) in
            let u = up second (k + 1) (omega (arith, l)) in
            let v = up t.from second (omega (arith, low)) in
            let w = up t.from k (omega (arith, l, low)) in
            let past : q.start < p + (place_of cs (k + 1) - place_of cs t.from) = lt_of_not-le (λ bad. second_ends
            (omega (arith, bad, u, v))) in
            let starts : p + (place_of cs k - place_of cs t.from) < q.end = starts_before k l h in
            omega (arith, past, starts, strict, touched, w);
        after = λ k l h.
            let past = f.end_past (omega (arith, l, h)) in
            let u = up end k l in
            let s = short_at k (omega (arith, h)) in
            let w = up t.from k (omega (arith, l, low, elow)) in
            omega (arith, past, u, s, touched, w);
      }
    where
      starts_before : (k : ℕ) → second - 1 ≤ k → k < end → p + (place_of cs k - place_of cs t.from) < q.end
      starts_before k l h =
          let low = f.second_low in let touched = f.touched in
          let w = up t.from k (omega (arith, l, low)) in
          ⊎_elim
          (λ (less : k < second). ⊎_elim
          (λ (more : t.from < k). let b = f.second_before k (omega (arith, more)) less in omega (
            arith,
            b,
            touched,
            w,
          ))
          (λ (first : k ≤ t.from). let u = up k t.from first in omega (arith, u, touched))
          (lt_or_le t.from k))
          (λ (later : second ≤ k). let b = f.end_before k later h in omega (arith, b, touched, w))
          (lt_or_le k second)

-- no place is past the bytes of all chunks
pub short_place : (cs : List (List ℕ)) (k : ℕ) → length (concat cs) < 2 ^ 32 → place_of cs k < 2 ^ 32
short_place cs k h = omega (arith, place_is cs k, length-concat-take cs k, h)
