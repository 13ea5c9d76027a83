-- Of ranges that ascend at most one has a term, and where the ranges' ends pass the term's start it is found.
use Rattle.std.proofs.Common.{◌≡◌, ◌⊎◌, inl, inr, ℕ, zero, suc, ◌<◌, ◌≤◌, Bool, true, false, cond, ◌&&◌, ◌||◌, List, [], ◌∷◌, length, map, get_or, leb, ltb, refl, ◌∙◌, ap, arith, Some, None}
use Rattle.std.specs.Prelude.{find, option_and_then, slice_get}
use Rattle.std.specs.Bool.{then_some}
use Rattle.std.specs.List.Sorted.{IsNonDecreasingBy, IsPartitionPoint, IsPartitionedBy}
use Rattle.std.proofs.lemmas.Option.{get_or_from_slice_get, slice_get_within}
use Rattle.std.proofs.lemmas.Bool.{and_parts, cases_lt, or_parts, ltb-true, ltb-false, leb-true, leb-false, lt-leb, and_left}
use Rattle.std.proofs.lemmas.List.Sorted.{IsPartitionedBy-leb}
use Rattle.xet_outside.specs.declared.plan.FetchRange.{FetchRange}
use Rattle.xet_outside.specs.declared.plan.PlanTerm.{PlanTerm}
use Rattle.xet_offers.specs.Blocks.{lies_in}
use Rattle.xet_offers.specs.PlanChecks.{unordered}

-- where no element passes, none is found; and where no other passes, the one at a place or none
pub find_none : {X : Type 0} (p : X → Bool) (xs : List X) → ((k : ℕ) (d : X) → k < length xs → p (get_or xs k d) ≡ false) → find p xs ≡ None
find_none p [] h = refl
find_none p (x ∷ xs) h =
    let here : p x ≡ false = h 0 x (omega arith) in
    let next = find_none p xs (λ k d l. h (suc k) d (omega arith)) in
    ap (λ b. cond b (Some x) (find p xs)) here ∙ next

pub find_at : {X : Type 0} (p : X → Bool) (xs : List X) (i : ℕ) → ((k : ℕ) (d : X) → k < i → k < length xs → p (get_or xs k d) ≡ false) → ((k : ℕ) (d : X) → i < k → k < length xs → p (get_or xs k d) ≡ false)
    → find p xs ≡ option_and_then (λ x. cond (p x) (Some x) None) (slice_get xs i)
find_at p [] i before after = refl
find_at p (x ∷ xs) zero before after =
    let next = find_none p xs (λ k d l. after (suc k) d (omega arith) (omega arith)) in
    ap (λ o. cond (p x) (Some x) o) next
find_at p (x ∷ xs) (suc i) before after =
    let here : p x ≡ false = before 0 x (omega arith) (omega arith) in
    let next = find_at p xs i (λ k d l m. before (suc k) d (omega arith) (omega arith)) (λ k d l m. after (suc k) d (omega arith) (omega arith)) in
    ap (λ b. cond b (Some x) (find p xs)) here ∙ next

pub then_some-cond : {X : Type 0} (b : Bool) (x : X) → then_some b x ≡ cond b (Some x) None
then_some-cond true x = refl
then_some-cond false x = refl

-- a term in no range that ends at or before its start, nor in one that starts after it
pub apart_before : (t : PlanTerm) (r : FetchRange) → r.chunks.end ≤ t.range.start → lies_in t r ≡ false
apart_before t r h = go (leb r.chunks.start t.range.start) (ltb t.range.start t.range.end) refl (leb t.range.end r.chunks.end) refl
  where
    go : (a b : Bool) → ltb t.range.start t.range.end ≡ b → (c : Bool) → leb t.range.end r.chunks.end ≡ c → (a && (b && c)) ≡ false
    go false b e c f = refl
    go true false e c f = refl
    go true true e false f = refl
    go true true e true f = absurd (omega (arith, ltb-true t.range.start t.range.end e, leb-true t.range.end r.chunks.end f))

pub apart_after : (t : PlanTerm) (r : FetchRange) → t.range.start < r.chunks.start → lies_in t r ≡ false
apart_after t r h = and_left (leb r.chunks.start t.range.start) (ltb t.range.start t.range.end && leb t.range.end r.chunks.end) (lt-leb r.chunks.start t.range.start h)

module _ {X : Type 0} (f : X → FetchRange) where
  -- each range starts at or after the low place, and has chunks
  pub above_low : (low : ℕ) (xs : List X) → unordered low (map f xs) ≡ false → (k : ℕ) (d : X) → k < length xs → (low ≤ (f (get_or xs k d)).chunks.start) × ((f (get_or xs k d)).chunks.start < (f (get_or xs k d)).chunks.end)
  above_low low [] h k d l = absurd (omega arith)
  above_low low (x ∷ xs) h zero d l =
      let r = f x in
      let first = or_parts (leb r.chunks.end r.chunks.start) (ltb r.chunks.start low || unordered r.chunks.end (map f xs)) h in
      let second = or_parts (ltb r.chunks.start low) (unordered r.chunks.end (map f xs)) first.1 in
      (ltb-false r.chunks.start low second.0, leb-false r.chunks.end r.chunks.start first.0)
  above_low low (x ∷ xs) h (suc k) d l =
      let r = f x in
      let first = or_parts (leb r.chunks.end r.chunks.start) (ltb r.chunks.start low || unordered r.chunks.end (map f xs)) h in
      let second = or_parts (ltb r.chunks.start low) (unordered r.chunks.end (map f xs)) first.1 in
      let next = above_low r.chunks.end xs second.1 k d (omega arith) in
      let a : low ≤ r.chunks.start = ltb-false r.chunks.start low second.0 in
      let b : r.chunks.start < r.chunks.end = leb-false r.chunks.end r.chunks.start first.0 in
      (omega (arith, next.0), next.1)

  -- each range starts at or after the end of any before it
  pub starts_after : (low : ℕ) (xs : List X) → unordered low (map f xs) ≡ false → (i j : ℕ) (d : X) → i < j → j < length xs → (f (get_or xs i d)).chunks.end ≤ (f (get_or xs j d)).chunks.start
  starts_after low [] h i j d l m = absurd (omega arith)
  starts_after low (x ∷ xs) h i zero d l m = absurd (omega arith)
  starts_after low (x ∷ xs) h zero (suc j) d l m =
      let r = f x in
      let first = or_parts (leb r.chunks.end r.chunks.start) (ltb r.chunks.start low || unordered r.chunks.end (map f xs)) h in
      let second = or_parts (ltb r.chunks.start low) (unordered r.chunks.end (map f xs)) first.1 in
      (above_low r.chunks.end xs second.1 j d (omega arith)).0
  starts_after low (x ∷ xs) h (suc i) (suc j) d l m =
      let r = f x in
      let first = or_parts (leb r.chunks.end r.chunks.start) (ltb r.chunks.start low || unordered r.chunks.end (map f xs)) h in
      let second = or_parts (ltb r.chunks.start low) (unordered r.chunks.end (map f xs)) first.1 in
      starts_after r.chunks.end xs second.1 i j d (omega arith) (omega arith)

  pub ends_rise : (xs : List X) → unordered 0 (map f xs) ≡ false → IsNonDecreasingBy (λ x. (f x).chunks.end) xs
  ends_rise xs h i j d l m = go (cases_lt i j)
    where
      go : (i < j) ⊎ (j ≤ i) → (f (get_or xs i d)).chunks.end ≤ (f (get_or xs j d)).chunks.end
      go (inr n) =
          let e : i ≡ j = omega arith in
          let same : get_or xs i d ≡ get_or xs j d = ap (λ (k : ℕ). get_or xs k d) e in
          omega (arith, ap (λ x. (f x).chunks.end) same)
      go (inl l) = omega (arith, starts_after 0 xs h i j d l m, (above_low 0 xs h j d m).1)

  -- what the search by halves asks of the ranges
  pub ends_part : (xs : List X) (k : ℕ) → unordered 0 (map f xs) ≡ false → IsPartitionedBy (λ x. leb (f x).chunks.end k) xs
  ends_part xs k h = IsPartitionedBy-leb (λ x. (f x).chunks.end) xs k (ends_rise xs h)

  -- the range at the place where the ends pass the term's start is the only one that may have it
  pub find_by_halves : (xs : List X) (t : PlanTerm) (i : ℕ) → unordered 0 (map f xs) ≡ false
      → IsPartitionPoint (λ x. leb (f x).chunks.end t.range.start ≡ true) (λ x. leb (f x).chunks.end t.range.start ≡ false) xs i
      → find (λ x. lies_in t (f x)) xs ≡ option_and_then (λ x. cond (lies_in t (f x)) (Some x) None) (slice_get xs i)
  find_by_halves xs t i h part = find_at (λ x. lies_in t (f x)) xs i before after
    where
      before : (k : ℕ) (d : X) → k < i → k < length xs → lies_in t (f (get_or xs k d)) ≡ false
      before k d l m = apart_before t (f (get_or xs k d)) (leb-true (f (get_or xs k d)).chunks.end t.range.start (part.0 k d (omega arith) l))

      after : (k : ℕ) (d : X) → i < k → k < length xs → lies_in t (f (get_or xs k d)) ≡ false
      after k d l m =
          let here : t.range.start < (f (get_or xs i d)).chunks.end = leb-false (f (get_or xs i d)).chunks.end t.range.start (part.1 i d (omega arith) (omega arith)) in
          apart_after t (f (get_or xs k d)) (omega (arith, here, starts_after 0 xs h i k d l m))

  -- a range that has the term is the first one that has it
  pub find_there : (xs : List X) (t : PlanTerm) (i : ℕ) (x : X) → unordered 0 (map f xs) ≡ false → slice_get xs i ≡ Some x → lies_in t (f x) ≡ true → find (λ x. lies_in t (f x)) xs ≡ Some x
  find_there xs t i x h got here =
      find_at (λ x. lies_in t (f x)) xs i before after ∙ ap (λ o. option_and_then (λ x. cond (lies_in t (f x)) (Some x) None) o) got ∙ ap (λ b. cond b (Some x) None) here
    where
      within : i < length xs
      within = slice_get_within xs i x got

      parts : (leb (f x).chunks.start t.range.start ≡ true) × ((ltb t.range.start t.range.end && leb t.range.end (f x).chunks.end) ≡ true)
      parts = and_parts (leb (f x).chunks.start t.range.start) (ltb t.range.start t.range.end && leb t.range.end (f x).chunks.end) here

      ends : (ltb t.range.start t.range.end ≡ true) × (leb t.range.end (f x).chunks.end ≡ true)
      ends = and_parts (ltb t.range.start t.range.end) (leb t.range.end (f x).chunks.end) parts.1

      low : (d : X) → (f (get_or xs i d)).chunks.start ≤ t.range.start
      low d =
          let same : (f (get_or xs i d)).chunks.start ≡ (f x).chunks.start = ap (λ y. (f y).chunks.start) (get_or_from_slice_get xs i x d got) in
          omega (arith, same, leb-true (f x).chunks.start t.range.start parts.0)

      high : (d : X) → t.range.start < (f (get_or xs i d)).chunks.end
      high d =
          let same : (f (get_or xs i d)).chunks.end ≡ (f x).chunks.end = ap (λ y. (f y).chunks.end) (get_or_from_slice_get xs i x d got) in
          omega (arith, same, ltb-true t.range.start t.range.end ends.0, leb-true t.range.end (f x).chunks.end ends.1)

      before : (k : ℕ) (d : X) → k < i → k < length xs → lies_in t (f (get_or xs k d)) ≡ false
      before k d l m = apart_before t (f (get_or xs k d)) (omega (arith, starts_after 0 xs h k i d l within, low d))

      after : (k : ℕ) (d : X) → i < k → k < length xs → lies_in t (f (get_or xs k d)) ≡ false
      after k d l m = apart_after t (f (get_or xs k d)) (omega (arith, starts_after 0 xs h i k d l m, high d))
