-- The references of blocks: a stable sort by their starts, and the lists of each block's terms.
use Rattle.std.proofs.Common.{◌≡◌, ℕ, zero, suc, ◌+◌, ◌<◌, ◌≤◌, ◌≢◌, Bool, true, false, cond, not, ◌||◌, List, [], ◌∷◌, ◌++◌, filter, length, map, get_or, take, drop, set, eqb, leb, ltb, nat_cmp, is_lt, refl, sym, ◌∙◌, ap, arith, inl, inr, suc-le-suc, zero-le}
use Rattle.std.specs.Prelude.{All}
use Rattle.std.specs.List.{enumerate_from, list_any, position_or_len}
use Rattle.std.specs.List.Sorted.{ties, IsNonDecreasingBy, IsStableByKey}
use Rattle.std.proofs.lemmas.Bool.{cases_Bool, cond-false, cond-true, eqb-true, eq-eqb, false≢true, leb-false, leb-true, ltb-false, or_parts}
use Rattle.std.proofs.lemmas.Bool.Decides.{nat_tests}
use Rattle.std.proofs.lemmas.List.{append-nil, drop-set-lt, drop_more, length-map, map-append, map_more, take_more_set}
use Rattle.std.proofs.lemmas.List.Elements.{All-cons, All-head, All-tail, filter-append}
use Rattle.xet_base.specs.Lists.{firsts}
use Rattle.xet_outside.specs.declared.plan.PlanTerm.{PlanTerm}
use Rattle.xet_outside.specs.Plan.{Shape}
use Rattle.xet_blocks.specs.declared.reconstruction_terms.block_list.OfferedBlock.{OfferedBlock}
use Rattle.xet_offers.specs.declared.reconstruction_terms.xorb_block.XorbBlock.{XorbBlock}
use Rattle.xet_offers.specs.declared.reconstruction_terms.xorb_block.XorbReference.{XorbReference}
use Rattle.xet_offers.specs.Blocks.{PlanBlock, blocks_of, same_block, term_block}
use Rattle.xet_blocks.specs.steps.Planning.{HasChunks, HasRanges, IsUnfinished, PlacedTerm, finished, numbered_block, own_references, plan_block, unsorted_block, unsorted_blocks, with_references}
use Rattle.xet_blocks.proofs.PlacedTerms.{placed_term}
use Rattle.xet_blocks.specs.TermBlocks.{by_start, reference_of, with_reference, xorb_block, xorb_blocks}
use Rattle.xet_offers.specs.Chain.{last_end}
use Rattle.xet_offers.specs.PlanChecks.{unordered}
use Rattle.xet_base.specs.Ranges.{Ascend}
use Rattle.xet_outside.specs.declared.plan.FetchRange.{FetchRange}
use Rattle.xet_offers.proofs.CallerLemmas.{eq-same_block, same_block-chain, same_block-true}

-- ---- a stable sort by the starts

abbrev pub start : XorbReference → ℕ
start r = r.term_chunks.start

abbrev same_start : XorbReference → XorbReference → Bool
same_start = ties (λ x y. is_lt (nat_cmp (start x) (start y)))

ties_at : (m n : ℕ) → (ties (λ x y. is_lt (nat_cmp x y)) m n ≡ true → m ≡ n) × (m ≡ n → ties (λ x y. is_lt (nat_cmp x y)) m n ≡ true)
ties_at m n = (λ h. grind (arith, nat_tests), λ h. grind (arith, nat_tests))

same_start-true : (x y : XorbReference) → same_start x y ≡ true → start x ≡ start y
same_start-true x y = (ties_at (start x) (start y)).0

same_start_from : (x y : XorbReference) → start x ≡ start y → same_start x y ≡ true
same_start_from x y = (ties_at (start x) (start y)).1

filter-kept : {A : Type 0} (p : A → Bool) (y : A) (ys : List A) → p y ≡ true → filter p (y ∷ ys) ≡ y ∷ filter p ys
filter-kept p y ys h = cond-true _ _ _ h

filter-dropped : {A : Type 0} (p : A → Bool) (y : A) (ys : List A) → p y ≡ false → filter p (y ∷ ys) ≡ filter p ys
filter-dropped p y ys h = cond-false _ _ _ h

-- each of them starts at a number or after it
abbrev AllFrom : ℕ → List XorbReference → Type 0
AllFrom n [] = Unit {0}
AllFrom n (y ∷ ys) = (n ≤ start y) × AllFrom n ys

abbrev Rises : List XorbReference → Type 0
Rises [] = Unit {0}
Rises (y ∷ ys) = AllFrom (start y) ys × Rises ys

from_less : (n m : ℕ) (ys : List XorbReference) → n ≤ m → AllFrom m ys → AllFrom n ys
from_less n m [] le h = tt
from_less n m (y ∷ ys) le h = let first = h.0 in (omega arith, from_less n m ys le h.1)

from_at : (n : ℕ) (ys : List XorbReference) (d : XorbReference) → ((j : ℕ) → j < length ys → n ≤ start (get_or ys j d)) → AllFrom n ys
from_at n [] d h = tt
from_at n (y ∷ ys) d h = (h zero (suc-le-suc zero-le), from_at n ys d (λ j lt. h (suc j) (suc-le-suc lt)))

rises_of : (ys : List XorbReference) → IsNonDecreasingBy start ys → Rises ys
rises_of [] h = tt
rises_of (y ∷ ys) h = (
  from_at (start y) ys y (λ j lt. h zero (suc j) y zero-le (suc-le-suc lt)),
  rises_of ys (λ i j d le lt. h (suc i) (suc j) d (suc-le-suc le) (suc-le-suc lt)),
)

-- one more reference at its place
from_with : (n : ℕ) (r : XorbReference) (ys : List XorbReference) → n ≤ start r → AllFrom n ys → AllFrom n (with_reference r ys)
from_with n r [] le h = (le, tt)
from_with n r (y ∷ ys) le h = go (leb (start r) (start y)) (from_with n r ys le h.1)
  where
    go : (b : Bool) → AllFrom n (with_reference r ys) → AllFrom n (cond b (r ∷ y ∷ ys) (y ∷ with_reference r ys))
    go true next = (le, h)
    go false next = (h.0, next)

rises_with : (r : XorbReference) (ys : List XorbReference) → Rises ys → Rises (with_reference r ys)
rises_with r [] h = (tt, tt)
rises_with r (y ∷ ys) h = go (leb (start r) (start y)) refl (rises_with r ys h.1)
  where
    go : (b : Bool) → leb (start r) (start y) ≡ b → Rises (with_reference r ys) → Rises (cond b (r ∷ y ∷ ys) (y ∷ with_reference r ys))
    go true e next = let le = leb-true (start r) (start y) e in ((le, from_less (start r) (start y) ys le h.0), h)
    go false e next = let lt = leb-false (start r) (start y) e in (from_with (start y) r ys (omega arith) h.0, next)

rises_by_start : (rs : List XorbReference) → Rises (by_start rs)
rises_by_start [] = tt
rises_by_start (r ∷ rs) = rises_with r (by_start rs) (rises_by_start rs)

filter-with : (x r : XorbReference) (ys : List XorbReference) → filter (same_start x) (with_reference r ys) ≡ filter (same_start x) (r ∷ ys)
filter-with x r [] = refl
filter-with x r (y ∷ ys) = go (leb (start r) (start y)) refl (filter-with x r ys)
  where
    p : XorbReference → Bool
    p = same_start x

    go : (b : Bool) → leb (start r) (start y) ≡ b → filter p (with_reference r ys) ≡ filter p (r ∷ ys) → filter p (cond b (r ∷ y ∷ ys) (y ∷ with_reference r ys)) ≡ filter p (r ∷ y ∷ ys)
    go true e next = refl
    go false e next =
        let lt = leb-false (start r) (start y) e in
        elim (cases_Bool (p y)) [
          | inr without ↦
              filter-dropped p y (with_reference r ys) without ∙ next
              ∙ ap (λ l. cond (p r) (r ∷ l) l) (sym (filter-dropped p y ys without))
          | inl with ↦
              elim (cases_Bool (p r)) [
                | inl both ↦ absurd (omega (arith, same_start-true x r both, same_start-true x y with))
                | inr only ↦
                    filter-kept p y (with_reference r ys) with ∙ ap (λ l. y ∷ l) (next ∙ filter-dropped p r ys only)
                    ∙ sym (filter-dropped p r (y ∷ ys) only ∙ filter-kept p y ys with)
              ]
        ]

-- fewer than two references stand by their starts
pub few_by_start : (rs : List XorbReference) → length rs < 2 → rs ≡ by_start rs
few_by_start [] h = refl
few_by_start (r ∷ []) h = refl
few_by_start (r ∷ s ∷ rs) h = absurd (omega (arith, h))

filter-by_start : (x : XorbReference) (rs : List XorbReference) → filter (same_start x) (by_start rs) ≡ filter (same_start x) rs
filter-by_start x [] = refl
filter-by_start x (r ∷ rs) = filter-with x r (by_start rs) ∙ ap (λ l. cond (same_start x r) (r ∷ l) l) (filter-by_start x rs)

-- one that starts with x is among them
from_found : (n : ℕ) (x : XorbReference) (ys : List XorbReference) (w : XorbReference) (ws : List XorbReference) → AllFrom n ys → filter (same_start x) ys ≡ w ∷ ws → n ≤ start x
from_found n x [] w ws h e = cc
from_found n x (y ∷ ys) w ws h e =
    elim (cases_Bool (same_start x y)) [
      | inl with ↦ omega (arith, h.0, same_start-true x y with)
      | inr without ↦ from_found n x ys w ws h.1 (sym (filter-dropped (same_start x) y ys without) ∙ e)
    ]

-- lists that rise and have the same at each start are equal
same_by_starts : (ys zs : List XorbReference) → Rises ys → Rises zs → ((x : XorbReference) → filter (same_start x) ys ≡ filter (same_start x) zs) → ys ≡ zs
same_by_starts [] [] left right same = refl
same_by_starts [] (z ∷ zs) left right same =
    let clash = same z ∙ filter-kept (same_start z) z zs (same_start_from z z refl) in cc
same_by_starts (y ∷ ys) [] left right same =
    let clash = sym (same y) ∙ filter-kept (same_start y) y ys (same_start_from y y refl) in cc
same_by_starts (y ∷ ys) (z ∷ zs) left right same =
    let at_y = filter-kept (same_start y) y ys (same_start_from y y refl) in
    let at_z = filter-kept (same_start z) z zs (same_start_from z z refl) in
    let up = from_found (start z) y (z ∷ zs) y _ (omega arith, right.0) (sym (same y) ∙ at_y) in
    let down = from_found (start y) z (y ∷ ys) z _ (omega arith, left.0) (same z ∙ at_z) in
    let heads = sym at_y ∙ same y ∙ filter-kept (same_start y) z zs (same_start_from y z (omega arith)) in
    let head : y ≡ z = cc in
    let tails : (x : XorbReference) → filter (same_start x) ys ≡ filter (same_start x) zs =
    λ x. elim (cases_Bool (same_start x y)) [
      | inl with ↦
          let both = sym (filter-kept (same_start x) y ys with) ∙ same x ∙ filter-kept (same_start x) z zs (ap (same_start x) (sym head) ∙ with) in cc
      | inr without ↦
          sym (filter-dropped (same_start x) y ys without) ∙ same x ∙ filter-dropped (same_start x) z zs (ap (same_start x) (sym head) ∙ without)
    ] in
    ap (λ w. w ∷ ys) head ∙ ap (λ l. z ∷ l) (same_by_starts ys zs left.1 right.1 tails)

pub by_start-from_sort : (xs ys : List XorbReference) → IsNonDecreasingBy start ys → IsStableByKey start nat_cmp xs ys → ys ≡ by_start xs
by_start-from_sort xs ys sorted stable =
    same_by_starts ys (by_start xs) (rises_of ys sorted) (rises_by_start xs) (λ x. stable x ∙ sym (filter-by_start x xs))

-- ---- the lists of each block's terms

own_more : (ts : List PlacedTerm) (t : PlacedTerm) (k : ℕ) → own_references (ts ++ t ∷ []) k ≡ own_references ts k ++ cond (eqb t.block k) (reference_of t.term ∷ []) []
own_more ts t k =
    let p : PlacedTerm → Bool = λ t. eqb t.block k in
    let ref : PlacedTerm → XorbReference = λ t. reference_of t.term in
    ap (map ref) (filter-append p ts (t ∷ [])) ∙ map-append ref (filter p ts) (filter p (t ∷ [])) ∙ ap (λ l. own_references ts k ++ l) (go (eqb t.block k))
  where
    go : (b : Bool) → map (λ (t : PlacedTerm). reference_of t.term) (cond b (t ∷ []) []) ≡ cond b (reference_of t.term ∷ []) []
    go true = refl
    go false = refl

-- the references of a term's number have one more, and those of the other numbers stay
own_here : (ts : List PlacedTerm) (t : PlacedTerm) (k : ℕ) → t.block ≡ k → own_references (ts ++ t ∷ []) k ≡ own_references ts k ++ reference_of t.term ∷ []
own_here ts t k e = own_more ts t k ∙ ap (λ b. own_references ts k ++ cond b (reference_of t.term ∷ []) []) (eq-eqb t.block k e)

own_elsewhere : (ts : List PlacedTerm) (t : PlacedTerm) (k : ℕ) → t.block ≢ k → own_references (ts ++ t ∷ []) k ≡ own_references ts k
own_elsewhere ts t k ne = own_more ts t k ∙ go (eqb t.block k) refl
  where
    go : (b : Bool) → eqb t.block k ≡ b → own_references ts k ++ cond b (reference_of t.term ∷ []) [] ≡ own_references ts k
    go true e = absurd (ne (eqb-true t.block k e))
    go false e = append-nil (own_references ts k)

-- a block with these references
abbrev holding : List XorbReference → XorbBlock → XorbBlock
holding rs b = record b { references = rs }

-- blocks past a term's number stay
unsorted_rest : (ts : List PlacedTerm) (t : PlacedTerm) (n : ℕ) (bs : List PlanBlock) → t.block < n → map (unsorted_block ts) (enumerate_from n bs) ≡ map (unsorted_block (ts ++ t ∷ [])) (enumerate_from n bs)
unsorted_rest ts t n [] low = refl
unsorted_rest ts t n (b ∷ bs) low =
    let here = sym (own_elsewhere ts t n (λ e. absurd (omega (arith, low, e)))) in
    let next = unsorted_rest ts t (n + 1) bs (omega (arith, low)) in
    λ i. holding (here i) (unsorted_block ts (n, b)) ∷ next i

-- the block of a term's number is given its reference
unsorted_set : (ts : List PlacedTerm) (t : PlacedTerm) (n k : ℕ) (bs : List PlanBlock) (d : XorbBlock) → t.block ≡ n + k → k < length bs
    → set (map (unsorted_block ts) (enumerate_from n bs)) k (holding ((get_or (map (unsorted_block ts) (enumerate_from n bs)) k d).references ++ reference_of t.term ∷ []) (get_or (map (unsorted_block ts) (enumerate_from n bs)) k d))
    ≡ map (unsorted_block (ts ++ t ∷ [])) (enumerate_from n bs)
unsorted_set ts t n k [] d e l = absurd (omega (arith, l))
unsorted_set ts t n zero (b ∷ bs) d e l =
    let here = sym (own_here ts t n (omega (arith, e))) in
    let next = unsorted_rest ts t (n + 1) bs (omega (arith, e)) in
    λ i. holding (here i) (unsorted_block ts (n, b)) ∷ next i
unsorted_set ts t n (suc k) (b ∷ bs) d e l =
    let here = sym (own_elsewhere ts t n (λ f. absurd (omega (arith, e, f)))) in
    let next = unsorted_set ts t (n + 1) k bs d (omega (arith, e)) (omega (arith, l)) in
    λ i. holding (here i) (unsorted_block ts (n, b)) ∷ next i

-- the list of the blocks with one more term
pub unsorted_more : (ts ts' : List PlacedTerm) (t : PlacedTerm) (bs : List OfferedBlock) (ms : List XorbBlock) (d : XorbBlock) (rs : List XorbReference) → ms ≡ unsorted_blocks ts bs → ts' ≡ ts ++ t ∷ []
    → t.block < length bs → rs ≡ (get_or ms t.block d).references ++ reference_of t.term ∷ [] → set ms t.block (holding rs (get_or ms t.block d)) ≡ unsorted_blocks ts' bs
unsorted_more ts ts' t bs ms d rs e more low own =
    (λ i. set ms t.block (holding (own i) (get_or ms t.block d)))
    ∙ ap (λ (l : List XorbBlock). set l t.block (holding ((get_or l t.block d).references ++ reference_of t.term ∷ []) (get_or l t.block d))) e
    ∙ unsorted_set ts t 0 t.block (map plan_block bs) d (omega arith) (omega (arith, low, length-map bs plan_block))
    ∙ ap (λ (l : List PlacedTerm). unsorted_blocks l bs) (sym more)

-- as many as the blocks are
pub unsorted_count : (ts : List PlacedTerm) (bs : List OfferedBlock) → length (unsorted_blocks ts bs) ≡ length bs
unsorted_count ts bs = count 0 (map plan_block bs) ∙ length-map bs plan_block
  where
    count : (n : ℕ) (xs : List PlanBlock) → length (map (unsorted_block ts) (enumerate_from n xs)) ≡ length xs
    count n [] = refl
    count n (x ∷ xs) = ap suc (count (n + 1) xs)

-- ---- the end of the blocks

-- lists that are the same from a place on: what is at it, and what is after it
same_from : {A : Type 0} (xs ys : List A) (i : ℕ) (d : A) → length ys ≡ length xs → i < length ys → drop i ys ≡ drop i xs → (get_or ys i d ≡ get_or xs i d) × (drop (i + 1) ys ≡ drop (i + 1) xs)
same_from xs ys i d count within h =
    let low : i < length xs = omega (arith, count, within) in
    let both : get_or ys i d ∷ drop (i + 1) ys ≡ get_or xs i d ∷ drop (i + 1) xs = sym (drop_more ys i d within) ∙ h ∙ drop_more xs i d low in (cc, cc)

pub kept_at : {A : Type 0} (xs ys : List A) (i : ℕ) (d : A) → length ys ≡ length xs → i < length ys → drop i ys ≡ drop i xs → get_or ys i d ≡ get_or xs i d
kept_at xs ys i d count within h = (same_from xs ys i d count within h).0

-- a list of which the front is changed by f and the rest is as it was, one step on
pub mapped_step : {A : Type 0} (f : A → A) (xs ys : List A) (i : ℕ) (d y : A) → length ys ≡ length xs → i < length ys → (take i ys ≡ map f (take i xs)) × (drop i ys ≡ drop i xs) → y ≡ f (get_or ys i d)
    → (take (i + 1) (set ys i y) ≡ map f (take (i + 1) xs)) × (drop (i + 1) (set ys i y) ≡ drop (i + 1) xs)
mapped_step {A} f xs ys i d y count within h is =
    let low : i < length xs = omega (arith, count, within) in
    let below : i < i + 1 = omega arith in
    let same = same_from xs ys i d count within h.1 in (
      take_more_set ys i y within ∙ ap (λ (zs : List A). zs ++ y ∷ []) h.0 ∙ ap (λ (z : A). map f (take i xs) ++ z ∷ []) (is ∙ ap f same.0) ∙ sym (map_more f xs i d low),
      drop-set-lt (i + 1) ys i y below ∙ same.1,
    )

-- the blocks that are finished are those with their references by their starts and their sizes
pub finished_blocks : (ts : List PlacedTerm) (bs : List (ℕ × PlanBlock)) → map finished (map (unsorted_block ts) bs) ≡ map (numbered_block ts) bs
finished_blocks ts [] = refl
finished_blocks ts (b ∷ bs) = ap (λ l. numbered_block ts b ∷ l) (finished_blocks ts bs)

-- ---- the number of a block

module _ {A : Type 0} (same : A → A → Bool) (turned : (x y : A) → same x y ≡ true → same y x ≡ true) (chain : (x y z : A) → same x y ≡ true → same y z ≡ true → same x z ≡ true) where
  -- no element is the same as a later one
  abbrev Apart : List A → Type 0
  Apart [] = Unit {0}
  Apart (x ∷ xs) = (list_any (same x) xs ≡ false) × Apart xs

  any_kept : (p q : A → Bool) (xs : List A) → list_any p xs ≡ false → list_any p (filter q xs) ≡ false
  any_kept p q [] h = refl
  any_kept p q (x ∷ xs) h =
      let parts = or_parts (p x) (list_any p xs) h in
      go (q x) parts.0 (any_kept p q xs parts.1)
    where
      go : (b : Bool) → p x ≡ false → list_any p (filter q xs) ≡ false → list_any p (cond b (x ∷ filter q xs) (filter q xs)) ≡ false
      go true e next = ap (λ b. b || list_any p (filter q xs)) e ∙ next
      go false e next = next

  apart_kept : (q : A → Bool) (xs : List A) → Apart xs → Apart (filter q xs)
  apart_kept q [] a = tt
  apart_kept q (x ∷ xs) a = go (q x) (apart_kept q xs a.1)
    where
      go : (b : Bool) → Apart (filter q xs) → Apart (cond b (x ∷ filter q xs) (filter q xs))
      go true next = (any_kept (same x) q xs a.0, next)
      go false next = next

  none_left : (p : A → Bool) (xs : List A) → list_any p (filter (λ x. not (p x)) xs) ≡ false
  none_left p [] = refl
  none_left p (x ∷ xs) = go (p x) refl (none_left p xs)
    where
      go : (b : Bool) → p x ≡ b → list_any p (filter (λ x. not (p x)) xs) ≡ false → list_any p (cond (not b) (x ∷ filter (λ x. not (p x)) xs) (filter (λ x. not (p x)) xs)) ≡ false
      go true e next = next
      go false e next = ap (λ b. b || list_any p (filter (λ x. not (p x)) xs)) e ∙ next

  firsts_apart : (xs : List A) → Apart (firsts same xs)
  firsts_apart [] = tt
  firsts_apart (x ∷ xs) = (none_left (same x) (firsts same xs), apart_kept (λ y. not (same x y)) (firsts same xs) (firsts_apart xs))

  none_same : (p : A → Bool) (xs : List A) (k : ℕ) (d : A) → k < length xs → list_any p xs ≡ false → p (get_or xs k d) ≡ false
  none_same p [] k d l h = absurd (omega arith)
  none_same p (x ∷ xs) zero d l h = (or_parts (p x) (list_any p xs) h).0
  none_same p (x ∷ xs) (suc k) d l h = none_same p xs k d (omega arith) (or_parts (p x) (list_any p xs) h).1

  no_zero : (n : ℕ) → eqb (1 + n) 0 ≡ false
  no_zero n = grind (arith, nat_tests)

  zero_first : (n : ℕ) → eqb 0 (suc n) ≡ false
  zero_first n = grind (arith, nat_tests)

  both_more : (m n : ℕ) → eqb (1 + m) (suc n) ≡ eqb m n
  both_more m n = grind (arith, nat_tests)

  -- the place of an element is that of the one that is the same
  place_at : (fs : List A) (k : ℕ) (d x : A) → Apart fs → k < length fs → eqb (position_or_len (λ y. same y x) fs) k ≡ same (get_or fs k d) x
  place_at [] k d x a l = absurd (omega arith)
  place_at (y ∷ ys) zero d x a l = go (same y x)
    where
      go : (b : Bool) → eqb (cond (not b) (1 + position_or_len (λ y. same y x) ys) 0) 0 ≡ b
      go true = refl
      go false = no_zero (position_or_len (λ y. same y x) ys)
  place_at (y ∷ ys) (suc k) d x a l = go (same y x) refl (place_at ys k d x a.1 (omega arith))
    where
      z : A
      z = get_or ys k d

      other : (b : Bool) → same z x ≡ b → same y x ≡ true → false ≡ b
      other false e h = refl
      other true e h = absurd (false≢true (sym (none_same (same y) ys k d (omega arith) a.0) ∙ chain y x z h (turned z x e)))

      go : (b : Bool) → same y x ≡ b → eqb (position_or_len (λ y. same y x) ys) k ≡ same z x → eqb (cond (not b) (1 + position_or_len (λ y. same y x) ys) 0) (suc k) ≡ same z x
      go true e next = zero_first k ∙ other (same z x) refl e
      go false e next = both_more (position_or_len (λ y. same y x) ys) k ∙ next

  pub place_of_first : (xs : List A) (k : ℕ) (d x : A) → k < length (firsts same xs) → eqb (position_or_len (λ y. same y x) (firsts same xs)) k ≡ same (get_or (firsts same xs) k d) x
  place_of_first xs k d x l = place_at (firsts same xs) k d x (firsts_apart xs) l

block_turned : (a b : PlanBlock) → same_block a b ≡ true → same_block b a ≡ true
block_turned a b h = let e = same_block-true a b h in eq-same_block b a (sym e.0) (sym e.1)

-- the terms with a block's number are those of the block
own_are : (p : Shape) (multi : Bool) (k : ℕ) (d : PlanBlock) → k < length (blocks_of p multi) → (ts : List PlanTerm)
    → own_references (map (placed_term p multi) ts) k ≡ map reference_of (filter (λ t. same_block (get_or (blocks_of p multi) k d) (term_block p multi t)) ts)
own_are p multi k d l [] = refl
own_are p multi k d l (t ∷ ts) =
    let n = position_or_len (λ b. same_block b (term_block p multi t)) (blocks_of p multi) in
    go (same_block (get_or (blocks_of p multi) k d) (term_block p multi t)) (place_of_first same_block block_turned same_block-chain (map (term_block p multi) p.terms) k d (term_block p multi t) l) (own_are p multi k d l ts)
  where
    rest : List PlacedTerm
    rest = filter (λ t. eqb t.block k) (map (placed_term p multi) ts)

    own : List PlanTerm
    own = filter (λ t. same_block (get_or (blocks_of p multi) k d) (term_block p multi t)) ts

    go : (b : Bool) → eqb (placed_term p multi t).block k ≡ b → map (λ t. reference_of t.term) rest ≡ map reference_of own
        → map (λ (t : PlacedTerm). reference_of t.term) (cond (eqb (placed_term p multi t).block k) (placed_term p multi t ∷ rest) rest) ≡ map reference_of (cond b (t ∷ own) own)
    go true e next = ap (λ b. map (λ (t : PlacedTerm). reference_of t.term) (cond b (placed_term p multi t ∷ rest) rest)) e ∙ ap (λ l. reference_of t ∷ l) next
    go false e next = ap (λ b. map (λ (t : PlacedTerm). reference_of t.term) (cond b (placed_term p multi t ∷ rest) rest)) e ∙ next

-- lists that are equal at each number
map_numbered : {A B : Type 0} (f g : ℕ × A → B) (n : ℕ) (xs : List A) (d : A) → ((k : ℕ) → k < length xs → f (n + k, get_or xs k d) ≡ g (n + k, get_or xs k d)) → map f (enumerate_from n xs) ≡ map g (enumerate_from n xs)
map_numbered f g n [] d h = refl
map_numbered {A} f g n (x ∷ xs) d h =
    let z : n + 0 ≡ n = omega arith in
    let here : f (n, x) ≡ g (n, x) = ap (λ (i : ℕ). f (i, x)) (sym z) ∙ h zero (suc-le-suc zero-le) ∙ ap (λ (i : ℕ). g (i, x)) z in
    let next = map_numbered f g (n + 1) xs d (λ k l.
    let m : n + 1 + k ≡ n + suc k = omega arith in
    ap (λ (i : ℕ). f (i, get_or xs k d)) m ∙ h (suc k) (suc-le-suc l) ∙ ap (λ (i : ℕ). g (i, get_or xs k d)) (sym m)) in
    λ i. here i ∷ next i

-- blocks with the references of their numbers are the plan's
pub numbered_blocks : (p : Shape) (multi : Bool) (ts : List PlacedTerm) → ts ≡ map (placed_term p multi) p.terms
    → map (numbered_block ts) (enumerate_from 0 (blocks_of p multi)) ≡ xorb_blocks p multi
numbered_blocks p multi ts e =
    ap (λ (l : List PlacedTerm). map (numbered_block l) (enumerate_from 0 (blocks_of p multi))) e
    ∙ map_numbered (numbered_block (map (placed_term p multi) p.terms)) (xorb_block p multi) 0 (blocks_of p multi) none (λ k l.
    let z : 0 + k ≡ k = omega arith in
    let b = get_or (blocks_of p multi) k none in
    ap (λ (i : ℕ). numbered_block (map (placed_term p multi) p.terms) (i, b)) z
    ∙ ap (λ (rs : List XorbReference). with_references rs (k, b)) (own_are p multi k none l p.terms)
    ∙ ap (λ (i : ℕ). xorb_block p multi (i, b)) (sym z))
  where
    none : PlanBlock
    none = record { xorb = record { 0 = [] }; ranges = [] }

-- the references of a block's terms have chunks
pub own_some : (ts : List PlacedTerm) (n : ℕ) → All (λ t. HasChunks t.term) ts → All (λ r. r.term_chunks.start < r.term_chunks.end) (own_references ts n)
own_some [] n h = λ k d l. absurd (omega arith)
own_some (t ∷ ts) n h = go (eqb t.block n) (All-head (λ (t : PlacedTerm). HasChunks t.term) t ts h) (own_some ts n (All-tail (λ (t : PlacedTerm). HasChunks t.term) t ts h))
  where
    go : (b : Bool) → HasChunks t.term → All (λ r. r.term_chunks.start < r.term_chunks.end) (own_references ts n)
        → All (λ r. r.term_chunks.start < r.term_chunks.end) (map (λ (t : PlacedTerm). reference_of t.term) (cond b (t ∷ filter (λ t. eqb t.block n) ts) (filter (λ t. eqb t.block n) ts)))
    go true some next = All-cons (λ r. r.term_chunks.start < r.term_chunks.end) (reference_of t.term) (own_references ts n) some next
    go false some next = next

-- and stay so where they are sorted
pub all_by_start : (P : XorbReference → Type 0) (rs : List XorbReference) → All P rs → All P (by_start rs)
all_by_start P [] h = h
all_by_start P (r ∷ rs) h = all_with r (by_start rs) (All-head P r rs h) (all_by_start P rs (All-tail P r rs h))
  where
    all_with : (x : XorbReference) (ys : List XorbReference) → P x → All P ys → All P (with_reference x ys)
    all_with x [] p h = All-cons P x [] p h
    all_with x (y ∷ ys) p h = go (leb (start x) (start y)) (all_with x ys p (All-tail P y ys h))
      where
        go : (b : Bool) → All P (with_reference x ys) → All P (cond b (x ∷ y ∷ ys) (y ∷ with_reference x ys))
        go true next = All-cons P x (y ∷ ys) p h
        go false next = All-cons P y (with_reference x ys) (All-head P y ys h) next

-- sorted references rise
pub by_start_rises : (rs : List XorbReference) → IsNonDecreasingBy start (by_start rs)
by_start_rises rs = rises_at (by_start rs) (rises_by_start rs)
  where
    from_all : (n : ℕ) (ys : List XorbReference) → AllFrom n ys → (j : ℕ) (d : XorbReference) → j < length ys → n ≤ start (get_or ys j d)
    from_all n [] h j d l = absurd (omega arith)
    from_all n (y ∷ ys) h zero d l = h.0
    from_all n (y ∷ ys) h (suc j) d l = from_all n ys h.1 j d (omega arith)

    rises_at : (ys : List XorbReference) → Rises ys → IsNonDecreasingBy start ys
    rises_at [] h i j d l m = absurd (omega arith)
    rises_at (y ∷ ys) h zero zero d l m = omega arith
    rises_at (y ∷ ys) h zero (suc j) d l m = from_all (start y) ys h.0 j d (omega arith)
    rises_at (y ∷ ys) h (suc i) zero d l m = absurd (omega arith)
    rises_at (y ∷ ys) h (suc i) (suc j) d l m = rises_at ys h.1 i j d (omega arith) (omega arith)

-- a block's ranges ascend to the last one's end
pub block_ascends : (low : ℕ) (rs : List FetchRange) → unordered low rs ≡ false → Ascend low (last_end (map (λ r. r.chunks) rs)) (map (λ r. r.chunks) rs)
block_ascends low [] h = tt
block_ascends low (r ∷ rs) h =
    let first = or_parts (leb r.chunks.end r.chunks.start) (ltb r.chunks.start low || unordered r.chunks.end rs) h in
    let second = or_parts (ltb r.chunks.start low) (unordered r.chunks.end rs) first.1 in
    let a : r.chunks.start < r.chunks.end = leb-false r.chunks.end r.chunks.start first.0 in
    let m : low ≤ r.chunks.start = ltb-false r.chunks.start low second.0 in
    (m, a, end rs second.1, rest rs second.1 (block_ascends r.chunks.end rs second.1))
  where
    high : (low : ℕ) (s : FetchRange) (rs : List FetchRange) → unordered low (s ∷ rs) ≡ false → low ≤ last_end (map (λ r. r.chunks) (s ∷ rs))
    high low s [] h =
        let first = or_parts (leb s.chunks.end s.chunks.start) (ltb s.chunks.start low || false) h in
        let second = or_parts (ltb s.chunks.start low) false first.1 in
        omega (arith, leb-false s.chunks.end s.chunks.start first.0, ltb-false s.chunks.start low second.0)
    high low s (t ∷ rs) h =
        let first = or_parts (leb s.chunks.end s.chunks.start) (ltb s.chunks.start low || unordered s.chunks.end (t ∷ rs)) h in
        let second = or_parts (ltb s.chunks.start low) (unordered s.chunks.end (t ∷ rs)) first.1 in
        omega (arith, leb-false s.chunks.end s.chunks.start first.0, ltb-false s.chunks.start low second.0, high s.chunks.end t rs second.1)

    end : (ss : List FetchRange) → unordered r.chunks.end ss ≡ false → r.chunks.end ≤ last_end (map (λ r. r.chunks) (r ∷ ss))
    end [] h = omega arith
    end (s ∷ ss) h = high r.chunks.end s ss h

    rest : (ss : List FetchRange) → unordered r.chunks.end ss ≡ false → Ascend r.chunks.end (last_end (map (λ r. r.chunks) ss)) (map (λ r. r.chunks) ss)
        → Ascend r.chunks.end (last_end (map (λ r. r.chunks) (r ∷ ss))) (map (λ r. r.chunks) ss)
    rest [] h a = tt
    rest (s ∷ ss) h a = a

-- the blocks with the references of such terms can be finished
pub all_unfinished : (ts : List PlacedTerm) (n : ℕ) (bs : List OfferedBlock) → All HasRanges bs → All (λ t. HasChunks t.term) ts → All IsUnfinished (map (unsorted_block ts) (enumerate_from n (map plan_block bs)))
all_unfinished ts n [] ascend some = λ k d l. absurd (omega arith)
all_unfinished ts n (b ∷ bs) ascend some =
    All-cons IsUnfinished (unsorted_block ts (n, plan_block b)) (map (unsorted_block ts) (enumerate_from (n + 1) (map plan_block bs)))
    (record { ascend = block_ascends 0 b.ranges.now (All-head HasRanges b bs ascend); some = own_some ts n some })
    (all_unfinished ts (n + 1) bs (All-tail HasRanges b bs ascend) some)
