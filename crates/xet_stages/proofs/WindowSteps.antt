-- A window of the next terms, made term by term.
use Rattle.std.proofs.Common.{◌≡◌, inl, inr, ℕ, zero, suc, ◌+◌, ◌-◌, ◌<◌, ◌≤◌, Bool, true, cond, List, [], ◌∷◌, ◌++◌, length, take, drop, get_or, refl, sym, subst, ◌∙◌, ap, arith, Ok, Option, Some, None, length-append}
use Rattle.std.specs.Prelude.{filter, map, slice_get}
use Rattle.std.specs.List.{AllZip}
use Rattle.std.proofs.lemmas.Bool.{lt-ltb}
use Rattle.std.proofs.lemmas.List.{map-append}
use Rattle.std.proofs.lemmas.List.Elements.{filter-append}
use Rattle.xet_error.specs.declared.error.FileReconstructionError.{FileReconstructionError}
use Rattle.xet_writers.specs.Calls.{closed_by}
use Rattle.xet_writers.specs.Sequential.{Sequential, told_of}
use Rattle.xet_leader.specs.LedTerms.{IsPieceIn, PlanTerm, TermRefused, kept_in, size_in, some_in}
use Rattle.xet_leader.proofs.CallerLemmas.{NextIs, next_is}
use Rattle.xet_stages.specs.Windows.{TermQueued, TermTurn, WindowFails, WindowMade, with_piece, with_pieces}

-- ---- lists

take_less : {A : Type 0} (k m : ℕ) (xs : List A) → k ≤ m → take k (take m xs) ≡ take k xs
take_less zero zero xs h = refl
take_less zero (suc m) [] h = refl
take_less zero (suc m) (x ∷ xs) h = refl
take_less (suc k) zero xs h = absurd (omega (arith, h))
take_less (suc k) (suc m) [] h = refl
take_less (suc k) (suc m) (x ∷ xs) h = ap (λ l. x ∷ l) (take_less k m xs (omega (arith, h)))

-- so many of the first ones
length_front : {A : Type 0} (k m : ℕ) (xs : List A) → k ≤ m → k ≤ length xs → k ≤ length (take m xs)
length_front zero m xs h i = omega arith
length_front (suc k) zero xs h i = absurd (omega (arith, h))
length_front (suc k) (suc m) [] h i = absurd (omega (arith, i))
length_front (suc k) (suc m) (x ∷ xs) h i = let r = length_front k m xs (omega (arith, h)) (omega (arith, i)) in
    omega (arith, r)

-- an element of the first ones is one of all, and there is none past them
get_front : {A : Type 0} (k m : ℕ) (xs : List A) (y : A) → slice_get (take m xs) k ≡ Some y
    → (slice_get xs k ≡ Some y) × (k < m)
get_front k zero xs y h = absurd (cc)
get_front k (suc m) [] y h = absurd (cc)
get_front zero (suc m) (x ∷ xs) y h = (h, omega arith)
get_front (suc k) (suc m) (x ∷ xs) y h = let r = get_front k m xs y h in let n = r.1 in (r.0, omega arith)

get_past : {A : Type 0} (k : ℕ) (xs : List A) (y : A) → drop k xs ≡ [] → slice_get xs k ≡ Some y → ⊥
get_past {A = A} k [] y h e = let z : ◌≡◌ {A = Option A} None (Some y) = e in absurd (cc)
get_past {A = A} zero (x ∷ xs) y h e = let z : ◌≡◌ {A = List A} (x ∷ xs) [] = h in absurd (cc)
get_past (suc k) (x ∷ xs) y h e = get_past k xs y h e

zip_more : {A B : Type 0} (P : A → B → Type 0) (xs : List A) (ys : List B) (us : List A) (vs : List B)
    → AllZip P xs ys → AllZip P us vs → AllZip P (xs ++ us) (ys ++ vs)
zip_more P [] [] us vs z w = w
zip_more P [] (y ∷ ys) us vs z w = absurd z
zip_more P (x ∷ xs) [] us vs z w = absurd z
zip_more P (x ∷ xs) (y ∷ ys) us vs z w = (z.0, zip_more P xs ys us vs z.1 w)

get_into : {A : Type 0} (k m : ℕ) (xs : List A) (y : A) → slice_get xs k ≡ Some y → k < m
    → slice_get (take m xs) k ≡ Some y
get_into k zero xs y e h = absurd (omega (arith, h))
get_into k (suc m) [] y e h = e
get_into zero (suc m) (x ∷ xs) y e h = e
get_into (suc k) (suc m) (x ∷ xs) y e h = get_into k m xs y e (omega (arith, h))

-- ---- one term

-- one whose bytes were given
pub one_queued : {S : Type 0} (t : PlanTerm) (v w : Sequential S) (p : List ℕ) → 0 < size_in t → IsPieceIn t p
    → (closed_by (told_of v) ≡ None → w ≡ with_piece v p) → TermQueued t v w
one_queued t v w p h i q =
    let e : some_in t ≡ true = lt-ltb 0 (size_in t) h in
    let f : filter some_in (t ∷ []) ≡ t ∷ [] = ap (λ (b : Bool). cond b (t ∷ []) []) e in
    record {
      pieces = p ∷ [];
      each = subst (λ (l : List PlanTerm). AllZip IsPieceIn l (p ∷ [])) (sym f) (i, tt);
      writer = q;
    }

-- one that has bytes, whose block keeps nothing
pub none_given : {S : Type 0} (t : PlanTerm) (v : Sequential S) → 0 < size_in t → kept_in t ≡ None
    → TermTurn t v v (Ok None)
none_given t v h none = (lt-ltb 0 (size_in t) h, none, refl)

-- ---- writers

-- more pieces close no writer
pub closed_same : {S : Type 0} (v : Sequential S) (ps : List (List ℕ))
    → closed_by (told_of (with_pieces v ps)) ≡ closed_by (told_of v)
closed_same v [] = refl
closed_same v (p ∷ ps) = closed_same (with_piece v p) ps

pieces_join : {S : Type 0} (v : Sequential S) (ps qs : List (List ℕ))
    → with_pieces (with_pieces v ps) qs ≡ with_pieces v (ps ++ qs)
pieces_join v [] qs = refl
pieces_join v (p ∷ ps) qs = pieces_join (with_piece v p) ps qs

-- ---- so far

-- so many of the terms were given, and these are left
pub record WindowSo {S : Type 0} (all : List PlanTerm) (most : ℕ) (v w : Sequential S) (lengths : List ℕ)
    (rest : List PlanTerm) : Type 0 where
  pub rest_is : drop (length lengths) all ≡ rest
  pub within : length lengths ≤ length all
  pub below : length lengths ≤ most
  pub lengths_are : lengths ≡ map size_in (take (length lengths) all)
  pub pieces : List (List ℕ)
  pub each : AllZip IsPieceIn (filter some_in (take (length lengths) all)) pieces
  pub writer : closed_by (told_of v) ≡ None → w ≡ with_pieces v pieces

now_closed : {S : Type 0} (v w : Sequential S) (ps : List (List ℕ)) → w ≡ with_pieces v ps
    → closed_by (told_of v) ≡ None → closed_by (told_of w) ≡ None
now_closed v w ps e o = ap (λ x. closed_by (told_of x)) e ∙ closed_same v ps ∙ o

pub so_more : {S : Type 0} (all : List PlanTerm) (most : ℕ) (v w u : Sequential S) (lengths more : List ℕ)
    (t : PlanTerm) (rest : List PlanTerm) → WindowSo all most v w lengths (t ∷ rest) → length lengths < most
    → TermQueued t w u → more ≡ lengths ++ size_in t ∷ [] → WindowSo all most v u more rest
so_more all most v w u lengths more t rest s h q m =
    let k = length lengths in
    let n : length more ≡ k + 1 = ap length m ∙ length-append lengths (size_in t ∷ []) in
    let x = next_is k all t rest s.rest_is in
    let within = x.within in
    let front : take (length more) all ≡ take k all ++ t ∷ [] = ap (λ (j : ℕ). take j all) n ∙ x.front in
    let some : filter some_in (take (length more) all) ≡ filter some_in (take k all) ++ filter some_in (t ∷ []) =
    ap (λ (l : List PlanTerm). filter some_in l) front ∙ filter-append some_in (take k all) (t ∷ []) in
    record {
      rest_is = ap (λ (j : ℕ). drop j all) n ∙ x.back;
      within = omega (arith, n, within);
      below = omega (arith, n, h);
      lengths_are = m ∙ ap (λ (l : List ℕ). l ++ size_in t ∷ []) s.lengths_are
          ∙ sym (map-append size_in (take k all) (t ∷ [])) ∙ sym (ap (λ (l : List PlanTerm). map size_in l) front);
      pieces = s.pieces ++ q.pieces;
      each = subst (λ (l : List PlanTerm). AllZip IsPieceIn l (s.pieces ++ q.pieces)) (sym some)
          (zip_more IsPieceIn (filter some_in (take k all)) s.pieces
          (filter some_in (t ∷ [])) q.pieces s.each q.each);
      writer = λ o. q.writer (now_closed v w s.pieces (s.writer o) o) ∙ ap (λ y. with_pieces y q.pieces) (s.writer o)
          ∙ pieces_join v s.pieces q.pieces;
    }

-- ---- the end

so_made : {S : Type 0} (all : List PlanTerm) (most : ℕ) (v w : Sequential S) (lengths : List ℕ) (rest : List PlanTerm)
    → WindowSo all most v w lengths rest → ((t : PlanTerm) → slice_get (take most all) (length lengths) ≡ Some t
    → (some_in t ≡ true) × (kept_in t ≡ None)) → WindowMade (take most all) v w lengths
so_made all most v w lengths rest s stops =
    let k = length lengths in
    let same = take_less k most all s.below in
    record {
      within = length_front k most all s.below s.within;
      lengths_are = s.lengths_are ∙ sym (ap (λ (l : List PlanTerm). map size_in l) same);
      pieces = s.pieces;
      each = subst (λ (l : List PlanTerm). AllZip IsPieceIn (filter some_in l) s.pieces) (sym same) s.each;
      stops = stops;
      writer = s.writer;
    }

-- so many were given
pub so_full : {S : Type 0} (all : List PlanTerm) (most : ℕ) (v w : Sequential S) (lengths : List ℕ)
    (rest : List PlanTerm) → WindowSo all most v w lengths rest → most ≤ length lengths
    → WindowMade (take most all) v w lengths
so_full all most v w lengths rest s h = so_made all most v w lengths rest s
    (λ t e. let r = get_front (length lengths) most all t e in let n = r.1 in absurd (omega (arith, n, h)))

-- there are no more
pub so_end : {S : Type 0} (all : List PlanTerm) (most : ℕ) (v w : Sequential S) (lengths : List ℕ)
    → WindowSo all most v w lengths [] → WindowMade (take most all) v w lengths
so_end all most v w lengths s = so_made all most v w lengths [] s
    (λ t e. absurd (get_past (length lengths) all t s.rest_is (get_front (length lengths) most all t e).0))

-- the next one waits for its block
pub so_stop : {S : Type 0} (all : List PlanTerm) (most : ℕ) (v w u : Sequential S) (lengths : List ℕ) (t : PlanTerm)
    (rest : List PlanTerm) → WindowSo all most v w lengths (t ∷ rest)
    → (some_in t ≡ true) × (kept_in t ≡ None) × (u ≡ w) → WindowMade (take most all) v u lengths
so_stop all most v w u lengths t rest s q =
    subst (λ x. WindowMade (take most all) v x lengths) (sym q.2) (so_made all most v w lengths (t ∷ rest) s
    (λ y e.
    let x = next_is (length lengths) all t rest s.rest_is in
    let same : ◌≡◌ {A = Option PlanTerm} (Some t) (Some y) =
    sym x.there ∙ (get_front (length lengths) most all y e).0 in
    let is : t ≡ y = cc in
    (ap some_in (sym is) ∙ q.0, ap kept_in (sym is) ∙ q.1)))

fails_at : (ts : List PlanTerm) (k : ℕ) (t : PlanTerm) (e : FileReconstructionError) → slice_get ts k ≡ Some t
    → TermRefused t e → WindowFails ts e
fails_at ts k t e there (inl m) = inl m
fails_at ts k t e there (inr m) = inr (m.0, m.1, record { place = k; term = t; there = there; fails = m.2 })

-- a writer that holds more pieces has its sink
sink_same : {S : Type 0} (v : Sequential S) (ps : List (List ℕ)) → (with_pieces v ps).sink ≡ v.sink
sink_same v [] = refl
sink_same v (p ∷ ps) = sink_same (with_piece v p) ps

sink_is : {S : Type 0} (v w : Sequential S) (ps : List (List ℕ)) → w ≡ with_pieces v ps → w.sink ≡ v.sink
sink_is {S = S} v w ps e = ap (λ (y : Sequential S). y.sink) e ∙ sink_same v ps

-- it fails a test
pub so_err : {S : Type 0} (all : List PlanTerm) (most : ℕ) (v w u : Sequential S) (lengths : List ℕ) (t : PlanTerm)
    (rest : List PlanTerm) (e : FileReconstructionError) → WindowSo all most v w lengths (t ∷ rest)
    → length lengths < most → (closed_by (told_of w) ≡ None → TermRefused t e × (u ≡ w))
    → closed_by (told_of v) ≡ None → WindowFails (take most all) e × (u.sink ≡ v.sink)
so_err {S = S} all most v w u lengths t rest e s h q o =
    let x = next_is (length lengths) all t rest s.rest_is in
    let r = q (now_closed v w s.pieces (s.writer o) o) in (
      fails_at (take most all) (length lengths) t e (get_into (length lengths) most all t x.there h) r.0,
      ap (λ (y : Sequential S). y.sink) r.1 ∙ sink_is v w s.pieces (s.writer o),
    )

-- its length finds no memory
pub so_short : {S : Type 0} (all : List PlanTerm) (most : ℕ) (v w u : Sequential S) (lengths : List ℕ) (t : PlanTerm)
    (rest : List PlanTerm) → WindowSo all most v w lengths rest → TermQueued t w u → closed_by (told_of v) ≡ None
    → u.sink ≡ v.sink
so_short all most v w u lengths t rest s q o = sink_is w u q.pieces
    (q.writer (now_closed v w s.pieces (s.writer o) o)) ∙ sink_is v w s.pieces (s.writer o)
