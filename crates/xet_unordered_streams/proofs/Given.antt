-- The places that were given.
use Rattle.std.proofs.Common.{◌≡◌, ◌⊎◌, ⊎_elim, inl, inr, ℕ, zero, suc, ◌+◌, ◌≤◌, ◌<◌, ◌==◌, ◌||◌, Bool, true, false, cond, List, [], ◌∷◌, ◌++◌, length, take, refl, sym, subst, ◌∙◌, ap, arith, length-append, Some}
use Rattle.std.specs.Prelude.{All, count_by, filter, slice_get}
use Rattle.std.specs.List.{list_any, sum_by}
use Rattle.std.proofs.lemmas.Bool.{cases_lt, eq-eqb, eqb-true, ltb-true}
use Rattle.std.proofs.lemmas.List.{append-nil, take-append-le}
use Rattle.std.proofs.lemmas.List.Elements.{All-append, All-cons, All-head, All-nil, All-tail}
use Rattle.std.proofs.lemmas.List.Sums.{sum_by-cons}
use Rattle.std.proofs.lemmas.Option.{slice_get_within}
use Rattle.xet_base.specs.declared.cas_types.FileRange.{FileRange}
use Rattle.xet_events.specs.declared.event.Event.{Event}
use Rattle.xet_events.specs.declared.event.Event.TheVariants.{Wrote}
use Rattle.xet_events.specs.Allowed.{IsAllowedHistory}
use Rattle.xet_events.specs.Events.{Task, admitted, is_admit, is_kept, keeps, planned, size, tasks_in}
use Rattle.std.proofs.lemmas.Grind.{flat_map-append}
use Rattle.xet_ties.specs.Saids.{has_bytes, some_of}
use Rattle.xet_ties.specs.Ties.{FirstStarts}
use Rattle.xet_stream_rules.specs.Streams.{delivered, is_wrote, next_term}
use Rattle.xet_stream_rules.specs.Unordered.{IsIn, offset_of}
use Rattle.xet_stream_rules.proofs.CallerLemmas.{count_by-append, some-append, starts_at, take_one}
use Rattle.xet_unordered_streams.specs.Placing.{AreGiven, IsGiven, WasGiven}

-- ---- lists

pub get_left : {A : Type 0} (xs ys : List A) (i : ℕ) (x : A) → slice_get xs i ≡ Some x
    → slice_get (xs ++ ys) i ≡ Some x
get_left [] ys i x h = absurd (cc)
get_left (z ∷ xs) ys zero x h = h
get_left (z ∷ xs) ys (suc i) x h = get_left xs ys i x h

-- an earlier element is counted in the sum
sum_earlier : (xs : List Task) (i k : ℕ) (t : Task) → i < k → slice_get xs i ≡ Some t
    → sum_by size (take i xs) + size t ≤ sum_by size (take k xs)
sum_earlier [] i k t h at = absurd (cc)
sum_earlier (x ∷ xs) i zero t h at = absurd (omega (arith, h))
sum_earlier (x ∷ xs) zero (suc k) t h at =
    let is : x ≡ t = cc in
    let same = ap size is in
    let sum = sum_by-cons size x (take k xs) in
    let none : sum_by size (take 0 (x ∷ xs)) ≡ 0 = refl in
    omega (arith, same, sum, none)
sum_earlier (x ∷ xs) (suc i) (suc k) t h at =
    let rest = sum_earlier xs i k t (omega (arith, h)) at in
    let one = sum_by-cons size x (take i xs) in
    let two = sum_by-cons size x (take k xs) in
    omega (arith, rest, one, two)

pub filtered : {A : Type 0} (p : A → Bool) (xs : List A) (i : ℕ) (t : A) → slice_get (filter p xs) i ≡ Some t
    → p t ≡ true
filtered p [] i t h = absurd (cc)
filtered {A} p (x ∷ xs) i t h = by (filtered p xs) (p x) refl i h
  where
    by : ((j : ℕ) (u : A) → slice_get (filter p xs) j ≡ Some u → p u ≡ true) → (v : Bool) → p x ≡ v → (j : ℕ)
        → slice_get (cond v (x ∷ filter p xs) (filter p xs)) j ≡ Some t → p t ≡ true
    by rest true e zero k = let is : x ≡ t = cc in ap p (sym is) ∙ e
    by rest true e (suc j) k = rest j t k
    by rest false e j k = rest j t k

-- where an element stands among those that pass a test
pub record InFilter {A : Type 0} (p : A → Bool) (xs : List A) (i : ℕ) (x : A) : Type 0 where
  pub place : ℕ
  pub at : slice_get (filter p xs) place ≡ Some x
  pub within : (m : ℕ) → i < m → place < length (filter p (take m xs))
  pub past : (m : ℕ) → m ≤ i → length (filter p (take m xs)) ≤ place

pub in_filter : {A : Type 0} (p : A → Bool) (xs : List A) (i : ℕ) (x : A) → slice_get xs i ≡ Some x → p x ≡ true
    → InFilter p xs i x
in_filter p [] i x h t = absurd (cc)
in_filter p (y ∷ xs) zero x h t =
    let e : y ≡ x = cc in
    let yes_it : p y ≡ true = ap p e ∙ t in
    record {
      place = 0;
      at = ap (λ (v : Bool). slice_get (cond v (y ∷ filter p xs) (filter p xs)) 0) yes_it ∙ ap (λ z. Some z) e;
      within = λ m b. first m b yes_it;
      past = none;
    }
  where
    none : (m : ℕ) → m ≤ 0 → length (filter p (take m (y ∷ xs))) ≤ 0
    none zero b = omega arith
    none (suc m) b = absurd (omega (arith, b))

    first : (m : ℕ) → 0 < m → p y ≡ true → 0 < length (filter p (take m (y ∷ xs)))
    first zero b e = absurd (omega (arith, b))
    first (suc m) b e =
        let z = ap (λ (v : Bool). length (cond v (y ∷ filter p (take m xs)) (filter p (take m xs)))) e in
        omega (arith, z)
in_filter p (y ∷ xs) (suc i) x h t = by (in_filter p xs i x h t) (p y) refl
  where
    by : InFilter p xs i x → (v : Bool) → p y ≡ v → InFilter p (y ∷ xs) (suc i) x
    by r true e = record {
      place = suc r.place;
      at = ap (λ (v : Bool). slice_get (cond v (y ∷ filter p xs) (filter p xs)) (suc r.place)) e ∙ r.at;
      within = λ m b. more m b;
      past = λ m b. back m b;
    }
      where
        more : (m : ℕ) → suc i < m → suc r.place < length (filter p (take m (y ∷ xs)))
        more zero b = absurd (omega (arith, b))
        more (suc m) b =
            let z = ap (λ (v : Bool). length (cond v (y ∷ filter p (take m xs)) (filter p (take m xs)))) e in
            let w = r.within m (omega (arith, b)) in
            omega (arith, z, w)

        back : (m : ℕ) → m ≤ suc i → length (filter p (take m (y ∷ xs))) ≤ suc r.place
        back zero b = omega arith
        back (suc m) b =
            let z = ap (λ (v : Bool). length (cond v (y ∷ filter p (take m xs)) (filter p (take m xs)))) e in
            let w = r.past m (omega (arith, b)) in
            omega (arith, z, w)
    by r false e = record {
      place = r.place;
      at = ap (λ (v : Bool). slice_get (cond v (y ∷ filter p xs) (filter p xs)) r.place) e ∙ r.at;
      within = λ m b. more m b;
      past = λ m b. back m b;
    }
      where
        more : (m : ℕ) → suc i < m → r.place < length (filter p (take m (y ∷ xs)))
        more zero b = absurd (omega (arith, b))
        more (suc m) b =
            let z = ap (λ (v : Bool). length (cond v (y ∷ filter p (take m xs)) (filter p (take m xs)))) e in
            let w = r.within m (omega (arith, b)) in
            omega (arith, z, w)

        back : (m : ℕ) → m ≤ suc i → length (filter p (take m (y ∷ xs))) ≤ r.place
        back zero b = omega arith
        back (suc m) b =
            let z = ap (λ (v : Bool). length (cond v (y ∷ filter p (take m xs)) (filter p (take m xs)))) e in
            let w = r.past m (omega (arith, b)) in
            omega (arith, z, w)

-- where one that passes a test comes from
pub record FromFilter {A : Type 0} (xs : List A) (x : A) : Type 0 where
  pub number : ℕ
  pub at : slice_get xs number ≡ Some x

pub from_filter : {A : Type 0} (p : A → Bool) (xs : List A) (i : ℕ) (x : A) → slice_get (filter p xs) i ≡ Some x
    → FromFilter xs x
from_filter p [] i x h = absurd (cc)
from_filter {A} p (y ∷ xs) i x h = by (from_filter p xs) (p y) i h
  where
    by : ((j : ℕ) (u : A) → slice_get (filter p xs) j ≡ Some u → FromFilter xs u) → (v : Bool) → (j : ℕ)
        → slice_get (cond v (y ∷ filter p xs) (filter p xs)) j ≡ Some x → FromFilter (y ∷ xs) x
    by rest true zero k = record { number = 0; at = k }
    by rest true (suc j) k = let f = rest j x k in record { number = suc f.number; at = f.at }
    by rest false j k = let f = rest j x k in record { number = suc f.number; at = f.at }

pub in_left : {A : Type 0} (x : A) (xs ys : List A) → IsIn x xs → IsIn x (xs ++ ys)
in_left x [] ys h = absurd h
in_left x (y ∷ xs) ys (inl e) = inl e
in_left x (y ∷ xs) ys (inr h) = inr (in_left x xs ys h)

pub in_end : {A : Type 0} (xs : List A) (x : A) → IsIn x (xs ++ x ∷ [])
in_end [] x = inl refl
in_end (y ∷ xs) x = inr (in_end xs x)

pub in_append : {A : Type 0} (x : A) (xs ys : List A) → IsIn x (xs ++ ys) → IsIn x xs ⊎ IsIn x ys
in_append x [] ys h = inr h
in_append x (y ∷ xs) ys (inl e) = inl (inl e)
in_append x (y ∷ xs) ys (inr k) =
    ⊎_elim (λ (l : IsIn x xs). inl (inr l)) (λ (l : IsIn x ys). inr l) (in_append x xs ys k)

-- what holds of each holds of each in a weaker form
pub all_weaker : {A : Type 0} (P Q : A → Type 0) (xs : List A) → ((x : A) → P x → Q x) → All P xs → All Q xs
all_weaker P Q [] f a = All-nil Q
all_weaker P Q (x ∷ xs) f a =
    All-cons Q x xs (f x (All-head P x xs a)) (all_weaker P Q xs f (All-tail P x xs a))

any_more : {A : Type 0} (p : A → Bool) (xs ys : List A) → list_any p xs ≡ true → list_any p (xs ++ ys) ≡ true
any_more p [] ys h = absurd (cc)
any_more p (x ∷ xs) ys h = by (p x) (λ k. any_more p xs ys k) h
  where
    by : (v : Bool) → (list_any p xs ≡ true → list_any p (xs ++ ys) ≡ true) → (v || list_any p xs) ≡ true
        → (v || list_any p (xs ++ ys)) ≡ true
    by true rest k = refl
    by false rest k = rest k

filter_take : {A : Type 0} (p : A → Bool) (m n : ℕ) (xs ys : List A) → m ≤ n
    → length (filter p (take m xs)) ≤ length (filter p (take n (xs ++ ys)))
filter_take p zero n xs ys h = omega arith
filter_take p (suc m) zero xs ys h = absurd (omega (arith, h))
filter_take p (suc m) (suc n) [] ys h = omega arith
filter_take p (suc m) (suc n) (x ∷ xs) ys h = by (p x) (filter_take p m n xs ys (omega (arith, h)))
  where
    by : (v : Bool) → length (filter p (take m xs)) ≤ length (filter p (take n (xs ++ ys)))
        → length (cond v (x ∷ filter p (take m xs)) (filter p (take m xs)))
        ≤ length (cond v (x ∷ filter p (take n (xs ++ ys))) (filter p (take n (xs ++ ys))))
    by true k = omega (arith, k)
    by false k = k

-- ---- histories

pub kept_more : (es new : List Event) (p b : ℕ) → is_kept es p b ≡ true → is_kept (es ++ new) p b ≡ true
kept_more es new p b h = any_more (keeps p b) es new h

pub admitted_more : (es new : List Event)
    → length (filter has_bytes (admitted es)) ≤ length (filter has_bytes (admitted (es ++ new)))
admitted_more es new =
    let c = count_by-append is_admit es new in
    let both : planned (es ++ new) ≡ planned es ++ planned new = flat_map-append tasks_in es new in
    let f = filter_take has_bytes (count_by is_admit es) (count_by is_admit (es ++ new)) (planned es) (planned new)
    (omega (arith, c)) in
    subst (λ (ts : List Task). length (filter has_bytes (admitted es))
    ≤ length (filter has_bytes (take (count_by is_admit (es ++ new)) ts))) (sym both) f

pub some_more : (es new : List Event) (i : ℕ) (t : Task) → slice_get (some_of es) i ≡ Some t
    → slice_get (some_of (es ++ new)) i ≡ Some t
some_more es new i t h =
    subst (λ (ts : List Task). slice_get ts i ≡ Some t) (sym (some-append es new))
    (get_left (some_of es) (some_of new) i t h)

pub planned_more : (es new : List Event) (i : ℕ) (t : Task) → slice_get (planned es) i ≡ Some t
    → slice_get (planned (es ++ new)) i ≡ Some t
planned_more es new i t h =
    let both : planned (es ++ new) ≡ planned es ++ planned new = flat_map-append tasks_in es new in
    subst (λ (ts : List Task). slice_get ts i ≡ Some t) (sym both) (get_left (planned es) (planned new) i t h)

pub was_more : (r : FileRange) (es new : List Event) (ds : List ℕ) (n : ℕ) → WasGiven r es ds n
    → WasGiven r (es ++ new) ds n
was_more r es new ds n w = record { term = w.term; at = planned_more es new n w.term w.at; given = w.given }

-- the term of a number is this one
pub was_term : (r : FileRange) (es : List Event) (ds : List ℕ) (n : ℕ) (t : Task) → slice_get (planned es) n ≡ Some t
    → WasGiven r es ds n → IsIn (offset_of r t) ds
was_term r es ds n t at w =
    let same : w.term ≡ t = (let z = sym w.at ∙ at in cc) in
    subst (λ (u : Task). IsIn (offset_of r u) ds) same w.given

-- ---- where terms stand

module _ (r : FileRange) (es : List Event) (allowed : IsAllowedHistory es)
    (starts : FirstStarts r.start (planned es)) where
  pub earlier : (i j : ℕ) (t u : Task) → slice_get (some_of es) i ≡ Some t → slice_get (some_of es) j ≡ Some u → i < j
      → offset_of r t < offset_of r u
  earlier i j t u a b h =
      let one = starts_at r.start es i t allowed starts a in
      let two = starts_at r.start es j u allowed starts b in
      let sum = sum_earlier (some_of es) i j t h a in
      let some = ltb-true 0 (size t) (filtered has_bytes (planned es) i t a) in
      omega (arith, one, two, sum, some)

  -- no two stand at one place
  pub same_place : (i j : ℕ) (t u : Task) → slice_get (some_of es) i ≡ Some t → slice_get (some_of es) j ≡ Some u
      → offset_of r t ≡ offset_of r u → i ≡ j
  same_place i j t u a b e =
      ⊎_elim (λ (h : i < j). absurd (let k = earlier i j t u a b h in omega (arith, k, e)))
      (λ (h : j ≤ i). ⊎_elim (λ (k : j < i). absurd (let m = earlier j i u t b a k in omega (arith, m, e)))
      (λ (k : i ≤ j). omega (arith, h, k)) (cases_lt j i))
      (cases_lt i j)

  -- and those of one place have one number
  pub same_number : (i j : ℕ) (t u : Task) → slice_get (planned es) i ≡ Some t → slice_get (planned es) j ≡ Some u
      → has_bytes t ≡ true → has_bytes u ≡ true → offset_of r t ≡ offset_of r u → i ≡ j
  same_number i j t u a b p q e =
      let f = in_filter has_bytes (planned es) i t a p in
      let g = in_filter has_bytes (planned es) j u b q in
      let s = same_place f.place g.place t u f.at g.at e in
      ⊎_elim (λ (h : i < j). absurd (let w = f.within j h in let k = g.past j (omega arith) in omega (arith, w, k, s)))
      (λ (h : j ≤ i). ⊎_elim
      (λ (k : j < i). absurd (let w = g.within i k in let m = f.past i (omega arith) in omega (arith, w, m, s)))
      (λ (k : i ≤ j). omega (arith, h, k)) (cases_lt j i))
      (cases_lt i j)

-- ---- more events

module _ (r : FileRange) (es new : List Event) (early : ℕ → Bool) (ds : List ℕ) (none : delivered new ≡ 0)
    (h : AreGiven r es early ds) where
  same_count : delivered (es ++ new) ≡ delivered es
  same_count = let d = count_by-append is_wrote es new in omega (arith, d, none)

  pub same_front : take (delivered (es ++ new)) (some_of (es ++ new)) ≡ take (delivered es) (some_of es)
  same_front =
      ap (λ (n : ℕ). take n (some_of (es ++ new))) same_count
      ∙ ap (λ (ts : List Task). take (delivered es) ts) (some-append es new)
      ∙ take-append-le (delivered es) (some_of es) (some_of new) h.few

  -- without a piece
  pub given_more : AreGiven r (es ++ new) early ds
  given_more = record {
    each = λ o i.
        let g = h.each o i in
        record {
          term = g.term;
          number = g.number;
          planned_at = planned_more es new g.number g.term g.planned_at;
          place = g.place;
          at = some_more es new g.place g.term g.at;
          is = g.is;
          late = λ e. let l = g.late e in let s = same_count in omega (arith, l, s);
          kept = λ e. kept_more es new g.term.plan g.term.term.block (g.kept e);
          opens = λ e. let l = g.opens e in let m = admitted_more es new in omega (arith, l, m);
        };
    there = λ n e. was_more r es new ds n (h.there n e);
    passed = subst (λ (ts : List Task). All (λ t. IsIn (offset_of r t) ds) ts) (sym same_front) h.passed;
    few =
        let f = h.few in
        let s = same_count in
        let l = ap length (some-append es new) in
        let m = length-append (some_of es) (some_of new) in
        omega (arith, f, s, l, m);
  }

  -- the next term wasn't given, if it wasn't before
  pub caught_more : IsAllowedHistory (es ++ new) → FirstStarts r.start (planned (es ++ new))
      → ((t : Task) → next_term es ≡ Some t → IsIn (offset_of r t) ds → ⊥)
      → (t : Task) → next_term (es ++ new) ≡ Some t → IsIn (offset_of r t) ds → ⊥
  caught_more allowed starts caught t next i =
      let g = h.each (offset_of r t) i in
      let here : slice_get (some_of (es ++ new)) (delivered es) ≡ Some t =
      ap (λ (n : ℕ). slice_get (some_of (es ++ new)) n) (sym same_count) ∙ next in
      let j : delivered es ≡ g.place =
      same_place r (es ++ new) allowed starts (delivered es) g.place t g.term here
      (some_more es new g.place g.term g.at) g.is in
      let before : next_term es ≡ Some g.term = ap (λ (n : ℕ). slice_get (some_of es) n) j ∙ g.at in
      caught g.term before (subst (λ (o : ℕ). IsIn o ds) g.is i)

-- ---- a term is recorded as written

module _ (r : FileRange) (es : List Event) (early : ℕ → Bool) (ds : List ℕ) (h : AreGiven r es early ds) (t : Task)
    (next : next_term es ≡ Some t) (taken : ℕ) where
  abbrev fs : List Event
  fs = es ++ Wrote taken ∷ []

  some_after : some_of fs ≡ some_of es
  some_after = some-append es (Wrote taken ∷ []) ∙ append-nil (some_of es)

  one_more : delivered fs ≡ delivered es + 1
  one_more =
      let d = count_by-append is_wrote es (Wrote taken ∷ []) in
      let one : count_by is_wrote (Wrote taken ∷ []) ≡ 1 = refl in
      omega (arith, d, one)

  front_after : take (delivered fs) (some_of fs) ≡ take (delivered es) (some_of es) ++ t ∷ []
  front_after =
      ap (λ (n : ℕ). take n (some_of fs)) one_more
      ∙ ap (λ (ts : List Task). take (delivered es + 1) ts) some_after
      ∙ take_one (some_of es) (delivered es) t next

  few_after : delivered fs ≤ length (some_of fs)
  few_after =
      let w = slice_get_within (some_of es) (delivered es) t next in
      let l = ap length some_after in
      let o = one_more in
      omega (arith, w, l, o)

  -- a place that was given before
  given_on : (o : ℕ) → IsGiven r es early o → IsGiven r fs early o
  given_on o g = record {
    term = g.term;
    number = g.number;
    planned_at = planned_more es (Wrote taken ∷ []) g.number g.term g.planned_at;
    place = g.place;
    at = some_more es (Wrote taken ∷ []) g.place g.term g.at;
    is = g.is;
    late = λ e. let l = g.late e in let m = one_more in omega (arith, l, m);
    kept = λ e. kept_more es (Wrote taken ∷ []) g.term.plan g.term.term.block (g.kept e);
    opens = λ e. let l = g.opens e in let m = admitted_more es (Wrote taken ∷ []) in omega (arith, l, m);
  }

  -- it was given before
  pub given_recorded : (k : ℕ) → slice_get (planned es) k ≡ Some t → early k ≡ true → AreGiven r fs early ds
  given_recorded k at was = record {
    each = λ o i. given_on o (h.each o i);
    there = λ n e. was_more r es (Wrote taken ∷ []) ds n (h.there n e);
    passed = subst (λ (ts : List Task). All (λ u. IsIn (offset_of r u) ds) ts) (sym front_after)
        (All-append (λ u. IsIn (offset_of r u) ds) (take (delivered es) (some_of es)) (t ∷ []) h.passed
        (All-cons (λ u. IsIn (offset_of r u) ds) t [] (was_term r es ds k t at (h.there k was))
        (All-nil (λ u. IsIn (offset_of r u) ds))));
    few = few_after;
  }

  -- it is given now
  pub given_next : (IsIn (offset_of r t) ds → ⊥) → AreGiven r fs early (ds ++ offset_of r t ∷ [])
  given_next fresh = record {
    each = λ o i. ⊎_elim (λ (j : IsIn o ds). given_on o (h.each o j))
        (λ (j : IsIn o (offset_of r t ∷ [])). ⊎_elim (λ (e : o ≡ offset_of r t). own o e) (λ (z : ⊥). absurd z) j)
        (in_append o ds (offset_of r t ∷ []) i);
    there = λ n e.
        let w = was_more r es (Wrote taken ∷ []) ds n (h.there n e) in
        record { term = w.term; at = w.at; given = in_left (offset_of r w.term) ds (offset_of r t ∷ []) w.given };
    passed = subst (λ (ts : List Task). All (λ u. IsIn (offset_of r u) (ds ++ offset_of r t ∷ [])) ts) (sym front_after)
        (All-append (λ u. IsIn (offset_of r u) (ds ++ offset_of r t ∷ [])) (take (delivered es) (some_of es)) (t ∷ [])
        (all_weaker (λ u. IsIn (offset_of r u) ds) (λ u. IsIn (offset_of r u) (ds ++ offset_of r t ∷ []))
        (take (delivered es) (some_of es)) (λ u k. in_left (offset_of r u) ds (offset_of r t ∷ []) k) h.passed)
        (All-cons (λ u. IsIn (offset_of r u) (ds ++ offset_of r t ∷ [])) t [] (in_end ds (offset_of r t))
        (All-nil (λ u. IsIn (offset_of r u) (ds ++ offset_of r t ∷ [])))));
    few = few_after;
  }
    where
      from : FromFilter (planned es) t
      from = from_filter has_bytes (planned es) (delivered es) t next

      unearly : early from.number ≡ true → ⊥
      unearly e = fresh (was_term r es ds from.number t from.at (h.there from.number e))

      own : (o : ℕ) → o ≡ offset_of r t → IsGiven r fs early o
      own o e = record {
        term = t;
        number = from.number;
        planned_at = planned_more es (Wrote taken ∷ []) from.number t from.at;
        place = delivered es;
        at = some_more es (Wrote taken ∷ []) (delivered es) t next;
        is = e;
        late = λ f. let m = one_more in omega (arith, m);
        kept = λ f. absurd (unearly f);
        opens = λ f. absurd (unearly f);
      }

-- ---- a due term is given

module _ (r : FileRange) (es : List Event) (early : ℕ → Bool) (ds : List ℕ) (h : AreGiven r es early ds) (t : Task)
    (number place : ℕ) (planned_at : slice_get (planned es) number ≡ Some t) (at : slice_get (some_of es) place ≡ Some t)
    (kept : is_kept es t.plan t.term.block ≡ true) (opens : place < length (filter has_bytes (admitted es)))
    (fresh : IsIn (offset_of r t) ds → ⊥) (later : ℕ → Bool)
    (is : (n : ℕ) → later n ≡ cond (number == n) true (early n)) where
  later_so : (n : ℕ) (v : Bool) → (number == n) ≡ v → later n ≡ cond v true (early n)
  later_so n v e = is n ∙ ap (λ (w : Bool). cond w true (early n)) e

  there_now : (n : ℕ) (v : Bool) → (number == n) ≡ v → later n ≡ true → WasGiven r es (ds ++ offset_of r t ∷ []) n
  there_now n true e f = record {
    term = t;
    at = ap (λ (m : ℕ). slice_get (planned es) m) (sym (eqb-true number n e)) ∙ planned_at;
    given = in_end ds (offset_of r t);
  }
  there_now n false e f =
      let w = h.there n (sym (later_so n false e) ∙ f) in
      record { term = w.term; at = w.at; given = in_left (offset_of r w.term) ds (offset_of r t ∷ []) w.given }

  unlate : (n : ℕ) (v : Bool) → (number == n) ≡ v → later n ≡ false → early n ≡ false
  unlate n true e f = absurd (let z : true ≡ false = sym (later_so n true e) ∙ f in cc)
  unlate n false e f = sym (later_so n false e) ∙ f

  -- one that was given before has another number
  early_then : (o : ℕ) → IsIn o ds → (g : IsGiven r es early o) → (v : Bool) → (number == g.number) ≡ v
      → later g.number ≡ true → early g.number ≡ true
  early_then o i g true e f =
      let there : slice_get (planned es) number ≡ Some g.term =
      ap (λ (m : ℕ). slice_get (planned es) m) (eqb-true number g.number e) ∙ g.planned_at in
      let same : g.term ≡ t = (let z = sym there ∙ planned_at in cc) in
      absurd (fresh (subst (λ (u : Task). IsIn (offset_of r u) ds) same (subst (λ (x : ℕ). IsIn x ds) g.is i)))
  early_then o i g false e f = sym (later_so g.number false e) ∙ f

  old : (o : ℕ) → IsIn o ds → IsGiven r es early o → IsGiven r es later o
  old o i g = record {
    term = g.term;
    number = g.number;
    planned_at = g.planned_at;
    place = g.place;
    at = g.at;
    is = g.is;
    late = λ e. g.late (unlate g.number (number == g.number) refl e);
    kept = λ e. g.kept (early_then o i g (number == g.number) refl e);
    opens = λ e. g.opens (early_then o i g (number == g.number) refl e);
  }

  own : (o : ℕ) → o ≡ offset_of r t → IsGiven r es later o
  own o e = record {
    term = t;
    number = number;
    planned_at = planned_at;
    place = place;
    at = at;
    is = e;
    late = λ f. absurd (let z : true ≡ false = sym (later_so number true (eq-eqb number number refl)) ∙ f in cc);
    kept = λ f. kept;
    opens = λ f. opens;
  }

  pub given_due : AreGiven r es later (ds ++ offset_of r t ∷ [])
  given_due = record {
    each = λ o i. ⊎_elim (λ (j : IsIn o ds). old o j (h.each o j))
        (λ (j : IsIn o (offset_of r t ∷ [])). ⊎_elim (λ (e : o ≡ offset_of r t). own o e) (λ (z : ⊥). absurd z) j)
        (in_append o ds (offset_of r t ∷ []) i);
    there = λ n e. there_now n (number == n) refl e;
    passed = all_weaker (λ u. IsIn (offset_of r u) ds) (λ u. IsIn (offset_of r u) (ds ++ offset_of r t ∷ []))
        (take (delivered es) (some_of es)) (λ u k. in_left (offset_of r u) ds (offset_of r t ∷ []) k) h.passed;
    few = h.few;
  }

-- ---- what isn't given

module _ (r : FileRange) (es : List Event) (early : ℕ → Bool) (ds : List ℕ) (h : AreGiven r es early ds)
    (allowed : IsAllowedHistory es) (starts : FirstStarts r.start (planned es)) where
  -- a term has the number of the one that was given at its place
  number_is : (number place : ℕ) (t : Task) → slice_get (planned es) number ≡ Some t
      → slice_get (some_of es) place ≡ Some t → (g : IsGiven r es early (offset_of r t)) → number ≡ g.number
  number_is number place t planned_at at g =
      same_number r es allowed starts number g.number t g.term planned_at g.planned_at
      (filtered has_bytes (planned es) place t at) (filtered has_bytes (planned es) g.place g.term g.at) g.is

  -- a term that isn't recorded, and isn't early
  pub fresh_due : (number place : ℕ) (t : Task) → slice_get (planned es) number ≡ Some t
      → slice_get (some_of es) place ≡ Some t → delivered es ≤ place → early number ≡ false → IsIn (offset_of r t) ds
      → ⊥
  fresh_due number place t planned_at at past none i =
      let g = h.each (offset_of r t) i in
      let j = same_place r es allowed starts place g.place t g.term at g.at g.is in
      let l = g.late (ap early (sym (number_is number place t planned_at at g)) ∙ none) in
      omega (arith, j, l, past)

  -- one that is recorded was given
  pub passed_at : (place : ℕ) (t : Task) → slice_get (some_of es) place ≡ Some t → place < delivered es
      → IsIn (offset_of r t) ds
  passed_at place t at before = all_at (λ u. IsIn (offset_of r u) ds) (take (delivered es) (some_of es)) place t
      h.passed (get_take (some_of es) (delivered es) place t before at)
    where
      get_take : {A : Type 0} (xs : List A) (n i : ℕ) (x : A) → i < n → slice_get xs i ≡ Some x
          → slice_get (take n xs) i ≡ Some x
      get_take [] n i x k e = absurd (cc)
      get_take (y ∷ xs) zero i x k e = absurd (omega (arith, k))
      get_take (y ∷ xs) (suc n) zero x k e = e
      get_take (y ∷ xs) (suc n) (suc i) x k e = get_take xs n i x (omega (arith, k)) e

      all_at : (P : Task → Type 0) (xs : List Task) (i : ℕ) (x : Task) → All P xs → slice_get xs i ≡ Some x → P x
      all_at P [] i x a e = absurd (cc)
      all_at P (y ∷ xs) zero x a e = let s : y ≡ x = cc in subst P s (All-head P y xs a)
      all_at P (y ∷ xs) (suc i) x a e = all_at P xs i x (All-tail P y xs a) e

  -- where the next one was given it is early
  pub next_early : (number : ℕ) (t : Task) → slice_get (planned es) number ≡ Some t → next_term es ≡ Some t
      → IsIn (offset_of r t) ds → early number ≡ false → ⊥
  next_early number t planned_at next i none = fresh_due number (delivered es) t planned_at next (omega arith) none i

  -- and then it is admitted, and its block kept
  pub early_next : (number : ℕ) (t : Task) → slice_get (planned es) number ≡ Some t → next_term es ≡ Some t
      → early number ≡ true
      → (is_kept es t.plan t.term.block ≡ true) × (delivered es < length (filter has_bytes (admitted es)))
  early_next number t planned_at next was =
      let g = h.each (offset_of r t) (was_term r es ds number t planned_at (h.there number was)) in
      let j : delivered es ≡ g.place = same_place r es allowed starts (delivered es) g.place t g.term next g.at g.is in
      let here : slice_get (some_of es) (delivered es) ≡ Some g.term =
      ap (λ (n : ℕ). slice_get (some_of es) n) j ∙ g.at in
      let e : t ≡ g.term = let z = sym next ∙ here in cc in
      let now : early g.number ≡ true = ap early (sym (number_is number (delivered es) t planned_at next g)) ∙ was in
      let o = g.opens now in
      (ap (λ (u : Task). is_kept es u.plan u.term.block) e ∙ g.kept now, omega (arith, o, j))

-- ---- the same terms

pub given_same : (r : FileRange) (es : List Event) (early later : ℕ → Bool) (ds : List ℕ)
    → ((n : ℕ) → later n ≡ early n) → AreGiven r es early ds → AreGiven r es later ds
given_same r es early later ds same h = record {
  each = λ o i.
      let g = h.each o i in
      record {
        term = g.term;
        number = g.number;
        planned_at = g.planned_at;
        place = g.place;
        at = g.at;
        is = g.is;
        late = λ e. g.late (sym (same g.number) ∙ e);
        kept = λ e. g.kept (sym (same g.number) ∙ e);
        opens = λ e. g.opens (sym (same g.number) ∙ e);
      };
  there = λ n e. h.there n (sym (same n) ∙ e);
  passed = h.passed;
  few = h.few;
}
