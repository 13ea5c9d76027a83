-- The terms from the first unfinished one on, and the events that record a window of them.
use Rattle.std.proofs.Common.{◌≡◌, ℕ, zero, suc, ◌+◌, ◌-◌, ◌<◌, ◌≤◌, ◌&&◌, ◌||◌, Bool, true, false, cond, List, [], ◌∷◌, ◌++◌, length, take, drop, refl, sym, subst, ◌∙◌, ap, arith, Some, None, Option}
use Rattle.std.specs.Prelude.{count_by, filter, map, MatchOption, nat_lt, slice_get}
use Rattle.std.specs.List.{list_any, sum_by}
use Rattle.std.specs.Option.{option_or}
use Rattle.std.proofs.lemmas.Bool.{lt-ltb}
use Rattle.std.proofs.lemmas.Bool.Decides.{nat_tests}
use Rattle.std.proofs.lemmas.List.{append-nil}
use Rattle.std.proofs.lemmas.List.Elements.{filter-append}
use Rattle.std.proofs.lemmas.List.Sums.{sum_by-append, sum_by-cons}
use Rattle.xet_events.specs.declared.event.Event.{Event}
use Rattle.xet_events.specs.declared.event.Event.TheVariants.{Wrote}
use Rattle.xet_events.specs.Allowed.{AllowedAfter, IsRunning, MayWrite}
use Rattle.xet_events.specs.Events.{Task, admitted, ended, has_more, is_admit, is_kept, keeps, needs, planned, size, unfinished, written}
use Rattle.xet_events.proofs.CallerLemmas.{any-push, error-push, planned-push, written-push}
use Rattle.xet_ties.specs.Recordings.{wrote_event, wrote_of}
use Rattle.xet_ties.specs.Windows.{IsAt, AreKept, end_has_bytes, is_wanted, open_terms}
use Rattle.xet_ties.proofs.Telling.{count-same}

-- ---- ends

ended_append : (p : ℕ) (xs ys : List Task) → ended p (xs ++ ys) ≡ ended p xs ++ ended (p + sum_by size xs) ys
ended_append p [] ys = let e : p ≡ p + 0 = omega arith in ap (λ (k : ℕ). ended k ys) e
ended_append p (x ∷ xs) ys =
    let c = sum_by-cons size x xs in
    let e : p + size x + sum_by size xs ≡ p + sum_by size (x ∷ xs) = omega (arith, c) in
    ap (λ l. (p + size x, x) ∷ l) (ended_append (p + size x) xs ys ∙ ap (λ (k : ℕ). ended (p + size x) xs ++ ended k ys) e)

-- what ends before the written bytes do isn't unfinished
none_more : (w p : ℕ) (xs : List Task) → p + sum_by size xs ≤ w → filter (has_more w) (ended p xs) ≡ []
none_more w p [] h = refl
none_more w p (x ∷ xs) h = by (none_more w (p + size x) xs (let c = sum_by-cons size x xs in omega (arith, h, c))) (nat_lt 0 (size x)) refl (nat_lt w (p + size x)) refl
  where
    c : sum_by size (x ∷ xs) ≡ size x + sum_by size xs
    c = sum_by-cons size x xs

    by : filter (has_more w) (ended (p + size x) xs) ≡ [] → (u : Bool) → nat_lt 0 (size x) ≡ u → (v : Bool) → nat_lt w (p + size x) ≡ v → filter (has_more w) (ended p (x ∷ xs)) ≡ []
    by rest false e v f = ap (λ (b : Bool). cond (b && nat_lt w (p + size x)) ((p + size x, x) ∷ filter (has_more w) (ended (p + size x) xs)) (filter (has_more w) (ended (p + size x) xs))) e ∙ rest
    by rest true e true f = absurd (let l : w < p + size x = grind (arith, nat_tests) in omega (arith, l, h, c))
    by rest true e false f = ap (λ (b : Bool). cond (b && nat_lt w (p + size x)) ((p + size x, x) ∷ filter (has_more w) (ended (p + size x) xs)) (filter (has_more w) (ended (p + size x) xs))) e ∙ ap (λ (b : Bool). cond b ((p + size x, x) ∷ filter (has_more w) (ended (p + size x) xs)) (filter (has_more w) (ended (p + size x) xs))) f ∙ rest

-- what begins at their end or later is, where it has bytes
has_same : (w p : ℕ) (x : Task) → w ≤ p → has_more w (p + size x, x) ≡ end_has_bytes (p + size x, x)
has_same w p x h = by (nat_lt 0 (size x)) refl
  where
    by : (v : Bool) → nat_lt 0 (size x) ≡ v → has_more w (p + size x, x) ≡ end_has_bytes (p + size x, x)
    by false e = ap (λ (b : Bool). b && nat_lt w (p + size x)) e ∙ sym e
    by true e =
        let some : 0 < size x = grind (arith, nat_tests) in
        let past : nat_lt w (p + size x) ≡ true = lt-ltb w (p + size x) (omega (arith, some, h)) in
        ap (λ (b : Bool). b && nat_lt w (p + size x)) e ∙ past ∙ sym e

all_more : (w p : ℕ) (xs : List Task) → w ≤ p → filter (has_more w) (ended p xs) ≡ filter end_has_bytes (ended p xs)
all_more w p [] h = refl
all_more w p (x ∷ xs) h =
    let more = all_more w (p + size x) xs (omega (arith, h)) in
    ap (λ (b : Bool). cond b ((p + size x, x) ∷ filter (has_more w) (ended (p + size x) xs)) (filter (has_more w) (ended (p + size x) xs))) (has_same w p x h)
    ∙ ap (λ l. cond (end_has_bytes (p + size x, x)) ((p + size x, x) ∷ l) l) more

-- ---- the unfinished terms

take_none : {A : Type 0} (j : ℕ) → take {A = A} j [] ≡ []
take_none zero = refl
take_none (suc j) = refl

drop_none : {A : Type 0} (j : ℕ) → drop {A = A} j [] ≡ []
drop_none zero = refl
drop_none (suc j) = refl

take_split : {A : Type 0} (k m : ℕ) (xs : List A) → k ≤ m → take m xs ≡ take k xs ++ take (m - k) (drop k xs)
take_split {A = A} k m [] h = take_none m ∙ sym (ap (λ (l : List A). l ++ take (m - k) (drop k [])) (take_none k) ∙ ap (λ (l : List A). take (m - k) l) (drop_none k) ∙ take_none (m - k))
take_split zero m (x ∷ xs) h = let e : m ≡ m - 0 = omega arith in ap (λ j. take j (x ∷ xs)) e
take_split (suc k) zero (x ∷ xs) h = absurd (omega (arith, h))
take_split (suc k) (suc m) (x ∷ xs) h =
    let e : m - k ≡ suc m - suc k = omega arith in
    ap (λ l. x ∷ l) (take_split k m xs (omega (arith, h)) ∙ ap (λ j. take k xs ++ take j (drop k xs)) e)

-- where the first terms were wholly written, and no byte more, the unfinished ones are those after them that have bytes
pub unfinished_is : (es : List Event) (k : ℕ) → IsAt es k → unfinished es ≡ filter end_has_bytes (ended (written es) (open_terms es k))
unfinished_is es k a =
    let w = written es in
    let first = take k (planned es) in
    let from : 0 + sum_by size first ≡ w = (let h = a.written_are in omega (arith, h)) in
    let parts : ended 0 (admitted es) ≡ ended 0 first ++ ended w (open_terms es k) = ap (λ l. ended 0 l) (take_split k (count_by is_admit es) (planned es) a.admitted) ∙ ended_append 0 first (open_terms es k) ∙ ap (λ (j : ℕ). ended 0 first ++ ended j (open_terms es k)) from in
    let none : filter (has_more w) (ended 0 first) ≡ [] = none_more w 0 first (let h = a.written_are in omega (arith, h)) in
    ap (λ l. filter (has_more w) l) parts ∙ filter-append (has_more w) (ended 0 first) (ended w (open_terms es k)) ∙ ap (λ l. l ++ filter (has_more w) (ended w (open_terms es k))) none ∙ all_more w w (open_terms es k) (omega arith)

wanted_in : (p b w : ℕ) (ts : List Task) → list_any (λ c. needs p b c.1) (filter end_has_bytes (ended w ts)) ≡ list_any (is_wanted p b) ts
wanted_in p b w [] = refl
wanted_in p b w (t ∷ ts) = by (wanted_in p b (w + size t) ts) (nat_lt 0 (size t)) refl
  where
    by : list_any (λ c. needs p b c.1) (filter end_has_bytes (ended (w + size t) ts)) ≡ list_any (is_wanted p b) ts → (v : Bool) → nat_lt 0 (size t) ≡ v → list_any (λ c. needs p b c.1) (filter end_has_bytes (ended w (t ∷ ts))) ≡ list_any (is_wanted p b) (t ∷ ts)
    by rest true e =
        ap (λ (v : Bool). list_any (λ c. needs p b c.1) (cond v ((w + size t, t) ∷ filter end_has_bytes (ended (w + size t) ts)) (filter end_has_bytes (ended (w + size t) ts)))) e ∙ ap (λ (v : Bool). needs p b t || v) rest ∙ sym (ap (λ (v : Bool). (v && needs p b t) || list_any (is_wanted p b) ts) e)
    by rest false e =
        ap (λ (v : Bool). list_any (λ c. needs p b c.1) (cond v ((w + size t, t) ∷ filter end_has_bytes (ended (w + size t) ts)) (filter end_has_bytes (ended (w + size t) ts)))) e ∙ rest ∙ sym (ap (λ (v : Bool). (v && needs p b t) || list_any (is_wanted p b) ts) e)

-- so a block is wanted where one of these terms has it
pub wanted_is : (es : List Event) (k p b : ℕ) → IsAt es k → list_any (λ c. needs p b c.1) (unfinished es) ≡ list_any (is_wanted p b) (open_terms es k)
wanted_is es k p b a = ap (λ l. list_any (λ c. needs p b c.1) l) (unfinished_is es k a) ∙ wanted_in p b (written es) (open_terms es k)

-- ---- a window is recorded

next_suc : {A : Type 0} (k : ℕ) (xs : List A) (y : A) (ys : List A) → drop k xs ≡ y ∷ ys → (take (suc k) xs ≡ take k xs ++ y ∷ []) × (drop (suc k) xs ≡ ys)
next_suc zero [] y ys h = absurd (cc)
next_suc (suc k) [] y ys h = absurd (cc)
next_suc zero (x ∷ xs) y ys h = let e : x ≡ y = cc in let f : xs ≡ ys = cc in (ap (λ z. z ∷ []) e, f)
next_suc (suc k) (x ∷ xs) y ys h = let r = next_suc k xs y ys h in (ap (λ l. x ∷ l) r.0, r.1)

next_of : {A : Type 0} (k : ℕ) (xs : List A) (y : A) (ys : List A) → drop k xs ≡ y ∷ ys → (take (k + 1) xs ≡ take k xs ++ y ∷ []) × (drop (k + 1) xs ≡ ys)
next_of k xs y ys h =
    let e : suc k ≡ k + 1 = omega arith in
    let r = next_suc k xs y ys h in
    (ap (λ j. take j xs) (sym e) ∙ r.0, ap (λ j. drop j xs) (sym e) ∙ r.1)

-- the first of the unfinished terms
front_is : (w m : ℕ) (t : Task) (ts : List Task) → nat_lt 0 (size t) ≡ true → slice_get (filter end_has_bytes (ended w (take (suc m) (t ∷ ts)))) 0 ≡ Some (w + size t, t)
front_is w m t ts e = ap (λ (v : Bool). slice_get (cond v ((w + size t, t) ∷ filter end_has_bytes (ended (w + size t) (take m ts))) (filter end_has_bytes (ended (w + size t) (take m ts)))) 0) e

may_write : (es : List Event) (k : ℕ) (t : Task) (ts : List Task) → IsAt es k → k < count_by is_admit es → drop k (planned es) ≡ t ∷ ts → nat_lt 0 (size t) ≡ true → is_kept es t.plan t.term.block ≡ true → MayWrite es (size t)
may_write es k t ts a less next some kept =
    let m : ℕ = count_by is_admit es - k - 1 in
    let n : count_by is_admit es - k ≡ suc m = omega (arith, less) in
    let front : slice_get (unfinished es) 0 ≡ Some (written es + size t, t) =
    ap (λ l. slice_get l 0) (unfinished_is es k a)
    ∙ ap (λ l. slice_get (filter end_has_bytes (ended (written es) (take (count_by is_admit es - k) l))) 0) next
    ∙ ap (λ (j : ℕ). slice_get (filter end_has_bytes (ended (written es) (take j (t ∷ ts)))) 0) n
    ∙ front_is (written es) m t ts some in
    let fits : written es + size t ≤ written es + size t = omega arith in
    subst (λ (o : Option (ℕ × Task)). MatchOption o ⊥ (λ c. (is_kept es c.1.plan c.1.term.block ≡ true) × (written es + size t ≤ c.0))) (sym front) (kept, fits)

still_kept : (es : List Event) (n : ℕ) (ts : List Task) → AreKept es ts → AreKept (es ++ Wrote n ∷ []) ts
still_kept es n [] h = tt
still_kept es n (t ∷ ts) h = (λ some. any-push (keeps t.plan t.term.block) es (Wrote n) ∙ ap (λ (v : Bool). v || false) (h.0 some), still_kept es n ts h.1)

at_next : (es : List Event) (k : ℕ) (t : Task) (ts : List Task) → written es ≡ sum_by size (take k (planned es)) → drop k (planned es) ≡ t ∷ ts → sum_by size (take (k + 1) (planned es)) ≡ written es + size t
at_next es k t ts w next =
    let one = (next_of k (planned es) t ts next).0 in
    let s = ap (λ l. sum_by size l) one ∙ sum_by-append size (take k (planned es)) (t ∷ []) in
    let c = sum_by-cons size t [] in
    let z : sum_by size [] ≡ 0 = refl in
    omega (arith, s, c, z, w)

-- the next terms, whose blocks are kept where they have bytes, may be recorded as written one after another
pub wrote_allowed : (es : List Event) (k : ℕ) (ts rest : List Task) → IsRunning es → IsAt es k → k + length ts ≤ count_by is_admit es → drop k (planned es) ≡ ts ++ rest → AreKept es ts → AllowedAfter es (wrote_of (map size ts))
wrote_allowed es k [] rest run a n next kept = tt
wrote_allowed es k (t ∷ ts) rest run a n next kept = by (λ fs run a n next kept. wrote_allowed fs (k + 1) ts rest run a n next kept) (nat_lt 0 (size t)) refl
  where
    s : sum_by size (take (k + 1) (planned es)) ≡ written es + size t
    s = at_next es k t (ts ++ rest) a.written_are next

    by : ((fs : List Event) → IsRunning fs → IsAt fs (k + 1) → k + 1 + length ts ≤ count_by is_admit fs → drop (k + 1) (planned fs) ≡ ts ++ rest → AreKept fs ts → AllowedAfter fs (wrote_of (map size ts))) → (v : Bool) → nat_lt 0 (size t) ≡ v → AllowedAfter es (wrote_event (size t) ++ wrote_of (map size ts))
    by more false e =
        let none : size t ≡ 0 = grind (arith, nat_tests) in
        let w = a.written_are in
        let to : IsAt es (k + 1) = record { admitted = omega (arith, n); written_are = omega (arith, s, none) } in
        subst (λ (c : Bool). AllowedAfter es (cond c (Wrote (size t) ∷ []) [] ++ wrote_of (map size ts))) (sym e) (more es run to (omega (arith, n)) (next_of k (planned es) t (ts ++ rest) next).1 kept.1)
    by more true e =
        let x : Event = Wrote (size t) in
        let some : 1 ≤ size t = grind (arith, nat_tests) in
        let same : planned (es ++ x ∷ []) ≡ planned es = planned-push es x ∙ append-nil (planned es) in
        let count : count_by is_admit (es ++ x ∷ []) ≡ count_by is_admit es = count-same is_admit es x refl in
        let grown : written (es ++ x ∷ []) ≡ written es + size t = written-push es x in
        let sums : sum_by size (take (k + 1) (planned (es ++ x ∷ []))) ≡ sum_by size (take (k + 1) (planned es)) = ap (λ l. sum_by size (take (k + 1) l)) same in
        let to : IsAt (es ++ x ∷ []) (k + 1) = record { admitted = omega (arith, n, count); written_are = omega (arith, s, grown, sums) } in
        let after : drop (k + 1) (planned (es ++ x ∷ [])) ≡ ts ++ rest = ap (λ l. drop (k + 1) l) same ∙ (next_of k (planned es) t (ts ++ rest) next).1 in
        subst (λ (c : Bool). AllowedAfter es (cond c (x ∷ []) [] ++ wrote_of (map size ts))) (sym e)
        ((run, some, may_write es k t (ts ++ rest) a (omega (arith, n)) next e (kept.0 e)), more (es ++ x ∷ []) (error-push es x ∙ ap (λ v. option_or v None) run) to (omega (arith, n, count)) after (still_kept es (size t) ts kept.1))
