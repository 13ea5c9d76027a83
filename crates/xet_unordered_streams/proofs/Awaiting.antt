-- The admitted terms of a leader that wait for their blocks, by its history.
use Rattle.std.proofs.Common.{◌≡◌, ⊎_elim, ℕ, zero, suc, ◌+◌, ◌-◌, ◌^◌, ◌≤◌, ◌<◌, ◌&&◌, Bool, true, false, cond, List, [], ◌∷◌, ◌++◌, length, take, drop, refl, sym, subst, ◌∙◌, ap, arith, length-append, Option, Some, None}
use Rattle.std.specs.Prelude.{IfSome, filter, map, min, nat_lt, not, slice_get}
use Rattle.std.specs.List.{sum_by}
use Rattle.std.proofs.lemmas.Bool.{and_from, cases_lt, ltb-true, lt-ltb, le-ltb}
use Rattle.std.proofs.lemmas.List.{append-nil}
use Rattle.std.proofs.lemmas.List.Elements.{filter-append}
use Rattle.std.proofs.lemmas.List.Sums.{sum_by-append, sum_by-cons}
use Rattle.xet_blocks.specs.Extracts.{term_size}
use Rattle.xet_events.specs.declared.event.Event.{Event}
use Rattle.xet_events.specs.Events.{Task, admitted, ended, has_more, is_kept, planned, size, unfinished, written}
use Rattle.xet_ties.specs.Saids.{has_bytes}
use Rattle.xet_ties.specs.Setup.{Setup}
use Rattle.xet_leader.specs.Led.{Led}
use Rattle.xet_leader.specs.declared.leader.LedPlan.{LedPlan}
use Rattle.xet_leader.specs.LedTerms.{PlanTerm, ahead, of_plan, size_in, task_of}
use Rattle.xet_leader.proofs.CallerLemmas.{next_tasks}
use Rattle.xet_stream_rules.specs.Streams.{Carries, StreamView, nobody}
use Rattle.xet_stream_rules.specs.Unordered.{awaited}
use Rattle.xet_stream_rules.proofs.CallerLemmas.{take_one}
use Rattle.xet_unordered_streams.specs.declared.ahead_terms.AheadTerm.{AheadTerm}
use Rattle.xet_unordered_streams.specs.declared.awaited_terms.Awaited.{Awaited}
use Rattle.xet_unordered_streams.specs.steps.Awaiting.{AwaitedBy, SizeAt, WithOne, awaited_led, waiting_of}
use Rattle.xet_unordered_streams.specs.steps.Dues.{IsTermAhead}
use Rattle.xet_unordered_streams.proofs.AheadTerms.{term_found}

-- ---- the terms that aren't wholly written are those past the finished ones

abbrev tasks_in_order : List (ℕ × Task) → List Task
tasks_in_order cs = map (λ (c : ℕ × Task). c.1) cs

-- where nothing of these is written
rest_more : (w p : ℕ) (ts : List Task) → w ≤ p
    → tasks_in_order (filter (has_more w) (ended p ts)) ≡ filter has_bytes ts
rest_more w p [] h = refl
rest_more w p (t ∷ ts) h = by (has_bytes t) refl (rest_more w (p + size t) ts (omega (arith, h)))
  where
    by : (v : Bool) → has_bytes t ≡ v
        → tasks_in_order (filter (has_more w) (ended (p + size t) ts)) ≡ filter has_bytes ts
        → tasks_in_order (filter (has_more w) (ended p (t ∷ ts))) ≡ filter has_bytes (t ∷ ts)
    by true e rest =
        let some = ltb-true 0 (size t) e in
        let past : nat_lt w (p + size t) ≡ true = lt-ltb w (p + size t) (omega (arith, h, some)) in
        let both : has_more w (p + size t, t) ≡ true = and_from _ _ e past in
        ap (λ (v : Bool). tasks_in_order (cond v ((p + size t, t) ∷ filter (has_more w) (ended (p + size t) ts))
        (filter (has_more w) (ended (p + size t) ts)))) both
        ∙ ap (λ (l : List Task). t ∷ l) rest
        ∙ sym (ap (λ (v : Bool). cond v (t ∷ filter has_bytes ts) (filter has_bytes ts)) e)
    by false e rest =
        let none : has_more w (p + size t, t) ≡ false = ap (λ (v : Bool). v && nat_lt w (p + size t)) e in
        ap (λ (v : Bool). tasks_in_order (cond v ((p + size t, t) ∷ filter (has_more w) (ended (p + size t) ts))
        (filter (has_more w) (ended (p + size t) ts)))) none
        ∙ rest
        ∙ sym (ap (λ (v : Bool). cond v (t ∷ filter has_bytes ts) (filter has_bytes ts)) e)

-- where the first ones are
all_more : (f p : ℕ) (ts : List Task) → tasks_in_order (filter (has_more (p + sum_by size (take f ts))) (ended p ts))
    ≡ filter has_bytes (drop f ts)
all_more zero p ts = rest_more (p + 0) p ts (omega arith)
all_more (suc f) p [] = refl
all_more (suc f) p (t ∷ ts) =
    let sum = sum_by-cons size t (take f ts) in
    let same : p + sum_by size (take (suc f) (t ∷ ts)) ≡ (p + size t) + sum_by size (take f ts) = omega (arith, sum) in
    let low : nat_lt ((p + size t) + sum_by size (take f ts)) (p + size t) ≡ false =
    le-ltb ((p + size t) + sum_by size (take f ts)) (p + size t) (omega arith) in
    ap (λ (w : ℕ). tasks_in_order (filter (has_more w) (ended p (t ∷ ts)))) same
    ∙ ap (λ (v : Bool). tasks_in_order (cond v ((p + size t, t)
    ∷ filter (has_more ((p + size t) + sum_by size (take f ts))) (ended (p + size t) ts))
    (filter (has_more ((p + size t) + sum_by size (take f ts))) (ended (p + size t) ts)))) (none (nat_lt 0 (size t)) low)
    ∙ all_more f (p + size t) ts
  where
    none : (v : Bool) {w : Bool} → w ≡ false → (v && w) ≡ false
    none true e = e
    none false e = refl

take_front : {A : Type 0} (f n : ℕ) (xs : List A) → f ≤ n → take f (take n xs) ≡ take f xs
take_front zero n xs h = refl
take_front (suc f) zero xs h = absurd (omega (arith, h))
take_front (suc f) (suc n) [] h = refl
take_front (suc f) (suc n) (x ∷ xs) h = ap (λ l. x ∷ l) (take_front f n xs (omega (arith, h)))

drop_take : {A : Type 0} (f n : ℕ) (xs : List A) → drop f (take n xs) ≡ take (n - f) (drop f xs)
drop_take zero n xs = let e : n ≡ n - 0 = omega arith in ap (λ (k : ℕ). take k xs) e
drop_take (suc f) zero xs = let e : 0 ≡ 0 - suc f = omega arith in ap (λ (k : ℕ). take k (drop (suc f) xs)) e
drop_take {A} (suc f) (suc n) [] = nothing (suc n - suc f)
  where
    nothing : (k : ℕ) → [] ≡ take {A = A} k []
    nothing zero = refl
    nothing (suc k) = refl
drop_take (suc f) (suc n) (x ∷ xs) =
    let e : n - f ≡ suc n - suc f = omega arith in
    drop_take f n xs ∙ ap (λ (k : ℕ). take k (drop f xs)) e

-- so a leader's are the history's
pub awaited_is : (g : Setup) (es : List Event) (l : Led) → Carries nobody g es l → awaited es ≡ awaited_led l es
awaited_is g es l c =
    let w = c.led.counted.written_are in
    let a = c.led.counted.admitted_are in
    let f = c.led.counted.finished_within in
    let front : take l.finished (admitted es) ≡ take l.finished (planned es) =
    take_front l.finished _ (planned es) (omega (arith, f, a)) in
    let wrote : written es ≡ 0 + sum_by size (take l.finished (admitted es)) =
    (let s = ap (λ (ts : List Task). sum_by size ts) front in omega (arith, w, s)) in
    let open_ones : tasks_in_order (unfinished es) ≡ filter has_bytes (drop l.finished (admitted es)) =
    ap (λ (n : ℕ). tasks_in_order (filter (has_more n) (ended 0 (admitted es)))) wrote
    ∙ all_more l.finished 0 (admitted es) in
    let rest : drop l.finished (admitted es) ≡ take (l.admitted - l.finished) (map task_of (ahead l)) =
    drop_take l.finished _ (planned es)
    ∙ ap (λ (n : ℕ). take (n - l.finished) (drop l.finished (planned es))) (sym a)
    ∙ ap (λ (ts : List Task). take (l.admitted - l.finished) ts)
    (next_tasks g nobody es c.slack [] l c.led.counted.planned_are c.led.plans) in
    ap (λ (ts : List Task). filter (λ t. not (is_kept es t.plan t.term.block)) ts)
    (open_ones ∙ ap (λ (ts : List Task). filter has_bytes ts) rest)

-- ---- one term more

waiting_append : (es : List Event) (xs ys : List Task) → waiting_of es (xs ++ ys) ≡ waiting_of es xs ++ waiting_of es ys
waiting_append es xs ys =
    ap (λ (ts : List Task). filter (λ t. not (is_kept es t.plan t.term.block)) ts) (filter-append has_bytes xs ys)
    ∙ filter-append (λ t. not (is_kept es t.plan t.term.block)) (filter has_bytes xs) (filter has_bytes ys)

-- one that waits, and one that doesn't
one_waits : (es : List Event) (t : Task) → has_bytes t ≡ true → is_kept es t.plan t.term.block ≡ false
    → waiting_of es (t ∷ []) ≡ t ∷ []
one_waits es t some absent =
    ap (λ (v : Bool). filter (λ u. not (is_kept es u.plan u.term.block)) (cond v (t ∷ []) [])) some
    ∙ ap (λ (v : Bool). cond (not v) (t ∷ []) []) absent

kept_waits : (es : List Event) (t : Task) → is_kept es t.plan t.term.block ≡ true → waiting_of es (t ∷ []) ≡ []
kept_waits es t kept = by (has_bytes t) refl
  where
    by : (v : Bool) → has_bytes t ≡ v → waiting_of es (t ∷ []) ≡ []
    by true e =
        ap (λ (v : Bool). filter (λ u. not (is_kept es u.plan u.term.block)) (cond v (t ∷ []) [])) e
        ∙ ap (λ (v : Bool). cond (not v) (t ∷ []) []) kept
    by false e = ap (λ (v : Bool). filter (λ u. not (is_kept es u.plan u.term.block)) (cond v (t ∷ []) [])) e

empty_waits : (es : List Event) (t : Task) → has_bytes t ≡ false → waiting_of es (t ∷ []) ≡ []
empty_waits es t none =
    ap (λ (v : Bool). filter (λ u. not (is_kept es u.plan u.term.block)) (cond v (t ∷ []) [])) none

filter_few : {A : Type 0} (p : A → Bool) (xs : List A) → length (filter p xs) ≤ length xs
filter_few p [] = omega arith
filter_few p (x ∷ xs) = by (p x) (filter_few p xs)
  where
    by : (v : Bool) → length (filter p xs) ≤ length xs → length (cond v (x ∷ filter p xs) (filter p xs)) ≤ suc (length xs)
    by true h = omega (arith, h)
    by false h = omega (arith, h)

length_take : {A : Type 0} (n : ℕ) (xs : List A) → length (take n xs) ≤ n
length_take zero xs = omega arith
length_take (suc n) [] = omega arith
length_take (suc n) (x ∷ xs) = let h = length_take n xs in omega (arith, h)

waiting_few : (es : List Event) (n : ℕ) (ts : List Task) → length (waiting_of es (take n ts)) ≤ n
waiting_few es n ts =
    let a = filter_few (λ t. not (is_kept es t.plan t.term.block)) (filter has_bytes (take n ts)) in
    let b = filter_few has_bytes (take n ts) in
    let c = length_take n ts in
    omega (arith, a, b, c)

take_past : {A : Type 0} (xs : List A) (n : ℕ) → slice_get xs n ≡ None → take (n + 1) xs ≡ take n xs
take_past [] zero h = refl
take_past [] (suc n) h = let e : suc n + 1 ≡ suc (n + 1) = omega arith in ap (λ (k : ℕ). take k []) e
take_past (x ∷ xs) zero h = absurd (cc)
take_past (x ∷ xs) (suc n) h =
    let e : suc n + 1 ≡ suc (n + 1) = omega arith in
    ap (λ (k : ℕ). take k (x ∷ xs)) e ∙ ap (λ l. x ∷ l) (take_past xs n h)

map_none : {A B : Type 0} (f : A → B) (xs : List A) (n : ℕ) → slice_get xs n ≡ None → slice_get (map f xs) n ≡ None
map_none f [] n h = refl
map_none f (x ∷ xs) zero h = absurd (cc)
map_none f (x ∷ xs) (suc n) h = map_none f xs n h

map_some : {A B : Type 0} (f : A → B) (xs : List A) (n : ℕ) (x : A) → slice_get xs n ≡ Some x
    → slice_get (map f xs) n ≡ Some (f x)
map_some f [] n x h = absurd (cc)
map_some f (y ∷ xs) zero x h = let e : y ≡ x = cc in ap (λ z. Some (f z)) e
map_some f (y ∷ xs) (suc n) x h = map_some f xs n x h

module _ (l : Led) (es : List Event) (skip size_it : ℕ) (h : SizeAt l es skip size_it) where
  abbrev ts : List Task
  ts = map task_of (ahead l)

  -- it doesn't wait
  pub awaited_none : size_it ≡ 0 → waiting_of es (take (skip + 1) ts) ≡ waiting_of es (take skip ts)
  awaited_none none = by (slice_get (ahead l) skip) refl
    where
      same : (t : PlanTerm) → slice_get (ahead l) skip ≡ Some t → waiting_of es (task_of t ∷ []) ≡ []
          → waiting_of es (take (skip + 1) ts) ≡ waiting_of es (take skip ts)
      same t there empty =
          ap (λ (us : List Task). waiting_of es us) (take_one ts skip (task_of t) (map_some task_of (ahead l) skip t there))
          ∙ waiting_append es (take skip ts) (task_of t ∷ [])
          ∙ ap (λ (us : List Task). waiting_of es (take skip ts) ++ us) empty
          ∙ append-nil (waiting_of es (take skip ts))

      small : (t : PlanTerm) → slice_get (ahead l) skip ≡ Some t → is_kept es t.plan.number t.term.xorb_block ≡ false
          → has_bytes (task_of t) ≡ false
      small t there absent =
          let z = (h.0 t there).absent absent in le-ltb 0 (size (task_of t)) (omega (arith, z, none))

      by : (o : Option PlanTerm) → slice_get (ahead l) skip ≡ o
          → waiting_of es (take (skip + 1) ts) ≡ waiting_of es (take skip ts)
      by None e = ap (λ (us : List Task). waiting_of es us) (take_past ts skip (map_none task_of (ahead l) skip e))
      by (Some t) e = kept (is_kept es t.plan.number t.term.xorb_block) refl
        where
          kept : (v : Bool) → is_kept es t.plan.number t.term.xorb_block ≡ v
              → waiting_of es (take (skip + 1) ts) ≡ waiting_of es (take skip ts)
          kept true f = same t e (kept_waits es (task_of t) f)
          kept false f = same t e (empty_waits es (task_of t) (small t e f))

  -- it does
  pub record WaitsNow : Type 0 where
    pub term : Task
    pub is : waiting_of es (take (skip + 1) ts) ≡ waiting_of es (take skip ts) ++ term ∷ []
    pub sized : size_it ≡ size term

  pub awaited_one : 0 < size_it → WaitsNow
  awaited_one some = by (slice_get (ahead l) skip) refl
    where
      by : (o : Option PlanTerm) → slice_get (ahead l) skip ≡ o → WaitsNow
      by None e = absurd (let z = h.1 e in omega (arith, z, some))
      by (Some t) e = kept (is_kept es t.plan.number t.term.xorb_block) refl
        where
          kept : (v : Bool) → is_kept es t.plan.number t.term.xorb_block ≡ v → WaitsNow
          kept true f = absurd (let z = (h.0 t e).kept f in omega (arith, z, some))
          kept false f =
              let z = (h.0 t e).absent f in
              record {
                term = task_of t;
                is = ap (λ (us : List Task). waiting_of es us)
                    (take_one ts skip (task_of t) (map_some task_of (ahead l) skip t e))
                    ∙ waiting_append es (take skip ts) (task_of t ∷ [])
                    ∙ ap (λ (us : List Task). waiting_of es (take skip ts) ++ us)
                    (one_waits es (task_of t) (lt-ltb 0 (size (task_of t)) (omega (arith, z, some))) f);
                sized = z;
              }

  -- so of their number and their bytes
  pub counted_none : (a : Awaited) → size_it ≡ 0 → AwaitedBy (waiting_of es (take skip ts)) a
      → AwaitedBy (waiting_of es (take (skip + 1) ts)) a
  counted_none a none c = subst (λ (us : List Task). AwaitedBy us a) (sym (awaited_none none)) c

  pub counted_one : (a n : Awaited) → 0 < size_it → skip + 1 < 2 ^ 64 → AwaitedBy (waiting_of es (take skip ts)) a
      → n.terms ≡ min (a.terms + 1) (2 ^ 64 - 1) → n.bytes ≡ min (a.bytes + size_it) (2 ^ 64 - 1)
      → AwaitedBy (waiting_of es (take (skip + 1) ts)) n
  counted_one a n some fits c terms bytes =
      let w = awaited_one some in
      let few = waiting_few es skip ts in
      let before = c.terms in
      let long = ap length w.is ∙ length-append (waiting_of es (take skip ts)) (w.term ∷ []) in
      let sum = ap (λ (us : List Task). sum_by size us) w.is
      ∙ sum_by-append size (waiting_of es (take skip ts)) (w.term ∷ []) in
      let one = sum_by-cons size w.term [] in
      let nil : sum_by size [] ≡ 0 = refl in
      let sized = w.sized in
      let had = c.bytes in
      record { terms = omega (arith, long, terms, before, few, fits); bytes = omega (arith, sum, one, nil, sized, bytes, had) }

  pub counted : (a n : Awaited) → skip + 1 < 2 ^ 64 → AwaitedBy (waiting_of es (take skip ts)) a → WithOne a size_it n
      → AwaitedBy (waiting_of es (take (skip + 1) ts)) n
  counted a n fits c w =
      ⊎_elim (λ (some : 0 < size_it). counted_one a n some fits c (w.terms some) (w.bytes some))
      (λ (none : size_it ≤ 0).
      let zero_it : size_it ≡ 0 = omega (arith, none) in
      subst (λ (x : Awaited). AwaitedBy (waiting_of es (take (skip + 1) ts)) x) (sym (w.none zero_it))
      (counted_none a zero_it c)) (cases_lt 0 size_it)

-- none so far
pub counted_first : (es : List Event) (xs : List Task) (a : Awaited) → a.terms ≡ 0 → a.bytes ≡ 0
    → AwaitedBy (waiting_of es (take 0 xs)) a
counted_first es xs a terms bytes =
    let nil : sum_by size [] ≡ 0 = refl in record { terms = terms; bytes = omega (arith, bytes, nil) }

-- all of them
pub counted_all : (l : Led) (es : List Event) (count : ℕ) (a : Awaited) → count ≡ l.admitted - l.finished
    → AwaitedBy (waiting_of es (take count (map task_of (ahead l)))) a → AwaitedBy (awaited_led l es) a
counted_all l es count a is c =
    subst (λ (n : ℕ). AwaitedBy (waiting_of es (take n (map task_of (ahead l)))) a) is c

-- so of a stream that has a leader
pub counted_led : (v : StreamView) (l : Led) (a : Awaited) → v.led ≡ Some l
    → IfSome v.led (Carries nobody v.setup v.events) → AwaitedBy (awaited_led l v.events) a
    → AwaitedBy (awaited v.events) a
counted_led v l a is held c =
    let carries = subst (λ (o : Option Led). IfSome o (Carries nobody v.setup v.events)) is held in
    subst (λ (ts : List Task). AwaitedBy ts a) (sym (awaited_is v.setup v.events l carries)) c

-- or none
pub counted_unled : (es : List Event) (a : Awaited) → es ≡ [] → a.terms ≡ 0 → a.bytes ≡ 0 → AwaitedBy (awaited es) a
counted_unled es a none terms bytes =
    let nil : sum_by size [] ≡ 0 = refl in
    subst (λ (xs : List Event). AwaitedBy (awaited xs) a) (sym none)
    (record { terms = terms; bytes = omega (arith, bytes, nil) })

-- ---- what was found of a term

pub size_none : (l : Led) (es : List Event) (skip : ℕ) → slice_get (ahead l) skip ≡ None → SizeAt l es skip 0
size_none l es skip none = (
  λ t there. absurd (let z : ◌≡◌ {A = Option PlanTerm} (Some t) None = sym there ∙ none in cc),
  λ n. refl,
)

module _ (l : Led) (es : List Event) (skip : ℕ) (n : AheadTerm) (x : IsTermAhead l skip n) (p : LedPlan)
    (same : x.plan ≡ p) where
  kept_there : (t : PlanTerm) → slice_get (ahead l) skip ≡ Some t
      → is_kept es t.plan.number t.term.xorb_block ≡ is_kept es p.number n.term.xorb_block
  kept_there t there =
      ap (λ (u : PlanTerm). is_kept es u.plan.number u.term.xorb_block) (term_found l skip n x t there)
      ∙ ap (λ (q : LedPlan). is_kept es q.number n.term.xorb_block) same

  -- its block is kept
  pub size_kept : is_kept es p.number n.term.xorb_block ≡ true → SizeAt l es skip 0
  size_kept kept = (
    λ t there. record {
      kept = λ h. refl;
      absent = λ h. absurd (let z : true ≡ false = sym (kept_there t there ∙ kept) ∙ h in cc);
    },
    λ none. refl,
  )

  -- or it isn't
  pub size_absent : (sized : ℕ) → is_kept es p.number n.term.xorb_block ≡ false → sized ≡ term_size n.term
      → SizeAt l es skip sized
  size_absent sized absent is = (
    λ t there. record {
      kept = λ h. absurd (let z : true ≡ false = sym h ∙ kept_there t there ∙ absent in cc);
      absent = λ h. is ∙ ap size_in (sym (term_found l skip n x t there));
    },
    λ none. absurd (let z : ◌≡◌ {A = Option PlanTerm} (Some (of_plan x.plan n.term)) None = sym x.there ∙ none in cc),
  )
