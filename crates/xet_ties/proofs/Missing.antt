-- A missing block stays missing while others are recorded, so all that the lanes of a round did may be recorded.
use Rattle.std.proofs.Common.{◌≡◌, ℕ, ◌+◌, ◌≤◌, ◌==◌, ◌&&◌, ◌||◌, Bool, true, false, cond, List, [], ◌∷◌, ◌++◌, take, refl, sym, subst, ◌∙◌, ap, arith, append_assoc, None}
use Rattle.std.specs.Prelude.{count_by, filter}
use Rattle.std.specs.List.{list_any}
use Rattle.std.specs.Option.{option_or}
use Rattle.std.proofs.lemmas.List.{append-nil}
use Rattle.std.proofs.lemmas.Bool.{eq-eqb}
use Rattle.xet_outside.proofs.CallerLemmas.{count_by-cons}
use Rattle.xet_events.specs.declared.event.Event.{Event}
use Rattle.xet_events.specs.declared.event.Event.TheVariants.{Fetched, Expired}
use Rattle.xet_events.specs.Allowed.{AllowedAfter, IsMissing, IsRunning}
use Rattle.xet_events.specs.Events.{Task, ended, error_in, expires, first_error, has_more, is_admit, keeps, needs, planned, taken_in, tasks_in, unfinished, written}
use Rattle.xet_events.proofs.CallerLemmas.{error-push, planned-push, written-push}
use Rattle.xet_ties.specs.Recordings.{EachMayExpire, MayExpire, Place, expired_all, Apart, AreMissing, HaveTries, Spot, at_spot, expired_at, fetched_at, lane_spots, spots}
use Rattle.xet_ties.proofs.Telling.{count-append, count-same, expired-push}

-- ---- one event

-- an event that plans, admits and writes nothing and isn't an end leaves the unfinished terms
pub record IsStill (e : Event) : Type 0 where
  pub terms : tasks_in e ≡ []
  pub admits : is_admit e ≡ false
  pub takes : taken_in e ≡ 0
  pub error : error_in e ≡ None

pub unfinished-push : (es : List Event) (e : Event) → IsStill e → unfinished (es ++ e ∷ []) ≡ unfinished es
unfinished-push es e s =
    let w : written (es ++ e ∷ []) ≡ written es = (let p = written-push es e in let t = s.takes in omega (arith, p, t)) in
    let a : count_by is_admit (es ++ e ∷ []) ≡ count_by is_admit es = count-same is_admit es e s.admits in
    let p : planned (es ++ e ∷ []) ≡ planned es = planned-push es e ∙ ap (λ (l : List Task). planned es ++ l) s.terms ∙ append-nil (planned es) in
    ap (λ (k : ℕ). filter (has_more k) (ended 0 (take (count_by is_admit (es ++ e ∷ [])) (planned (es ++ e ∷ []))))) w
    ∙ ap (λ (k : ℕ). filter (has_more (written es)) (ended 0 (take k (planned (es ++ e ∷ []))))) a
    ∙ ap (λ (l : List Task). filter (has_more (written es)) (ended 0 (take (count_by is_admit es) l))) p

any_push : {A : Type 0} (f : A → Bool) (xs : List A) (x : A) → f x ≡ false → list_any f xs ≡ false → list_any f (xs ++ x ∷ []) ≡ false
any_push f [] x h k = or_none (f x) h
  where
    or_none : (v : Bool) → v ≡ false → (v || false) ≡ false
    or_none false e = refl
    or_none true e = absurd (cc)
any_push f (y ∷ xs) x h k = by (λ i. any_push f xs x h i) (f y) refl k
  where
    by : (list_any f xs ≡ false → list_any f (xs ++ x ∷ []) ≡ false) → (v : Bool) → f y ≡ v → (f y || list_any f xs) ≡ false → (f y || list_any f (xs ++ x ∷ [])) ≡ false
    by more true e i = absurd (let z : (true || list_any f xs) ≡ false = subst (λ (v : Bool). (v || list_any f xs) ≡ false) e i in cc)
    by more false e i = subst (λ (v : Bool). (v || list_any f (xs ++ x ∷ [])) ≡ false) (sym e) (more (subst (λ (v : Bool). (v || list_any f xs) ≡ false) e i))

pub missing-push : (es : List Event) (e : Event) (p k : ℕ) → IsStill e → keeps p k e ≡ false → IsMissing es p k → IsMissing (es ++ e ∷ []) p k
missing-push es e p k s off m = record {
  wanted = ap (λ l. list_any (λ c. needs p k c.1) l) (unfinished-push es e s) ∙ m.wanted;
  absent = any_push (keeps p k) es e off m.absent;
}

pub running-push : (es : List Event) (e : Event) → IsStill e → IsRunning es → IsRunning (es ++ e ∷ [])
running-push es e s r = error-push es e ∙ joined (first_error es) r
  where
    joined : (o : _) → o ≡ None → option_or o (error_in e) ≡ None
    joined o h = ap (λ v. option_or v (error_in e)) h ∙ s.error

-- ---- many events

apart_rest : (t : Spot) (ts : List Spot) → Apart (t ∷ ts) → Apart ts
apart_rest t ts a p k = let h = a p k in let c = count_by-cons (at_spot p k) t ts in omega (arith, h, c)

same_spot : (t : Spot) → at_spot t.1 t.2 t ≡ true
same_spot t = ap (λ (v : Bool). v && (t.2 == t.2)) (eq-eqb t.1 t.1 refl) ∙ eq-eqb t.2 t.2 refl

apart_first : (t : Spot) (ts : List Spot) → Apart (t ∷ ts) → count_by (at_spot t.1 t.2) ts ≡ 0
apart_first t ts a =
    let h = a t.1 t.2 in
    let c = count_by-cons (at_spot t.1 t.2) t ts in
    let o = ap {B = ℕ} (λ (v : Bool). cond v 1 0) (same_spot t) in
    omega (arith, h, c, o)

none_first : (p k : ℕ) (t : Spot) (ts : List Spot) → count_by (at_spot p k) (t ∷ ts) ≡ 0 → (at_spot p k t ≡ false) × (count_by (at_spot p k) ts ≡ 0)
none_first p k t ts h = go (at_spot p k t) refl
  where
    c : count_by (at_spot p k) (t ∷ ts) ≡ cond (at_spot p k t) 1 0 + count_by (at_spot p k) ts
    c = count_by-cons (at_spot p k) t ts

    go : (v : Bool) → at_spot p k t ≡ v → (at_spot p k t ≡ false) × (count_by (at_spot p k) ts ≡ 0)
    go false e = (e, let o = ap {B = ℕ} (λ (v : Bool). cond v 1 0) e in omega (arith, h, c, o))
    go true e = absurd (let o = ap {B = ℕ} (λ (v : Bool). cond v 1 0) e in omega (arith, h, c, o))

still_missing : (es : List Event) (lane p k : ℕ) (ts : List Spot) → count_by (at_spot p k) ts ≡ 0 → AreMissing es ts → AreMissing (es ++ Fetched lane p k ∷ []) ts
still_missing es lane p k [] h m = tt
still_missing es lane p k (t ∷ ts) h m =
    let n = none_first p k t ts h in
    (missing-push es (Fetched lane p k) t.1 t.2 (record { terms = refl; admits = refl; takes = refl; error = refl }) n.0 m.0, still_missing es lane p k ts n.1 m.1)

still_after : (es : List Event) (lane p k : ℕ) (ts : List Spot) → AreMissing es ts → AreMissing (es ++ Expired lane p k ∷ []) ts
still_after es lane p k [] m = tt
still_after es lane p k (t ∷ ts) m = (missing-push es (Expired lane p k) t.1 t.2 (record { terms = refl; admits = refl; takes = refl; error = refl }) refl m.0, still_after es lane p k ts m.1)

-- missing blocks of which no two are one may be recorded as fetched, in any order
pub fetched_allowed : (es : List Event) (ts : List Spot) → IsRunning es → AreMissing es ts → Apart ts → AllowedAfter es (fetched_at ts)
fetched_allowed es [] r m a = tt
fetched_allowed es (t ∷ ts) r m a =
    let e : Event = Fetched t.0 t.1 t.2 in
    ((r, m.0), fetched_allowed (es ++ e ∷ []) ts (running-push es e (record { terms = refl; admits = refl; takes = refl; error = refl }) r) (still_missing es t.0 t.1 t.2 ts (apart_first t ts a) m.1) (apart_rest t ts a))

-- and as expired
pub expired_allowed : (es : List Event) (ts : List Spot) → IsRunning es → AreMissing es ts → AllowedAfter es (expired_at ts)
expired_allowed es [] r m = tt
expired_allowed es (t ∷ ts) r m =
    let e : Event = Expired t.0 t.1 t.2 in
    ((r, m.0), expired_allowed (es ++ e ∷ []) ts (running-push es e (record { terms = refl; admits = refl; takes = refl; error = refl }) r) (still_after es t.0 t.1 t.2 ts m.1))

-- those that aren't fetched stay missing after the fetched ones
pub missing_after : (es : List Event) (fs ts : List Spot) → AreMissing es ts → ((p k : ℕ) → count_by (at_spot p k) fs + count_by (at_spot p k) ts ≤ 1) → AreMissing (es ++ fetched_at fs) ts
missing_after es [] ts m a = subst (λ (l : List Event). AreMissing l ts) (sym (append-nil es)) m
missing_after es (f ∷ fs) ts m a =
    let e : Event = Fetched f.0 f.1 f.2 in
    let none : count_by (at_spot f.1 f.2) ts ≡ 0 = (let h = a f.1 f.2 in let c = count_by-cons (at_spot f.1 f.2) f fs in let o = ap {B = ℕ} (λ (v : Bool). cond v 1 0) (same_spot f) in omega (arith, h, c, o)) in
    subst (λ (l : List Event). AreMissing l ts) (append_assoc es (e ∷ []) (fetched_at fs))
    (missing_after (es ++ e ∷ []) fs ts (still_missing es f.0 f.1 f.2 ts none m) (λ p k. let h = a p k in let c = count_by-cons (at_spot p k) f fs in omega (arith, h, c)))

-- ---- tries

still_tries : (tries : ℕ) (es : List Event) (lane p k : ℕ) (ts : List Spot) → count_by (at_spot p k) ts ≡ 0 → HaveTries tries es ts → HaveTries tries (es ++ Expired lane p k ∷ []) ts
still_tries tries es lane p k [] h m = tt
still_tries tries es lane p k (t ∷ ts) h m =
    let n = none_first p k t ts h in
    let e : Event = Expired lane p k in
    let c = count-same (expires t.1 t.2) es e n.0 in
    let l = m.1 in (
      expired-push es e t.1 t.2 (ap (λ (v : Bool). cond v (true ∷ []) []) n.0) ∙ m.0,
      omega (arith, c, l),
      still_tries tries es lane p k ts n.1 m.2,
    )

pub may_expire : (tries lane : ℕ) (es : List Event) (cs : List Place) → HaveTries tries es (spots lane cs) → Apart (spots lane cs) → MayExpire tries lane es cs
may_expire tries lane es [] h a = tt
may_expire tries lane es (c ∷ cs) h a =
    (h.0, h.1, may_expire tries lane (es ++ Expired lane c.0 c.1 ∷ []) cs (still_tries tries es lane c.0 c.1 (spots lane cs) (apart_first (lane, c.0, c.1) (spots lane cs) a) h.2) (apart_rest (lane, c.0, c.1) (spots lane cs) a))

tries_after : (tries : ℕ) (es : List Event) (fs ts : List Spot) → HaveTries tries es ts → ((p k : ℕ) → count_by (at_spot p k) fs + count_by (at_spot p k) ts ≤ 1) → HaveTries tries (es ++ expired_at fs) ts
tries_after tries es [] ts m a = subst (λ (l : List Event). HaveTries tries l ts) (sym (append-nil es)) m
tries_after tries es (f ∷ fs) ts m a =
    let e : Event = Expired f.0 f.1 f.2 in
    let none : count_by (at_spot f.1 f.2) ts ≡ 0 = (let h = a f.1 f.2 in let c = count_by-cons (at_spot f.1 f.2) f fs in let o = ap {B = ℕ} (λ (v : Bool). cond v 1 0) (same_spot f) in omega (arith, h, c, o)) in
    subst (λ (l : List Event). HaveTries tries l ts) (append_assoc es (e ∷ []) (expired_at fs))
    (tries_after tries (es ++ e ∷ []) fs ts (still_tries tries es f.0 f.1 f.2 ts none m) (λ p k. let h = a p k in let c = count_by-cons (at_spot p k) f fs in omega (arith, h, c)))

-- ---- all lanes

expired_spots : (lane : ℕ) (cs : List Place) → expired_all lane cs ≡ expired_at (spots lane cs)
expired_spots lane [] = refl
expired_spots lane (c ∷ cs) = ap (λ (l : List Event). Expired lane c.0 c.1 ∷ l) (expired_spots lane cs)

count_both : (p k : ℕ) (xs ys : List Spot) → count_by (at_spot p k) (xs ++ ys) ≡ count_by (at_spot p k) xs + count_by (at_spot p k) ys
count_both p k xs ys = count-append (at_spot p k) xs ys

tries_first : (tries : ℕ) (es : List Event) (xs ys : List Spot) → HaveTries tries es (xs ++ ys) → HaveTries tries es xs × HaveTries tries es ys
tries_first tries es [] ys h = (tt, h)
tries_first tries es (x ∷ xs) ys h = let r = tries_first tries es xs ys h.2 in ((h.0, h.1, r.0), r.1)

-- so all lanes' expired answers may be recorded, one after another
pub lanes_may_expire : (tries lane : ℕ) (es : List Event) (css : List (List Place)) → HaveTries tries es (lane_spots lane css) → Apart (lane_spots lane css) → EachMayExpire tries lane es css
lanes_may_expire tries lane es [] h a = tt
lanes_may_expire tries lane es (cs ∷ css) h a =
    let r = tries_first tries es (spots lane cs) (lane_spots (lane + 1) css) h in
    let both : (p k : ℕ) → count_by (at_spot p k) (spots lane cs) + count_by (at_spot p k) (lane_spots (lane + 1) css) ≤ 1 = (λ p k. let c = count_both p k (spots lane cs) (lane_spots (lane + 1) css) in let b = a p k in omega (arith, c, b)) in (
      may_expire tries lane es cs r.0 (λ p k. let b = both p k in omega (arith, b)),
      lanes_may_expire tries (lane + 1) (es ++ expired_all lane cs) css
          (subst (λ (l : List Event). HaveTries tries (es ++ l) (lane_spots (lane + 1) css)) (sym (expired_spots lane cs)) (tries_after tries es (spots lane cs) (lane_spots (lane + 1) css) r.1 both))
          (λ p k. let b = both p k in omega (arith, b)),
    )
