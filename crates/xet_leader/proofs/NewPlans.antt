-- A history has nothing of a plan that comes after all of its own.
use Rattle.std.proofs.Common.{◌≡◌, ℕ, zero, suc, ◌+◌, ◌-◌, ◌<◌, ◌==◌, ◌&&◌, ◌||◌, Bool, true, false, cond, List, [], ◌∷◌, ◌++◌, take, refl, sym, subst, ◌∙◌, ap, arith, Option, Some, None}
use Rattle.std.specs.Prelude.{count_by, filter, map}
use Rattle.std.specs.List.{flat_map, list_any}
use Rattle.std.specs.Option.{option_or}
use Rattle.std.proofs.lemmas.Bool.{false≢true, ne_eqb}
use Rattle.std.proofs.lemmas.List.{map-append}
use Rattle.std.proofs.lemmas.List.Folds.{list_any-append}
use Rattle.xet_base.specs.declared.cas_types.FileRange.{FileRange}
use Rattle.xet_base.specs.Lists.{first_some}
use Rattle.xet_events.specs.declared.event.Event.{Event}
use Rattle.xet_events.specs.declared.event.Event.TheVariants.{Planned, Admit, Fetched, Cached, Expired, Refreshed, Wrote, Fail, Cancel}
use Rattle.xet_events.specs.declared.event.PlannedBlock.{PlannedBlock}
use Rattle.xet_events.specs.declared.event.PlannedTerm.{PlannedTerm}
use Rattle.xet_events.specs.Allowed.{IsAllowed, IsAllowedHistory, IsMissing}
use Rattle.xet_events.specs.Events.{Task, admitted, ended, expires, has_more, is_admit, is_kept, is_plan, keeps, last_of, needs, plan_count, planned, tasks_in, tasks_of, written}
use Rattle.xet_events.proofs.CallerLemmas.{any-push, first_some-push, flat-push, kept_along, last_of-append, planned-push}
use Rattle.xet_ties.specs.History.{actual_range, blocks_in, expiry_of, is_expired, range_in}
use Rattle.xet_ties.proofs.CallerLemmas.{count-more, count-same, expired-push}

-- the term is of this plan
abbrev pub of_plan : ℕ → Task → Bool
of_plan p t = t.plan == p

-- no event is of this plan
pub record NoneOf (es : List Event) (p : ℕ) : Type 0 where
  pub blocks : first_some (map (blocks_in p) es) ≡ None
  pub ranges : first_some (map (range_in p) es) ≡ None
  pub tasks : list_any (of_plan p) (planned es) ≡ false
  pub kept : (k : ℕ) → is_kept es p k ≡ false
  pub expiries : (k : ℕ) → count_by (expires p k) es ≡ 0
  pub expired : (k : ℕ) → is_expired es p k ≡ false

or_right : (v w : Bool) → w ≡ true → (v || w) ≡ true
or_right true w e = refl
or_right false w e = e

-- ---- a missing block is of a planned term

any_ended : (p k place : ℕ) (ts : List Task) → list_any (λ c. needs p k c.1) (ended place ts) ≡ true
    → list_any (of_plan p) ts ≡ true
any_ended p k place [] h = h
any_ended p k place (t ∷ ts) h = go (t.plan == p) (t.term.block == k) h
    (λ e. any_ended p k (place + (t.term.byte_range.end - t.term.byte_range.start)) ts e)
  where
    go : (a b : Bool) → ((a && b) || list_any (λ c. needs p k c.1)
        (ended (place + (t.term.byte_range.end - t.term.byte_range.start)) ts)) ≡ true
        → (list_any (λ c. needs p k c.1) (ended (place + (t.term.byte_range.end - t.term.byte_range.start)) ts) ≡ true
        → list_any (of_plan p) ts ≡ true) → (a || list_any (of_plan p) ts) ≡ true
    go true b e next = refl
    go false b e next = next e

pub any_filter : {A : Type 0} (p f : A → Bool) (xs : List A) → list_any p (filter f xs) ≡ true → list_any p xs ≡ true
any_filter p f [] h = h
any_filter p f (x ∷ xs) h = go (f x) h (λ e. any_filter p f xs e)
  where
    go : (b : Bool) → list_any p (cond b (x ∷ filter f xs) (filter f xs)) ≡ true
        → (list_any p (filter f xs) ≡ true → list_any p xs ≡ true) → (p x || list_any p xs) ≡ true
    go true e next = either (p x) e next
      where
        either : (v : Bool) → (v || list_any p (filter f xs)) ≡ true
            → (list_any p (filter f xs) ≡ true → list_any p xs ≡ true) → (v || list_any p xs) ≡ true
        either true e next = refl
        either false e next = next e
    go false e next = or_right (p x) (list_any p xs) (next e)

pub any_take : {A : Type 0} (p : A → Bool) (n : ℕ) (xs : List A) → list_any p (take n xs) ≡ true
    → list_any p xs ≡ true
any_take p zero xs h = absurd (false≢true h)
any_take p (suc n) [] h = h
any_take p (suc n) (x ∷ xs) h = go (p x) h (λ e. any_take p n xs e)
  where
    go : (v : Bool) → (v || list_any p (take n xs)) ≡ true → (list_any p (take n xs) ≡ true → list_any p xs ≡ true)
        → (v || list_any p xs) ≡ true
    go true e next = refl
    go false e next = next e

-- so it isn't of a plan without terms
missing_other : (es : List Event) (p plan k : ℕ) → list_any (of_plan p) (planned es) ≡ false → IsMissing es plan k
    → (plan == p) ≡ false
missing_other es p plan k none m = ne_eqb plan p
    (λ e. false≢true (sym none ∙ ap (λ (n : ℕ). list_any (of_plan n) (planned es)) (sym e) ∙ some))
  where
    some : list_any (of_plan plan) (planned es) ≡ true
    some =
        any_take (of_plan plan) (count_by is_admit es) (planned es)
        (any_ended plan k 0 (admitted es) (any_filter (λ c. needs plan k c.1) (has_more (written es))
        (ended 0 (admitted es)) m.wanted))

-- ---- one event more

-- of an event that is of other plans alone
record IsOther (p : ℕ) (e : Event) : Type 0 where
  blocks : blocks_in p e ≡ None
  ranges : range_in p e ≡ None
  tasks : list_any (of_plan p) (tasks_in e) ≡ false
  kept : (k : ℕ) → keeps p k e ≡ false
  expiries : (k : ℕ) → expires p k e ≡ false

first_none : {B : Type 0} (f : Event → Option B) (es : List Event) (e : Event) → first_some (map f es) ≡ None
    → f e ≡ None → first_some (map f (es ++ e ∷ [])) ≡ None
first_none {B} f es e h k =
    ap (λ (l : List (Option B)). first_some l) (map-append f es (e ∷ [])) ∙ first_some-push (map f es) (f e)
    ∙ ap (λ (o : Option B). option_or o (f e)) h ∙ k

or_none : (v w : Bool) → v ≡ false → w ≡ false → (v || w) ≡ false
or_none v w a b = ap (λ (x : Bool). x || w) a ∙ b

none_push : (p : ℕ) (es : List Event) (e : Event) → NoneOf es p → IsOther p e
    → ((k : ℕ) → is_expired (es ++ e ∷ []) p k ≡ false) → NoneOf (es ++ e ∷ []) p
none_push p es e n o expired = record {
  blocks = first_none (blocks_in p) es e n.blocks o.blocks;
  ranges = first_none (range_in p) es e n.ranges o.ranges;
  tasks = ap (list_any (of_plan p)) (planned-push es e) ∙ list_any-append (of_plan p) (planned es) (tasks_in e)
      ∙ or_none _ _ n.tasks o.tasks;
  kept = λ k. any-push (keeps p k) es e ∙ or_none _ _ (n.kept k) (o.kept k);
  expiries = λ k. count-same (expires p k) es e (o.expiries k) ∙ n.expiries k;
  expired = expired;
}

-- it expires none
still_fresh : (p : ℕ) (es : List Event) (e : Event) → NoneOf es p → ((k : ℕ) → expiry_of p k e ≡ []) → (k : ℕ)
    → is_expired (es ++ e ∷ []) p k ≡ false
still_fresh p es e n none k = expired-push es e p k (none k) ∙ n.expired k

and_left : (v w : Bool) → v ≡ false → (v && w) ≡ false
and_left v w e = ap (λ (x : Bool). x && w) e

none_tasks : (p plan : ℕ) (bs : List PlannedBlock) (ts : List PlannedTerm) → (plan == p) ≡ false
    → list_any (of_plan p) (tasks_of plan ts bs) ≡ false
none_tasks p plan bs [] e = refl
none_tasks p plan bs (t ∷ ts) e = or_none (plan == p) _ e (none_tasks p plan bs ts e)

-- a refresh leaves none expired
refreshed_fresh : (p plan : ℕ) (es : List Event) → NoneOf es p → (k : ℕ)
    → is_expired (es ++ Refreshed plan ∷ []) p k ≡ false
refreshed_fresh p plan es n k =
    ap (λ (l : List Bool). last_of false l) (flat-push (expiry_of p k) es (Refreshed plan))
    ∙ last_of-append false (flat_map (expiry_of p k) es) (cond (plan == p) (false ∷ []) []) ∙ go (plan == p)
  where
    go : (b : Bool) → last_of (is_expired es p k) (cond b (false ∷ []) []) ≡ false
    go true = refl
    go false = n.expired k

-- all plans so far have lower numbers
abbrev Lower : List Event → Type 0
Lower es = (p : ℕ) → plan_count es < p → NoneOf es p

-- an event that plans, keeps and expires nothing
plain : (p : ℕ) (es : List Event) (e : Event) → is_plan e ≡ false → IsOther p e → ((k : ℕ) → expiry_of p k e ≡ [])
    → Lower es → plan_count (es ++ e ∷ []) < p → NoneOf (es ++ e ∷ []) p
plain p es e other o none low h =
    let n : NoneOf es p = low p (subst (λ (c : ℕ). c < p) (count-same is_plan es e other) h) in
    none_push p es e n o (still_fresh p es e n none)

-- one that is of a missing block
of_missing : (p plan k : ℕ) (es : List Event) (e : Event) → is_plan e ≡ false → IsMissing es plan k → Lower es
    → plan_count (es ++ e ∷ []) < p → (plan == p) ≡ false
of_missing p plan k es e other m low h = missing_other es p plan k
    (low p (subst (λ (c : ℕ). c < p) (count-same is_plan es e other) h)).tasks m

step : (es : List Event) (e : Event) → IsAllowed es e → Lower es → Lower (es ++ e ∷ [])
step es (Planned plan q ts bs) a low p h =
    let more : plan_count (es ++ Planned plan q ts bs ∷ []) ≡ plan_count es + 1 =
    count-more is_plan es (Planned plan q ts bs) refl in
    let n : NoneOf es p = low p (omega (arith, h, more)) in
    let is : plan ≡ plan_count es + 1 = a.1 in
    let other : (plan == p) ≡ false = ne_eqb plan p (λ e. let z : plan ≡ p = e in
    absurd (omega (arith, z, is, h, more))) in
    none_push p es (Planned plan q ts bs) n
    (record {
      blocks = ap (λ (b : Bool). cond {A = Option (List PlannedBlock)} b (Some bs) None) other;
      ranges = ap (λ (b : Bool). cond {A = Option FileRange} b (Some (actual_range q ts)) None) other;
      tasks = none_tasks p plan bs ts other;
      kept = λ k. refl;
      expiries = λ k. refl;
    })
    (still_fresh p es (Planned plan q ts bs) n (λ k. refl))
step es (Admit limit) a low p h = plain p es (Admit limit) refl
    (record { blocks = refl; ranges = refl; tasks = refl; kept = λ k. refl; expiries = λ k. refl }) (λ k. refl) low h
step es (Fetched lane plan block) a low p h =
    let e : Event = Fetched lane plan block in
    let other = of_missing p plan block es e refl a.1 low h in
    plain p es e refl (record {
      blocks = refl;
      ranges = refl;
      tasks = refl;
      kept = λ k. and_left (plan == p) (block == k) other;
      expiries = λ k. refl;
    }) (λ k. refl) low h
step es (Cached plan block) a low p h =
    let e : Event = Cached plan block in
    let other = of_missing p plan block es e refl a.1 low h in
    plain p es e refl (record {
      blocks = refl;
      ranges = refl;
      tasks = refl;
      kept = λ k. and_left (plan == p) (block == k) other;
      expiries = λ k. refl;
    }) (λ k. refl) low h
step es (Expired lane plan block) a low p h =
    let e : Event = Expired lane plan block in
    let other = of_missing p plan block es e refl a.1 low h in
    plain p es e refl (record {
      blocks = refl;
      ranges = refl;
      tasks = refl;
      kept = λ k. refl;
      expiries = λ k. and_left (plan == p) (block == k) other;
    })
    (λ k. ap (λ (b : Bool). cond {A = List Bool} b (true ∷ []) []) (and_left (plan == p) (block == k) other)) low h
step es (Refreshed plan) a low p h =
    let n : NoneOf es p = low p (subst (λ (c : ℕ). c < p) (count-same is_plan es (Refreshed plan) refl) h) in
    none_push p es (Refreshed plan) n (record {
      blocks = refl;
      ranges = refl;
      tasks = refl;
      kept = λ k. refl;
      expiries = λ k. refl;
    }) (refreshed_fresh p plan es n)
step es (Wrote taken) a low p h = plain p es (Wrote taken) refl
    (record { blocks = refl; ranges = refl; tasks = refl; kept = λ k. refl; expiries = λ k. refl }) (λ k. refl) low h
step es (Fail error) a low p h = plain p es (Fail error) refl
    (record { blocks = refl; ranges = refl; tasks = refl; kept = λ k. refl; expiries = λ k. refl }) (λ k. refl) low h
step es Cancel a low p h = plain p es Cancel refl
    (record { blocks = refl; ranges = refl; tasks = refl; kept = λ k. refl; expiries = λ k. refl }) (λ k. refl) low h

none_start : Lower []
none_start p h = record {
  blocks = refl;
  ranges = refl;
  tasks = refl;
  kept = λ k. refl;
  expiries = λ k. refl;
  expired = λ k. refl;
}

pub none_later : (es : List Event) (p : ℕ) → IsAllowedHistory es → plan_count es < p → NoneOf es p
none_later es p a h = kept_along Lower step none_start es a p h
