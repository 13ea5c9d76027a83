-- A stream after a block's URL had expired, and its plan was asked for again.
use Rattle.std.proofs.Common.{◌≡◌, ℕ, zero, suc, ◌+◌, ◌-◌, ◌<◌, ◌==◌, Bool, true, false, cond, List, [], ◌∷◌, ◌++◌, length, refl, sym, subst, ◌∙◌, ap, arith, Some, Ok}
use Rattle.std.specs.Prelude.{filter, nat_lt, slice_get, slice_index, slice_set}
use Rattle.std.specs.Vec.{with_item}
use Rattle.std.proofs.lemmas.Bool.{eq-eqb}
use Rattle.xet_outside.specs.Told.{CacheTold, ClientTold}
use Rattle.xet_events.specs.declared.event.Event.{Event}
use Rattle.xet_events.specs.declared.event.Event.TheVariants.{Expired, Refreshed}
use Rattle.xet_events.specs.Allowed.{IsAllowed, IsMissing, IsRunning}
use Rattle.xet_events.specs.Events.{is_stale, last_of}
use Rattle.xet_events.proofs.CallerLemmas.{stale-push}
use Rattle.xet_ties.specs.Recordings.{Place}
use Rattle.xet_ties.specs.Setup.{ClientGoesOn, EachGoesOn, RunTold, Setup}
use Rattle.xet_ties.proofs.CallerLemmas.{running-push}
use Rattle.xet_leader.specs.declared.leader.LedPlan.{LedPlan}
use Rattle.xet_leader.specs.declared.missing_blocks.BlockAt.{BlockAt}
use Rattle.xet_leader.specs.ByNumber.{change_at, only, plan_index}
use Rattle.xet_leader.specs.Expiries.{counted_one, one_more}
use Rattle.xet_leader.specs.Led.{Led}
use Rattle.xet_stream_rules.specs.Streams.{Carries}
use Rattle.xet_stream_blocks.specs.steps.Fetching.{Renews}
use Rattle.xet_stream_rules.specs.Moments.{Goes, Lasts, at}
use Rattle.xet_stream_blocks.proofs.FetchedBlocks.{recounted}
use Rattle.xet_stream_rules.proofs.CallerLemmas.{each_same, lasts_still, lasts_then}
use Rattle.xet_stream_rules.proofs.CallerLemmas.{carries_late}

-- ---- plans that are counted

number_same : (k : ℕ) (l : LedPlan) → (one_more k l).number ≡ l.number
number_same k l = by (nat_lt k (length l.tries.items))
  where
    by : (v : Bool) → (cond v (record l { tries = with_item l.tries k (slice_index l.tries.items k + 1) }) l).number
        ≡ l.number
    by true = refl
    by false = refl

only_same : (p k : ℕ) (l : LedPlan) → (only p (one_more k) l).number ≡ l.number
only_same p k l = by (l.number == p)
  where
    by : (v : Bool) → (cond v (one_more k l) l).number ≡ l.number
    by true = number_same k l
    by false = refl

length_change : {A : Type 0} (f : A → A) (i : ℕ) (xs : List A) → length (change_at i f xs) ≡ length xs
length_change f i [] = refl
length_change f zero (x ∷ xs) = refl
length_change f (suc i) (x ∷ xs) = ap suc (length_change f i xs)

index_change : (p k i q : ℕ) (ls : List LedPlan)
    → plan_index (change_at i (only p (one_more k)) ls) q ≡ plan_index ls q
index_change p k i q [] = refl
index_change p k zero q (l ∷ ls) = ap (λ (n : ℕ). q - n) (only_same p k l)
index_change p k (suc i) q (l ∷ ls) = refl

-- a plan of a number stays within the plans
pub within_counted : (c : Place) (ls : List LedPlan) (p : ℕ) → plan_index ls p < length ls
    → plan_index (counted_one c ls) p < length (counted_one c ls)
within_counted c ls p h =
    let i = index_change c.0 c.1 (plan_index ls c.0) p ls in
    let n = length_change (only c.0 (one_more c.1)) (plan_index ls c.0) ls in
    omega (arith, i, n, h)

-- ---- what may be recorded

-- a plan with a block that expired just now is stale
pub stale_now : (es : List Event) (lane p k : ℕ) → is_stale (es ++ Expired lane p k ∷ []) p ≡ true
stale_now es lane p k = stale-push es (Expired lane p k) p ∙ by (p == p) (eq-eqb p p refl)
  where
    by : (v : Bool) → v ≡ true → last_of (is_stale es p) (filter (λ _. v) (true ∷ [])) ≡ true
    by true h = refl
    by false h = absurd (cc)

pub running_late : (es : List Event) (lane p k : ℕ) → IsRunning es → IsRunning (es ++ Expired lane p k ∷ [])
running_late es lane p k r =
    running-push es (Expired lane p k) (record { terms = refl; admits = refl; takes = refl; error = refl }) r

pub refresh_may : (es : List Event) (lane p k : ℕ) → IsRunning es
    → IsAllowed (es ++ Expired lane p k ∷ []) (Refreshed p)
refresh_may es lane p k r = (running_late es lane p k r, stale_now es lane p k)

-- ---- the answer was that it expired

-- whatever came of it, what was told is told still
pub lasts_late : (g : Setup) (es : List Event) (l k : Led) (cs ds : List ClientTold) (t : CacheTold) (lane p j : ℕ)
    → EachGoesOn cs ds → Lasts g (at es l cs t) (at (es ++ Expired lane p j ∷ []) k ds t)
lasts_late g es l k cs ds t lane p j on =
    lasts_still g (at es l cs t) (at (es ++ Expired lane p j ∷ []) k ds t) (Expired lane p j) refl
    (record { tasks = refl; query = refl; wrote = refl }) (λ s. tt) on (λ s o h. h)

pub lasts_renewed : (g : Setup) (es : List Event) (l k : Led) (cs ds : List ClientTold) (t : CacheTold) (p : ℕ)
    → EachGoesOn cs ds → Lasts g (at es l cs t) (at (es ++ Refreshed p ∷ []) k ds t)
lasts_renewed g es l k cs ds t p on =
    lasts_still g (at es l cs t) (at (es ++ Refreshed p ∷ []) k ds t) (Refreshed p) refl
    (record { tasks = refl; query = refl; wrote = refl }) (λ s. tt) on (λ s o h. h)

module _ (g : Setup) (es : List Event) (l : Led) (a : BlockAt) (missing : IsMissing es a.plan a.block)
    (lane next : ℕ) (multi : Bool) (cs ds : List ClientTold) (first last : ClientTold) (others : List ClientTold)
    (on : EachGoesOn cs ds) (is : ds ≡ first ∷ others) (t : CacheTold) (fs : List Event) (k : Led)
    (r : Renews lane a g.tries multi first last es fs (record l { fetches = next }) k (Ok tt)) where
  first_on : ClientGoesOn first last
  first_on =
      let m = r.call.call.call.may in
      record { store = m.store; link = m.link; faults = m.faults; expiries = m.expiries }

  last_on : EachGoesOn ds (last ∷ others)
  last_on = subst (λ (xs : List ClientTold). EachGoesOn xs (last ∷ others)) (sym is) (first_on, each_same others)

  events_are : fs ≡ (es ++ Expired lane a.plan a.block ∷ []) ++ Refreshed a.plan ∷ []
  events_are = r.call.call.call.recorded

  plans_are : r.middle.plans ≡ counted_one (a.plan, a.block) l.plans
  plans_are = r.counted.counts.counted

  carries : (b : RunTold) → Carries b g es l → Carries b g fs k
  carries b c =
      let z = r.call.call in
      let place = plan_index r.middle.plans a.plan in
      let late = carries_late b g es l c lane a.plan a.block r.counted.counts.left missing place z.plan z.block first last
      multi (subst (λ (ls : List LedPlan). slice_get ls place ≡ Some z.plan) plans_are z.at) z.call.took in
      let now : k.plans ≡ slice_set (counted_one (a.plan, a.block) l.plans) place (record z.plan { block = z.block }) =
      z.plans ∙ ap (λ (ls : List LedPlan). slice_set ls place (record z.plan { block = z.block })) plans_are in
      let same : k ≡ record l { fetches = next; plans = k.plans } =
      r.call.led ∙ ap (λ (m : Led). record m { plans = k.plans }) r.counted.led in
      let led : k ≡ record l {
        fetches = next;
        plans = slice_set (counted_one (a.plan, a.block) l.plans) place (record z.plan { block = z.block });
      } = same ∙ ap (λ (ls : List LedPlan). record l { fetches = next; plans = ls }) now in
      subst (λ (e : List Event). Carries b g e k) (sym events_are)
      (subst (λ (m : Led). Carries b g ((es ++ Expired lane a.plan a.block ∷ []) ++ Refreshed a.plan ∷ []) m) (sym led)
      (recounted b g ((es ++ Expired lane a.plan a.block ∷ []) ++ Refreshed a.plan ∷ [])
      (record l { plans = slice_set (counted_one (a.plan, a.block) l.plans) place (record z.plan { block = z.block }) })
      next late))

  pub late_goes : Goes g (at es l cs t) (at fs k (last ∷ others) t)
  late_goes = record {
    lasts = subst (λ (e : List Event). Lasts g (at es l cs t) (at e k (last ∷ others) t)) (sym events_are)
        (lasts_then g (at es l cs t) (at (es ++ Expired lane a.plan a.block ∷ []) k ds t)
        (at ((es ++ Expired lane a.plan a.block ∷ []) ++ Refreshed a.plan ∷ []) k (last ∷ others) t)
        (lasts_late g es l k cs ds t lane a.plan a.block on)
        (lasts_renewed g (es ++ Expired lane a.plan a.block ∷ []) k k ds (last ∷ others) t a.plan last_on));
    carries = λ b told c. carries b c;
  }
