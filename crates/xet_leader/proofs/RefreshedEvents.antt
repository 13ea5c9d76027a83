-- A leader after the URLs of a plan were asked for again.
use Rattle.std.proofs.Common.{◌≡◌, ℕ, zero, suc, ◌+◌, ◌<◌, Bool, true, false, cond, List, [], ◌∷◌, ◌++◌, length, get_or, refl, sym, subst, ◌∙◌, ap, arith, inl, inr, ⊎_elim, Option, None, Some}
use Rattle.std.specs.Prelude.{All, Contains, map, ◌==◌, ◌⊎◌, count_by, nat_eq, slice_get, option_map}
use Rattle.std.specs.List.{flat_map, slice_set}
use Rattle.std.proofs.lemmas.List.{length-map}
use Rattle.std.proofs.lemmas.List.Elements.{All-set}
use Rattle.std.proofs.lemmas.Option.{get_or_from_slice_get, slice_get_within}
use borrow.Author.Tests.{eqb-false, eqb-true}
use Rattle.xet_base.specs.Lists.{first_some}
use Rattle.xet_outside.specs.declared.plan.FetchRange.{FetchRange}
use Rattle.xet_outside.specs.Plan.{shape}
use Rattle.xet_outside.specs.Told.{ClientTold}
use Rattle.xet_outside.proofs.CallerLemmas.{count_by-cons}
use Rattle.xet_error.specs.declared.error.Corruption.{Corruption}
use Rattle.xet_error.specs.declared.error.Corruption.TheVariants.{RefreshBlocks, RefreshPastEnd}
use Rattle.xet_error.specs.declared.error.FileReconstructionError.{FileReconstructionError}
use Rattle.xet_error.specs.declared.error.FileReconstructionError.TheVariants as error
use Rattle.xet_blocks.specs.declared.reconstruction_terms.file_term.TermBlock.{TermBlock}
use Rattle.xet_offers.specs.declared.reconstruction_terms.retrieval_urls.RetrievalUrl.{RetrievalUrl}
use Rattle.xet_offers.specs.declared.reconstruction_terms.xorb_block.XorbBlock.{XorbBlock}
use Rattle.xet_offers.specs.Blocks.{PlanBlock, block_ranges, blocks_of}
use Rattle.xet_offers.specs.PlanChecks.{covered, failed_test}
use Rattle.xet_blocks.specs.TermBlocks.{block_url, urls_of}
use Rattle.xet_fetch.specs.Refreshes.{Extent, blocks_test, extent_of, failed_refresh, first_difference, next_id, plan_extents, range_test, same_extent}
use Rattle.xet_events.specs.declared.event.Event.{Event}
use Rattle.xet_events.specs.declared.event.Event.TheVariants.{Refreshed}
use Rattle.xet_events.specs.Allowed.{IsRunning}
use Rattle.xet_events.specs.Events.{expires, is_stale, last_of}
use Rattle.xet_events.proofs.CallerLemmas.{flat-push, last_of-append, stale-push}
use Rattle.xet_ties.specs.History.{expiry_of, is_expired}
use Rattle.xet_ties.specs.Setup.{RunTold, Setup}
use Rattle.xet_ties.specs.Ties.{Slack}
use Rattle.xet_ties.proofs.CallerLemmas.{count-same, fetched_before, expired-push}
use Rattle.xet_parts.specs.PlanRefreshes.{TookUrls}
use Rattle.xet_leader.specs.declared.leader.LedPlan.{LedPlan}
use Rattle.xet_leader.specs.Led.{AreLedPlans, AreStale, EachLedBlock, IsCounted, IsLed, IsLedPlan, IsReady, Led}
use Rattle.xet_leader.proofs.AlikePlans.{IsAlike, alike_begins, alike_follow, alike_number, alike_set, alike_terms}
use Rattle.xet_leader.proofs.MoreTold.{TellsMore, led_more}
use Rattle.xet_leader.proofs.QuietEvents.{IsQuiet, quiet_counted, quiet_kept, quiet_manager, quiet_numbered, quiet_recorded, quiet_running, quiet_under}

-- ---- the words on histories

abbrev after : List Event → ℕ → List Event
after es p = es ++ Refreshed p ∷ []

is_quiet : (p : ℕ) → IsQuiet (Refreshed p)
is_quiet p = record { tasks = refl; plan = refl; query = refl; error = refl }

-- a block of the plan isn't expired after it, and other plans are as before
unexpired : (es : List Event) (p q k : ℕ) → (p == q) ≡ true → is_expired (after es p) q k ≡ false
unexpired es p q k h =
    ap (λ (l : List Bool). last_of false l) (flat-push (expiry_of q k) es (Refreshed p)
    ∙ ap (λ (v : Bool). flat_map (expiry_of q k) es ++ cond v (false ∷ []) []) h)
    ∙ last_of-append false (flat_map (expiry_of q k) es) (false ∷ [])

as_expired : (es : List Event) (p q k : ℕ) → (p == q) ≡ false → is_expired (after es p) q k ≡ is_expired es q k
as_expired es p q k h = expired-push es (Refreshed p) q k
    (ap (λ (v : Bool). cond {A = List Bool} v (false ∷ []) []) h)

as_stale : (es : List Event) (p q : ℕ) → (p == q) ≡ false → is_stale (after es p) q ≡ is_stale es q
as_stale es p q h = stale-push es (Refreshed p) q
    ∙ ap (λ (v : Bool). last_of (is_stale es q) (cond {A = List Bool} v (false ∷ []) [])) h

-- ---- plans that are stale

contains_rest : (p q : ℕ) (ps : List ℕ) (k : ℕ) → k < length (p ∷ ps) → get_or (p ∷ ps) k q ≡ q → (p ≡ q → ⊥)
    → Contains ps q
contains_rest p q ps zero h e n = absurd (n e)
contains_rest p q ps (suc k) h e n = (k, omega arith, e)

-- none of the others is this one
none_same : (p q : ℕ) (qs : List ℕ) → count_by (λ r. r == p) (q ∷ qs) ≡ 0
    → ((q == p) ≡ false) × (count_by (λ r. r == p) qs ≡ 0)
none_same p q qs h = by (q == p) refl
  where
    by : (v : Bool) → (q == p) ≡ v → ((q == p) ≡ false) × (count_by (λ r. r == p) qs ≡ 0)
    by true e =
        let c : count_by (λ r. r == p) (q ∷ qs) ≡ cond (q == p) 1 0 + count_by (λ r. r == p) qs =
        count_by-cons (λ r. r == p) q qs in
        let one : ◌≡◌ {A = ℕ} (cond {A = ℕ} (q == p) 1 0) 1 = ap (λ (v : Bool). cond {A = ℕ} v 1 0) e in
        absurd (omega (arith, c, one, h))
    by false e =
        let c : count_by (λ r. r == p) (q ∷ qs) ≡ cond (q == p) 1 0 + count_by (λ r. r == p) qs =
        count_by-cons (λ r. r == p) q qs in
        let one : ◌≡◌ {A = ℕ} (cond {A = ℕ} (q == p) 1 0) 0 = ap (λ (v : Bool). cond {A = ℕ} v 1 0) e in
        (e, omega (arith, c, one, h))

other_way : (p q : ℕ) → (q == p) ≡ false → (p == q) ≡ false
other_way p q h = by (p == q) refl
  where
    by : (v : Bool) → (p == q) ≡ v → (p == q) ≡ false
    by true e = absurd (eqb-false q p h (sym (eqb-true p q e)))
    by false e = e

others_stale : (es : List Event) (p : ℕ) (ps : List ℕ) → count_by (λ q. q == p) ps ≡ 0 → AreStale es ps
    → AreStale (after es p) ps
others_stale es p [] n a = tt
others_stale es p (q ∷ qs) n a =
    let s = none_same p q qs n in
    (as_stale es p q (other_way p q s.0) ∙ a.0, a.1, others_stale es p qs s.1 a.2)

-- the plans that are left to be asked for again
pub rest_stale : (es : List Event) (p : ℕ) (ps : List ℕ) → AreStale es (p ∷ ps) → AreStale (es ++ Refreshed p ∷ []) ps
rest_stale es p ps a = others_stale es p ps a.1 a.2

pub refreshed_running : (es : List Event) (p : ℕ) → IsRunning es → IsRunning (es ++ Refreshed p ∷ [])
refreshed_running es p r = quiet_running es (Refreshed p) (is_quiet p) r

-- ---- a plan

blocks_after : (b : RunTold) (es : List Event) (sl : Slack) (p q k : ℕ) (ts : List ℕ) (xs : List XorbBlock)
    → EachLedBlock b es sl q k ts xs → EachLedBlock b (after es p) sl q k ts xs
blocks_after b es sl p q k [] [] a = tt
blocks_after b es sl p q k [] (x ∷ xs) a = absurd a
blocks_after b es sl p q k (t ∷ ts) [] a = absurd a
blocks_after b es sl p q k (t ∷ ts) (x ∷ xs) a = (
  record {
    tries_are = a.0.tries_are ∙ sym (count-same (expires q k) es (Refreshed p) refl);
    kept = a.0.kept ∙ sym (quiet_kept es (Refreshed p) q k refl);
    data_is = a.0.data_is;
    fetched = λ h. a.0.fetched (fetched_before es (Refreshed p) q k refl h);
  },
  blocks_after b es sl p q (k + 1) ts xs a.1,
)

ready_after : (g : Setup) (es : List Event) (p : ℕ) (stale : List ℕ) (q k : ℕ) → IsReady g es (p ∷ stale) q k
    → IsReady g (after es p) stale q k
ready_after g es p stale q k r = record {
  left = subst (λ (c : ℕ). c < g.tries) (sym (count-same (expires q k) es (Refreshed p) refl)) r.left;
  fresh = by (p == q) refl;
}
  where
    by : (v : Bool) → (p == q) ≡ v → Contains stale q ⊎ (is_expired (after es p) q k ≡ false)
    by true e = inr (unexpired es p q k e)
    by false e =
        ⊎_elim
        (λ (c : Contains (p ∷ stale) q). inl (contains_rest p q stale c.0 c.1 c.2 (eqb-false p q e)))
        (λ (f : is_expired es q k ≡ false). inr (as_expired es p q k e ∙ f))
        r.fresh

plan_after : (g : Setup) (b : RunTold) (es : List Event) (sl : Slack) (p : ℕ) (stale : List ℕ) (l : LedPlan)
    → IsLedPlan g b es sl (p ∷ stale) l → IsLedPlan g b (after es p) sl stale l
plan_after g b es sl p stale l a = record {
  plan = a.plan;
  query = a.query;
  accepted = a.accepted;
  said_as = a.said_as;
  terms = a.terms;
  blocks = a.blocks;
  true_plan = a.true_plan;
  table = a.table;
  recorded = quiet_recorded es (Refreshed p) l (is_quiet p) a.recorded;
  each = blocks_after b es sl p l.number 0 l.tries.items l.block.blocks a.each;
  ready = λ k h. ready_after g es p stale l.number k (a.ready k h);
}

-- ---- a plan with a new table

-- blocks that pass the test against those from before are as many
as_many : (xs ys : List Extent) → first_difference xs ys ≡ None → length xs ≡ length ys
as_many [] [] e = refl
as_many [] (y ∷ ys) e = absurd (cc)
as_many (x ∷ xs) [] e = absurd (cc)
as_many (x ∷ xs) (y ∷ ys) e = by (λ d. as_many xs ys d) (same_extent x y) (first_difference xs ys) refl e
  where
    by : (first_difference xs ys ≡ None → length xs ≡ length ys) → (v : Bool) (o : Option ℕ)
        → first_difference xs ys ≡ o → cond v (option_map (λ k. suc k) o) (Some 0) ≡ None
        → length (x ∷ xs) ≡ length (y ∷ ys)
    by next true None d f = ap suc (next d)
    by next true (Some k) d f = absurd (cc)
    by next false o d f = absurd (cc)

third_none : {A : Type 0} (a b c : Option A) → first_some (a ∷ b ∷ c ∷ []) ≡ None → c ≡ None
third_none (Some a) b c h = absurd (cc)
third_none None (Some b) c h = absurd (cc)
third_none None None (Some c) h = absurd (cc)
third_none None None None h = refl

none_mapped : {A B : Type 0} (f : A → B) (o : Option A) → option_map f o ≡ None → o ≡ None
none_mapped f None h = refl
none_mapped f (Some x) h = absurd (cc)

unrefused : (v : Bool) (o : Option Corruption) → cond {A = Option FileReconstructionError} v
    (Some (error.CorruptedReconstruction RefreshPastEnd)) (option_map (λ k. error.CorruptedReconstruction k) o) ≡ None
    → o ≡ None
unrefused true o h = absurd (cc)
unrefused false o h = none_mapped (λ k. error.CorruptedReconstruction k) o h

-- as many URLs as blocks
as_many_urls : (t u : TermBlock) (c n : ClientTold) (multi : Bool) → TookUrls t u c n multi
    → length u.urls.retrieval_urls ≡ length t.blocks
as_many_urls t u c n multi took =
    let p = took.answered.plan in
    let before : List Extent = map extent_of t.blocks in
    let now : List Extent = plan_extents (shape p) multi in
    let fails : failed_refresh t.urls.byte_range multi before (shape p) ≡ None =
    unrefused (nat_eq (length p.terms) 0) (failed_refresh t.urls.byte_range multi before (shape p))
    took.answered.passes in
    let differs : blocks_test before now ≡ None = third_none (failed_test (shape p) t.urls.byte_range multi)
    (range_test t.urls.byte_range (covered (shape p) t.urls.byte_range)) (blocks_test before now) fails in
    let same = as_many before now (none_mapped (λ k. RefreshBlocks k) (first_difference before now) differs) in
    let a : length before ≡ length t.blocks = length-map t.blocks extent_of in
    let b : length now ≡ length (blocks_of (shape p) multi) =
    length-map (blocks_of (shape p) multi) (λ (x : PlanBlock). (x.xorb, block_ranges x)) in
    let d : length (urls_of p multi) ≡ length (blocks_of (shape p) multi) =
    length-map (blocks_of (shape p) multi) (λ (x : PlanBlock). let y : RetrievalUrl = record {
      url = block_url p multi x;
      ranges = map (λ (r : FetchRange). r.bytes) x.ranges;
    } in y) in
    let e : length u.urls.retrieval_urls ≡ length (urls_of p multi) = ap length took.answered.urls in
    omega (arith, same, a, b, d, e)

abbrev renewed : TermBlock → List RetrievalUrl → TermBlock
renewed t us = record t {
  urls = record t.urls { acquisition_id = next_id t.urls.acquisition_id; retrieval_urls = us };
}

plan_renewed : (g : Setup) (b : RunTold) (es : List Event) (sl : Slack) (stale : List ℕ) (l : LedPlan)
    (us : List RetrievalUrl) → length us ≡ length l.block.blocks → IsLedPlan g b es sl stale l
    → IsLedPlan g b es sl stale (record l { block = renewed l.block us })
plan_renewed g b es sl stale l us e a = record {
  plan = a.plan;
  query = a.query;
  accepted = a.accepted;
  said_as = a.said_as;
  terms = a.terms;
  blocks = a.blocks;
  true_plan = a.true_plan;
  table = record { file = a.table.file; range_is = a.table.range_is; number = a.table.number; each = e };
  recorded = record { blocks = a.recorded.blocks; at_range = a.recorded.at_range; tasks = a.recorded.tasks };
  each = a.each;
  ready = a.ready;
}

-- ---- the plans of a leader, one of which has a new table

pub at_place : (P : LedPlan → Type 0) (ls : List LedPlan) (i : ℕ) (x : LedPlan) → slice_get ls i ≡ Some x → All P ls
    → P x
at_place P ls i x e a = subst P (get_or_from_slice_get ls i x x e) (a i x (slice_get_within ls i x e))

plans_after : (g : Setup) (b : RunTold) (es : List Event) (sl : Slack) (p : ℕ) (stale : List ℕ) (l : Led) (place : ℕ)
    (x : LedPlan) (us : List RetrievalUrl)
    → slice_get l.plans place ≡ Some x → length us ≡ length x.block.blocks → AreLedPlans g b es sl (p ∷ stale) l
    → AreLedPlans g b (after es p) sl stale (record l
    { plans = slice_set l.plans place (record x { block = renewed x.block us }) })
plans_after g b es sl p stale l place x us at e a =
    let y : LedPlan = record x { block = renewed x.block us } in
    let all : All (IsLedPlan g b (after es p) sl stale) l.plans =
    λ k d h. plan_after g b es sl p stale (get_or l.plans k d) (a.each k d h) in
    let own = at_place (IsLedPlan g b (after es p) sl stale) l.plans place x at all in
    let like : IsAlike x y = record { number = refl; first = refl; terms = refl } in
    let alike = alike_set l.plans place x y at like in
    let plans = slice_set l.plans place y in
    record {
      each = All-set (IsLedPlan g b (after es p) sl stale) l.plans place y
          (plan_renewed g b (after es p) sl stale x us e own) all;
      follow = alike_follow l.plans plans alike a.follow;
      numbered = λ h. alike_number _ l.plans plans alike
          (quiet_numbered es (Refreshed p) l.plans (is_quiet p) (a.numbered h));
      last = alike_terms l.planned l.plans plans alike a.last;
      first = alike_begins l.finished l.planned l.plans plans alike a.first;
    }

-- ---- the leader

counted_after : (es : List Event) (p : ℕ) (l : Led) (ls : List LedPlan) → IsCounted es l
    → IsCounted (after es p) (record l { plans = ls })
counted_after es p l ls a =
    let c = quiet_counted es (Refreshed p) l (is_quiet p) refl refl a in
    record {
      planned_are = c.planned_are;
      planned_fits = c.planned_fits;
      admitted_are = c.admitted_are;
      finished_within = c.finished_within;
      admitted_within = c.admitted_within;
      written_are = c.written_are;
    }

table_after : (g : Setup) (b : RunTold) (es : List Event) (sl : Slack) (p : ℕ) (stale : List ℕ) (l : Led) (place : ℕ)
    (x : LedPlan) (us : List RetrievalUrl)
    → slice_get l.plans place ≡ Some x → length us ≡ length x.block.blocks → IsLed g b es sl (p ∷ stale) l
    → IsLed g b (after es p) sl stale (record l {
      plans = slice_set l.plans place
          (record x { block = renewed x.block us });
    })
table_after g b es sl p stale l place x us at e a = record {
  running = refreshed_running es p a.running;
  some = a.some;
  tries = a.tries;
  stale_are = rest_stale es p stale a.stale_are;
  under = quiet_under g es (Refreshed p) (λ q k. refl) a.under;
  manager = quiet_manager g es (Refreshed p) l.manager (is_quiet p) a.manager;
  plans = plans_after g b es sl p stale l place x us at e a.plans;
  counted = counted_after es p l (slice_set l.plans place (record x { block = renewed x.block us })) a.counted;
}

-- the plan at this place has new URLs, under the number of the stale plan that comes first; more was heard
pub led_refreshed : (g : Setup) (b : RunTold) (es : List Event) (sl to : Slack) (p : ℕ) (stale : List ℕ) (l : Led)
    (place : ℕ) (x : LedPlan) (u : TermBlock) (c n : ClientTold) (multi : Bool)
    → TellsMore sl to → slice_get l.plans place ≡ Some x → TookUrls x.block u c n multi
    → IsLed g b es sl (p ∷ stale) l
    → IsLed g b (es ++ Refreshed p ∷ []) to stale (record l
    { plans = slice_set l.plans place (record x { block = u }) })
led_refreshed g b es sl to p stale l place x u c n multi w at took a =
    let us = u.urls.retrieval_urls in
    let e = as_many_urls x.block u c n multi took in
    led_more g b (es ++ Refreshed p ∷ []) sl to stale
    (record l { plans = slice_set l.plans place (record x { block = u }) }) w
    (subst (λ (t : TermBlock). IsLed g b (es ++ Refreshed p ∷ []) sl stale
    (record l { plans = slice_set l.plans place (record x { block = t }) })) (sym took.is)
    (table_after g b es sl p stale l place x us at e a))

-- ---- a number of no plan

-- no plan has this number
abbrev pub IsAbsent : ℕ → List LedPlan → Type 0
IsAbsent p ls = All (λ l. p ≡ l.number → ⊥) ls

ready_absent : (g : Setup) (es : List Event) (p : ℕ) (stale : List ℕ) (q k : ℕ) → (p ≡ q → ⊥)
    → IsReady g es (p ∷ stale) q k → IsReady g es stale q k
ready_absent g es p stale q k n r = record {
  left = r.left;
  fresh = ⊎_elim (λ (c : Contains (p ∷ stale) q). inl (contains_rest p q stale c.0 c.1 c.2 n))
      (λ (f : is_expired es q k ≡ false). inr f) r.fresh;
}

plan_absent : (g : Setup) (b : RunTold) (es : List Event) (sl : Slack) (p : ℕ) (stale : List ℕ) (l : LedPlan)
    → (p ≡ l.number → ⊥) → IsLedPlan g b es sl (p ∷ stale) l → IsLedPlan g b es sl stale l
plan_absent g b es sl p stale l n a = record {
  plan = a.plan;
  query = a.query;
  accepted = a.accepted;
  said_as = a.said_as;
  terms = a.terms;
  blocks = a.blocks;
  true_plan = a.true_plan;
  table = a.table;
  recorded = a.recorded;
  each = a.each;
  ready = λ k h. ready_absent g es p stale l.number k n (a.ready k h);
}

-- the stale plan that comes first isn't among the plans any more
pub led_absent : (g : Setup) (b : RunTold) (es : List Event) (sl : Slack) (p : ℕ) (stale : List ℕ) (l : Led)
    → IsAbsent p l.plans → IsLed g b es sl (p ∷ stale) l → IsLed g b es sl stale l
led_absent g b es sl p stale l n a = record {
  running = a.running;
  some = a.some;
  tries = a.tries;
  stale_are = a.stale_are.2;
  under = a.under;
  manager = a.manager;
  plans = record {
    each = λ k d h. plan_absent g b es sl p stale (get_or l.plans k d) (n k d h) (a.plans.each k d h);
    follow = a.plans.follow;
    numbered = a.plans.numbered;
    last = a.plans.last;
    first = a.plans.first;
  };
  counted = a.counted;
}
