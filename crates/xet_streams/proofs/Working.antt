-- The work of a step, from its parts.
use Rattle.std.proofs.Common.{◌≡◌, ℕ, suc, ◌+◌, ◌≤◌, Bool, false, cond, List, [], ◌∷◌, ◌++◌, length, refl, sym, subst, ◌∙◌, ap, arith, append_assoc, Option, Some, None}
use Rattle.std.specs.Prelude.{All, IfSome, count_by, min}
use Rattle.std.proofs.lemmas.Grind.{flat_map-append}
use Rattle.std.proofs.lemmas.List.{append-nil}
use Rattle.std.proofs.lemmas.List.Elements.{All-append, All-cons, All-nil}
use Rattle.xet_outside.specs.Told.{CacheTold, ClientTold}
use Rattle.xet_events.specs.declared.event.Event.{Event}
use Rattle.xet_events.specs.declared.event.Event.TheVariants.{Admit}
use Rattle.xet_events.specs.Events.{is_plan}
use Rattle.xet_events.specs.Limits.{LimitTold}
use Rattle.xet_parts.specs.Admissions.{GaveLimits, admits}
use Rattle.xet_ties.specs.History.{is_expiry, is_fetch, is_refresh, limit_in, limits_of}
use Rattle.xet_ties.specs.declared.lane_step.LaneStep.{LaneStep}
use Rattle.xet_ties.specs.Lanes.{Ask}
use Rattle.xet_ties.specs.Setup.{EachGoesOn, Setup, most_lanes}
use Rattle.xet_stream_rules.specs.StepTold.{Asks, HasEvent, IsOf, IsTurn, LooksOnce, MayAskLane, StepCache, counted_fetches, is_cached}
use Rattle.xet_stream_rules.specs.Streams.{is_wrote}
use Rattle.xet_stream_terms.specs.Admitting.{Admits}
use Rattle.xet_stream_rules.specs.Moments.{At, Lasts, Goes}
use Rattle.xet_stream_blocks.specs.BlockParts.{BlockPart}
use Rattle.xet_stream_rules.specs.Counts.{Counts, has}
use Rattle.xet_stream_terms.specs.PlanParts.{PlanPart}
use Rattle.xet_streams.specs.steps.Working.{Worked, WorkedWell}
use Rattle.xet_stream_rules.proofs.CallerLemmas.{lasts_then, running_both, admits_run}
use Rattle.xet_stream_rules.proofs.CallerLemmas.{count_by-append}

-- ---- admissions ask nothing

-- a test that no admission passes
pub admits_none : (p : Event → Bool) → ((n : ℕ) → p (Admit n) ≡ false) → (ls : List ℕ) → count_by p (admits ls) ≡ 0
admits_none p h [] = refl
admits_none p h (n ∷ ls) =
    let c = count_by-append p (Admit n ∷ []) (admits ls) in
    let one : count_by p (Admit n ∷ []) ≡ 0 = ap (λ (v : Bool). 0 + cond v 1 0) (h n) in
    let r = admits_none p h ls in
    omega (arith, c, one, r)

pub admits_of : (lane : ℕ) (a : Asks) (ls : List ℕ) → All (IsOf lane a) (admits ls)
admits_of lane a [] = All-nil (IsOf lane a)
admits_of lane a (n ∷ ls) = All-cons (IsOf lane a) (Admit n) (admits ls) tt (admits_of lane a ls)

pub admits_limits : (ls : List ℕ) → limits_of (admits ls) ≡ ls
admits_limits [] = refl
admits_limits (n ∷ ls) = ap (λ (xs : List ℕ). n ∷ xs) (admits_limits ls)

-- ---- how many events of each kind

counts_both : (xs ys : List Event) (a b c d e i j k m n : ℕ) → Counts xs a b c d e → Counts ys i j k m n
    → Counts (xs ++ ys) (a + i) (b + j) (c + k) (d + m) (e + n)
counts_both xs ys a b c d e i j k m n p q = record {
  plans_are = (let s = count_by-append is_plan xs ys in let u = p.plans_are in let v = q.plans_are in omega (arith, s, u, v));
  cached_are = (let s = count_by-append is_cached xs ys in let u = p.cached_are in let v = q.cached_are in
      omega (arith, s, u, v));
  fetched_are = (let s = count_by-append is_fetch xs ys in let u = p.fetched_are in let v = q.fetched_are in
      omega (arith, s, u, v));
  late_are = (let s = count_by-append is_expiry xs ys in let u = p.late_are in let v = q.late_are in
      omega (arith, s, u, v));
  refreshes_are = (let s = count_by-append is_refresh xs ys in let u = p.refreshes_are in let v = q.refreshes_are in
      omega (arith, s, u, v));
  pieces_are = (let s = count_by-append is_wrote xs ys in let u = p.pieces_are in let v = q.pieces_are in
      omega (arith, s, u, v));
  running_is = running_both xs ys p.running_is q.running_is;
}

pub counts_admits : (ls : List ℕ) → Counts (admits ls) 0 0 0 0 0
counts_admits ls = record {
  plans_are = admits_none is_plan (λ n. refl) ls;
  cached_are = admits_none is_cached (λ n. refl) ls;
  fetched_are = admits_none is_fetch (λ n. refl) ls;
  late_are = admits_none is_expiry (λ n. refl) ls;
  refreshes_are = admits_none is_refresh (λ n. refl) ls;
  pieces_are = admits_none is_wrote (λ n. refl) ls;
  running_is = admits_run ls;
}

-- ---- no limit in other events

limits_both : (xs ys : List Event) → limits_of (xs ++ ys) ≡ limits_of xs ++ limits_of ys
limits_both xs ys = flat_map-append limit_in xs ys

-- ---- all parts

same_length : (cs ds : List ClientTold) → EachGoesOn cs ds → length ds ≡ length cs
same_length [] [] g = refl
same_length [] (d ∷ ds) g = absurd g
same_length (c ∷ cs) [] g = absurd g
same_length (c ∷ cs) (d ∷ ds) g = ap suc (same_length cs ds g.1)

pub event_one : {A : Type 0} (o : Option A) (n : ℕ) → n ≡ has o → HasEvent o n
event_one None n e = e
event_one (Some x) n e = e

pub has_few : {A : Type 0} (o : Option A) → has o ≤ 1
has_few None = omega arith
has_few (Some x) = omega arith

-- a step so far: a plan, admissions, a block
module _ (g : Setup) (x p a y : At) (before after : LimitTold) (unused : List ℕ) (plan : PlanPart g x p)
    (admit : Admits g p a before after unused) (few_unused : length unused ≤ 1)
    (same_clients : a.clients ≡ p.clients) (same_cache : a.cache ≡ p.cache) (block : BlockPart g a y)
    (same_fetches : IfSome block.block (λ _. a.led.fetches ≡ x.led.fetches)) where
  abbrev ls : List ℕ
  ls = admit.limits

  abbrev all_new : List Event
  all_new = plan.new ++ (admits ls ++ block.new)

  abbrev all_asks : Asks
  all_asks = record { plan = plan.asked; block = block.block; again = block.again }

  pub counts_all : Counts all_new (plan.plans + 0) (0 + (0 + block.cached)) (0 + (0 + block.served))
      (0 + (0 + block.late)) (0 + (0 + block.refreshed))
  counts_all = counts_both plan.new (admits ls ++ block.new) plan.plans 0 0 0 0 0 (0 + block.cached)
      (0 + block.served) (0 + block.late) (0 + block.refreshed) plan.counts
      (counts_both (admits ls) block.new 0 0 0 0 0 0 block.cached block.served block.late block.refreshed
      (counts_admits ls) block.counts)

  length_same : length a.clients ≡ length x.clients
  length_same = ap length same_clients ∙ same_length x.clients p.clients plan.lasts.goes_on

  pub turn : IfSome block.block (λ _. IsTurn x.led.fetches (min (length x.clients) most_lanes) block.lane)
  turn = by block.block same_fetches (subst (λ (k : ℕ). IfSome block.block
      (λ _. IsTurn a.led.fetches (min k most_lanes) block.lane)) length_same block.turn)
    where
      by : (o : Option (Ask × LaneStep)) → IfSome o (λ _. a.led.fetches ≡ x.led.fetches)
          → IfSome o (λ _. IsTurn a.led.fetches (min (length x.clients) most_lanes) block.lane)
          → IfSome o (λ _. IsTurn x.led.fetches (min (length x.clients) most_lanes) block.lane)
      by None e h = tt
      by (Some b) e h = subst (λ (k : ℕ). IsTurn k (min (length x.clients) most_lanes) block.lane) e h

  pub cache_all : StepCache all_new x.cache y.cache
  cache_all =
      let z = block.cache in
      let n = counts_all.cached_are in
      let m = block.counts.cached_are in
      let h = z.cached in
      record {
        looks = z.looks;
        looked = z.looked;
        look = subst (λ (k : CacheTold). LooksOnce z.looks k z.looked) (same_cache ∙ plan.cache) z.look;
        offer = z.offer;
        cached = omega (arith, n, m, h);
      }

  pub limits_are : limits_of all_new ++ unused ≡ ls ++ unused
  limits_are = ap (λ (l : List ℕ). l ++ unused) (limits_both plan.new (admits ls ++ block.new)
      ∙ ap (λ (l : List ℕ). l ++ limits_of (admits ls ++ block.new)) plan.no_limits
      ∙ limits_both (admits ls) block.new ∙ ap (λ (l : List ℕ). limits_of (admits ls) ++ l) block.no_limits
      ∙ append-nil (limits_of (admits ls)) ∙ admits_limits ls)

  pub lasts_all : Lasts g x y
  lasts_all = lasts_then g x p y plan.lasts (lasts_then g p a y admit.lasts block.lasts)

  abbrev pub worked : Worked g x y before after
  worked =
      let f = block.few in
      let n1 = counts_all.plans_are in
      let n2 = counts_all.cached_are in
      let n3 = counts_all.fetched_are in
      let n5 = counts_all.refreshes_are in
      let p1 = has_few plan.asked in
      let q1 = plan.few in
      let p5 = has_few block.again in
      let q5 = block.of_again in
      record {
        new = all_new;
        added = block.added ∙ ap (λ (e : List Event). e ++ block.new)
            (admit.added ∙ ap (λ (e : List Event). e ++ admits ls) plan.added)
            ∙ ap (λ (e : List Event). e ++ block.new) (append_assoc x.events plan.new (admits ls))
            ∙ append_assoc x.events (plan.new ++ admits ls) block.new
            ∙ ap (λ (e : List Event). x.events ++ e) (append_assoc plan.new (admits ls) block.new);
        few = record {
          plans = omega (arith, n1, p1, q1);
          cached = omega (arith, n2, f);
          fetched = omega (arith, n3, f);
          refreshes = omega (arith, n5, p5, q5);
          pieces = counts_all.pieces_are;
        };
        asks = all_asks;
        calls = record {
          lane = block.lane;
          turn = turn;
          planned = p.clients;
          fetched = block.fetched;
          plan = plan.calls;
          block = subst (λ (cs : List ClientTold). MayAskLane block.lane block.block cs block.fetched) same_clients
              block.asked;
          again = block.renewed;
        };
        events = All-append (IsOf block.lane all_asks) plan.new (admits ls ++ block.new)
            (plan.of_it block.lane block.block block.again)
            (All-append (IsOf block.lane all_asks) (admits ls) block.new (admits_of block.lane all_asks ls)
            (block.of_it plan.asked));
        cache = cache_all;
        unused = unused;
        limits = subst (λ (us : List ℕ). GaveLimits before after us) (sym limits_are) admit.given;
        few_unused = few_unused;
        lasts = lasts_all;
        running = counts_all.running_is;
      }

  -- and all of it was recorded
  abbrev pub well : plan.plans ≡ has plan.asked → block.served + block.late ≡ has block.block
      → block.refreshed ≡ has block.again → unused ≡ [] → Goes g x y
      → y.led.fetches ≡ counted_fetches x.led.fetches block.block → WorkedWell g x y before after
  well planned served renewed used goes counted =
      let n1 = counts_all.plans_are in
      let n3 = counts_all.fetched_are in
      let n4 = counts_all.late_are in
      let n5 = counts_all.refreshes_are in
      record {
        work = worked;
        goes = goes;
        recorded = record {
          plan = event_one plan.asked (count_by is_plan all_new) (omega (arith, n1, planned));
          block = event_one block.block (count_by is_fetch all_new)
              (omega (arith, n3, n4, served));
          again = event_one block.again (count_by is_refresh all_new) (omega (arith, n5, renewed));
        };
        used = used;
        counted = counted;
      }
