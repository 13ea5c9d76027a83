-- A block that was asked for in vain.
use Rattle.std.proofs.Common.{◌≡◌, ◌⊎◌, inl, inr, ℕ, zero, suc, ◌+◌, ◌-◌, ◌^◌, ◌≤◌, Bool, true, false, cond, List, [], ◌∷◌, ◌++◌, length, refl, sym, subst, ◌∙◌, ap, arith, ⊎_elim, Option, Some, None, Err}
use Rattle.std.specs.Prelude.{Contains, IsNone, Result, count_by, map, min, nat_eq, option_and_then, option_map, slice_get, slice_set}
use Rattle.std.proofs.lemmas.List.{append-nil}
use Rattle.std.proofs.lemmas.List.Elements.{All-cons, All-nil}
use Rattle.std.proofs.lemmas.Option.{get_or_from_slice_get, slice_get_within}
use Rattle.xet_base.specs.declared.cas_types.FileRange.{FileRange}
use Rattle.xet_base.specs.declared.merklehash.MerkleHash.{MerkleHash}
use Rattle.xet_base.specs.Store.{Store, file_of}
use Rattle.xet_outside.specs.Plan.{shape}
use Rattle.xet_outside.specs.Told.{CacheTold, ClientTold, IsHonest, Rose}
use Rattle.xet_outside.specs.declared.plan.PlanAnswer.{PlanAnswer}
use Rattle.xet_outside.specs.declared.plan.PlanAnswer.TheVariants.{Found, NoFile, PastEnd}
use Rattle.xet_error.specs.declared.error.Corruption.{Corruption}
use Rattle.xet_error.specs.declared.error.Corruption.TheVariants.{RefreshPastEnd}
use Rattle.xet_error.specs.declared.error.FileReconstructionError.{FileReconstructionError}
use Rattle.xet_error.specs.declared.error.FileReconstructionError.TheVariants as error
use Rattle.xet_offers.specs.declared.reconstruction_terms.xorb_block.XorbBlockData.{XorbBlockData}
use Rattle.xet_blocks.specs.declared.reconstruction_terms.file_term.TermBlock.{TermBlock}
use Rattle.xet_blocks.specs.TermBlockCalls.{AskedAtMostOnce, QueryAnswered}
use Rattle.xet_fetch.specs.Refreshes.{Answered, Extent, Refresh, RefreshCause, extent_of, failed_refresh, refusal_of}
use Rattle.xet_events.specs.declared.event.Event.{Event}
use Rattle.xet_events.specs.declared.event.Event.TheVariants.{Expired, Fetched}
use Rattle.xet_events.specs.Allowed.{IsMissing}
use Rattle.xet_events.specs.Events.{expires}
use Rattle.xet_parts.specs.PlanRefreshes.{TookUrls, again}
use Rattle.xet_ties.specs.declared.lane_step.LaneStep.{LaneStep}
use Rattle.xet_ties.specs.declared.lane_step.LaneStep.TheVariants as step
use Rattle.xet_ties.specs.Causes.{SomeRose}
use Rattle.xet_ties.specs.Lanes.{Ask, StepCause}
use Rattle.xet_ties.specs.PartCalls.{plan_refresh}
use Rattle.xet_ties.specs.Setup.{AllTell, CacheTells, ClientGoesOn, EachGoesOn, IsOver, RunTold, Setup, most_lanes}
use Rattle.xet_lane.specs.declared.lane.Fetch.{Fetch}
use Rattle.xet_lane.specs.Fetches.{ask_of}
use Rattle.xet_leader.specs.declared.leader.LedPlan.{LedPlan}
use Rattle.xet_leader.specs.declared.missing_blocks.BlockAt.{BlockAt}
use Rattle.xet_leader.specs.ByNumber.{plan_index}
use Rattle.xet_leader.specs.Expiries.{counted_one, with_stale}
use Rattle.xet_leader.specs.Fetching.{IsFetch}
use Rattle.xet_leader.specs.Led.{IsLedPlan, Led}
use Rattle.xet_leader.specs.Plans.{block_there}
use Rattle.xet_leader.proofs.CallerLemmas.{IsAsked, IsHonestOf, asks_again, awaited, led_expired, led_honest, refresh_passes, same_found, tries_used}
use Rattle.xet_stream_rules.specs.Pulls.{FirstGoesOn, FirstSaid}
use Rattle.xet_stream_rules.specs.StepTold.{AsksFirst, AsksLane, IsOf, IsTurn, MayAskFirst, OffersOnce}
use Rattle.xet_stream_rules.specs.Streams.{Carries, connections, nobody}
use Rattle.xet_stream_rules.specs.MomentCauses.{CauseAt, SpentIn}
use Rattle.xet_stream_blocks.specs.steps.FetchParts.{FetchFails}
use Rattle.xet_stream_blocks.specs.steps.Fetching.{FirstExpires, KeepCall, Renews, Spends, Unrecorded}
use Rattle.xet_stream_rules.specs.Moments.{At, Lasts, at}
use Rattle.xet_stream_blocks.specs.steps.FetchParts.{FetchPart}
use Rattle.xet_stream_blocks.proofs.Expiring.{lasts_late}
use Rattle.xet_stream_blocks.proofs.FetchedBlocks.{lane_tells, offered, own_ask, served_goes, set_get}
use Rattle.xet_stream_rules.proofs.CallerLemmas.{each_same, each_then, lasts_quiet, set_goes}
use Rattle.xet_stream_rules.proofs.CallerLemmas.{no_counts}
use Rattle.xet_stream_blocks.proofs.ProvidedBlocks.{no_offers, plan_in}
use Rattle.xet_stream_rules.proofs.CallerLemmas.{count_by-append}

contains_at : {A : Type 0} (xs : List A) (i : ℕ) (x : A) → slice_get xs i ≡ Some x → Contains xs x
contains_at xs i x h = (i, slice_get_within xs i x h, get_or_from_slice_get xs i x x h)

-- no block spent its tries in no event
pub none_spent : (g : Setup) (es : List Event) → SpentIn g [] es → ⊥
none_spent g es s = let w = s.last.1 in omega (arith, w)

-- the faults of the connection at a place rose
lane_rose : (cs : List ClientTold) (i : ℕ) (b n : ClientTold) → slice_get cs i ≡ Some b → Rose b.faults n.faults
    → SomeRose cs (slice_set cs i n)
lane_rose [] i b n at r = absurd (cc)
lane_rose (c ∷ cs) zero b n at r = let e : c ≡ b = cc in inl (subst (λ (z : ClientTold). Rose z.faults n.faults) (sym e) r)
lane_rose (c ∷ cs) (suc i) b n at r = inr (lane_rose cs i b n at r)

-- nothing was asked and recorded
abbrev pub nothing_asked : (g : Setup) (x y : At) → y.events ≡ x.events → y.clients ≡ x.clients → y.cache ≡ x.cache
    → FetchPart g x y
nothing_asked g x y events clients cache = record {
  block = None;
  again = None;
  new = [];
  added = events ∙ sym (append-nil x.events);
  lane = 0;
  turn = tt;
  fetched = x.clients;
  asked = refl;
  renewed = clients;
  served = 0;
  late = 0;
  refreshed = 0;
  counts = no_counts;
  few = omega arith;
  of_block = omega arith;
  of_again = omega arith;
  of_it = λ plan. All-nil (IsOf 0 (record { plan = plan; block = None; again = None }));
  no_limits = refl;
  offer = subst (OffersOnce x.cache) (sym cache) (no_offers x.cache);
  lasts = lasts_quiet g x y events (subst (λ (ds : List ClientTold). EachGoesOn x.clients ds) (sym clients)
      (each_same x.clients)) (λ s o h. subst (CacheTells s) (sym cache) h);
}

-- a connection was asked, and nothing is recorded
abbrev pub nothing_recorded : (g : Setup) (x y : At) (lane : ℕ) (a : Ask) (s : LaneStep)
    → IsTurn x.led.fetches (min (length x.clients) most_lanes) lane → AsksLane lane a s x.clients y.clients
    → y.events ≡ x.events → y.cache ≡ x.cache → FetchPart g x y
nothing_recorded g x y lane a s turn asked events cache =
    let on = set_goes x.clients lane asked.before asked.after asked.at asked.did.goes_on in
    record {
      block = Some (a, s);
      again = None;
      new = [];
      added = events ∙ sym (append-nil x.events);
      lane = lane;
      turn = turn;
      fetched = y.clients;
      asked = asked;
      renewed = refl;
      served = 0;
      late = 0;
      refreshed = 0;
      counts = no_counts;
      few = omega arith;
      of_block = omega arith;
      of_again = omega arith;
      of_it = λ plan. All-nil (IsOf lane (record { plan = plan; block = Some (a, s); again = None }));
      no_limits = refl;
      offer = subst (OffersOnce x.cache) (sym cache) (no_offers x.cache);
      lasts = lasts_quiet g x y events
          (subst (λ (ds : List ClientTold). EachGoesOn x.clients ds) (sym asked.is) on)
          (λ s o h. subst (CacheTells s) (sym cache) h);
    }

-- ---- the step failed

module _ (g : Setup) (es : List Event) (l : Led) (c : Carries nobody g es l) (cs ds : List ClientTold) (a : BlockAt)
    (missing : IsMissing es a.plan a.block) (f : Fetch) (n : ℕ) (is : IsFetch l.plans a n f) (lane : ℕ)
    (turn : IsTurn l.fetches (min (length cs) most_lanes) lane) (t : CacheTold) (k : Led)
    (same : k.plans ≡ l.plans) where
  -- over a store that connections tell, it has the block, and its bytes pass
  honest : (s : Store) → IsOver s cs → Carries (connections s) g es l → IsHonestOf s f.block.now
  honest s over h =
      let v = awaited g (connections s) es h.slack [] l h.led a missing in
      let i = plan_index l.plans a.plan in
      let p : v.plan ≡ is.plan = same_found v.plan is.plan l.plans i i v.at is.at refl in
      let y : v.block ≡ f.block.now = same_found v.block f.block.now is.plan.block.blocks a.block a.block
      (ap (λ (q : LedPlan). slice_get q.block.blocks a.block) (sym p) ∙ v.of_plan) is.of_plan refl in
      subst (IsHonestOf s) y (led_honest g (connections s) es h.slack [] v.plan a.block v.block v.led v.of_plan s
      (record { tell = (refl, tt); valid = over.valid }))

  there : (own : IsAsked g.tries es a (ask_of f)) → block_there k.plans (ask_of f).request.index
      (plan_index k.plans (ask_of f).request.acquisition.plan) ≡ Some f.block.now
  there own =
      ap (λ (ls : List LedPlan). block_there ls (ask_of f).request.index
      (plan_index ls (ask_of f).request.acquisition.plan)) same
      ∙ ap (λ (p : ℕ). block_there l.plans (ask_of f).request.index (plan_index l.plans p)) own.plan
      ∙ ap (λ (b : ℕ). block_there l.plans b (plan_index l.plans a.plan)) own.index
      ∙ ap (λ (o : Option LedPlan). option_and_then (λ z. slice_get z.block.blocks a.block) o) is.at ∙ is.of_plan

  cause_of : (e : FileReconstructionError) → (asked : AsksLane lane (ask_of f) (step.Failed e) cs ds)
      → StepCause asked.before asked.after ([] ++ asked.did.hidden) asked.did.said (ask_of f) e
      → CauseAt g (at es l cs t) (at es k ds t) []
      (record { plan = None; block = Some (ask_of f, step.Failed e); again = None }) e
  cause_of error.OutOfMemory asked h = tt
  cause_of error.ClientError asked h = subst (λ (xs : List ClientTold). SomeRose cs xs) (sym asked.is)
      (lane_rose cs lane asked.before asked.after asked.at h)
  cause_of error.FileNotFound asked h = absurd h
  cause_of error.UrlExpired asked h = absurd h
  cause_of error.IoError asked h = absurd h
  cause_of (error.CorruptedReconstruction k) asked h =
      let own = own_ask g es l c cs a missing f n is lane asked.before asked.after asked.at in
      record {
        untrue = λ s over led.
            let has = honest s over led in
            h.dishonest s (lane_tells s cs lane asked.before asked.at over.tell) has.holds has.passes;
        failed = inr (inr (inl (record { ask = ask_of f; asked = refl; there = there own })));
      }
  cause_of (error.ConfigurationError s) asked h = absurd h
  cause_of error.Cancelled asked h = absurd h
  cause_of (error.InternalWriterError w) asked h = absurd h

  pub step_fails : (e : FileReconstructionError) → AsksLane lane (ask_of f) (step.Failed e) cs ds
      → FetchFails g (at es l cs t) (at es k ds t) e
  step_fails e asked = record {
    part = nothing_recorded g (at es l cs t) (at es k ds t) lane (ask_of f) (step.Failed e) turn asked refl refl;
    cause = cause_of e asked asked.did.is;
    spent = λ s. absurd (none_spent g es s);
  }

-- ---- what came wasn't taken

module _ (g : Setup) (es : List Event) (l : Led) (c : Carries nobody g es l) (cs ds : List ClientTold) (a : BlockAt)
    (missing : IsMissing es a.plan a.block) (f : Fetch) (n : ℕ) (is : IsFetch l.plans a n f) (lane : ℕ)
    (turn : IsTurn l.fetches (min (length cs) most_lanes) lane) (t u : CacheTold) (fs : List Event) (k : Led)
    (e : FileReconstructionError) where
  abbrev next : ℕ
  next = min (l.fetches + 1) (2 ^ 64 - 1)

  abbrev x : At
  x = at es l cs t

  -- it was served, and memory was wanting
  pub served_fails : (p j : ℕ) (d : XorbBlockData) → AsksLane lane (ask_of f) (step.Served p j d) cs ds
      → KeepCall lane a d t u es fs (record l { fetches = next }) k (Err e) → FetchFails g x (at fs k ds u) e
  served_fails p j d asked (inl h) =
      let memory : e ≡ error.OutOfMemory = (let z = h.0.memory in cc) in
      record {
        part = nothing_recorded g x (at fs k ds u) lane (ask_of f) (step.Served p j d) turn asked h.0.events h.1;
        cause = subst (CauseAt g x (at fs k ds u) []
            (record { plan = None; block = Some (ask_of f, step.Served p j d); again = None })) (sym memory) tt;
        spent = λ s. inr memory;
      }
  served_fails p j d asked (inr h) =
      let own = own_ask g es l c cs a missing f n is lane asked.before asked.after asked.at in
      let offer = offered g es l c cs a missing f n is lane asked.before asked.after asked.at p j d asked.did lane next t
      u fs k (Err e) h in
      let goes = served_goes g es l c cs a missing f n is lane asked.before asked.after asked.at p j d asked.did lane
      next t u fs k (Err e) h in
      let block : Option (Ask × LaneStep) = Some (ask_of f, step.Served p j d) in
      let new : List Event = Fetched lane a.plan a.block ∷ [] in
      record {
        part = record {
          block = block;
          again = None;
          new = new;
          added = h.events;
          lane = lane;
          turn = turn;
          fetched = ds;
          asked = asked;
          renewed = refl;
          served = 1;
          late = 0;
          refreshed = 0;
          counts = record {
            plans_are = refl;
            cached_are = refl;
            fetched_are = refl;
            late_are = refl;
            refreshes_are = refl;
            pieces_are = refl;
            running_is = refl;
          };
          few = omega arith;
          of_block = omega arith;
          of_again = omega arith;
          of_it = λ plan. All-cons (IsOf lane (record { plan = plan; block = block; again = None }))
              (Fetched lane a.plan a.block) [] (
                refl,
                ask_of f,
                step.Served p j d,
                refl,
                (asked.did.is.0 ∙ own.plan, asked.did.is.1 ∙ own.index),
              ) (All-nil (IsOf lane (record { plan = plan; block = block; again = None })));
          no_limits = refl;
          offer = subst (OffersOnce t) (sym offer.unoffered) (no_offers t);
          lasts = subst (λ (xs : List ClientTold). Lasts g x (at fs k xs u)) (sym asked.is) goes.lasts;
        };
        cause = subst (CauseAt g x (at fs k ds u) new (record { plan = None; block = block; again = None }))
            (sym offer.memory) tt;
        spent = λ s. inr offer.memory;
      }

  -- its URL had expired: that isn't recorded, or it was the last time, or the plan was asked for in vain
  module _ (p j : ℕ) (asked : AsksLane lane (ask_of f) (step.Expired p j) cs ds) (ns : List ClientTold)
      (h : FirstExpires lane a g.tries g.multirange ds ns es fs (record l { fetches = next }) k (Err e)) where
    own : IsAsked g.tries es a (ask_of f)
    own = own_ask g es l c cs a missing f n is lane asked.before asked.after asked.at

    abbrev y : At
    y = at fs k ns t

    abbrev block : Option (Ask × LaneStep)
    block = Some (ask_of f, step.Expired p j)

    abbrev one_event : List Event
    one_event = Expired lane a.plan a.block ∷ []

    on : EachGoesOn cs ds
    on = subst (λ (xs : List ClientTold). EachGoesOn cs xs) (sym asked.is)
        (set_goes cs lane asked.before asked.after asked.at asked.did.goes_on)

    same_clients : h.next ≡ h.first → ns ≡ ds
    same_clients z = h.after ∙ ap (λ (w : ClientTold). w ∷ h.others) z ∙ sym h.before

    named : block ≡ Some (ask_of f, step.Expired a.plan a.block)
    named = ap (λ (q : ℕ). Some (ask_of f, step.Expired q j)) (asked.did.is.0 ∙ own.plan)
        ∙ ap (λ (q : ℕ). Some (ask_of f, step.Expired a.plan q)) (asked.did.is.1 ∙ own.index)

    -- the part of a step whose one event it is
    abbrev late_part : (again : Option FileRange) → fs ≡ es ++ Expired lane a.plan a.block ∷ []
        → MayAskFirst g.file again ds ns → EachGoesOn ds ns → FetchPart g x y
    late_part again events renewed later = record {
      block = block;
      again = again;
      new = Expired lane a.plan a.block ∷ [];
      added = events;
      lane = lane;
      turn = turn;
      fetched = ds;
      asked = asked;
      renewed = renewed;
      served = 0;
      late = 1;
      refreshed = 0;
      counts = record {
        plans_are = refl;
        cached_are = refl;
        fetched_are = refl;
        late_are = refl;
        refreshes_are = refl;
        pieces_are = refl;
        running_is = refl;
      };
      few = omega arith;
      of_block = omega arith;
      of_again = omega arith;
      of_it = λ plan. All-cons (IsOf lane (record { plan = plan; block = block; again = again }))
          (Expired lane a.plan a.block) [] (refl, ask_of f, named)
          (All-nil (IsOf lane (record { plan = plan; block = block; again = again })));
      no_limits = refl;
      offer = no_offers t;
      lasts = subst (λ (v : List Event). Lasts g x (at v k ns t)) (sym events)
          (lasts_late g es l k cs ns t lane a.plan a.block (each_then cs ds ns on later));
    }

    unrecorded : Unrecorded es fs (record l { fetches = next }) k (Err e) → h.next ≡ h.first → FetchFails g x y e
    unrecorded u z =
        let memory : e ≡ error.OutOfMemory = (let w = u.memory in cc) in
        let same = same_clients z in
        record {
          part = nothing_recorded g x y lane (ask_of f) (step.Expired p j) turn
              (subst (λ (xs : List ClientTold). AsksLane lane (ask_of f) (step.Expired p j) cs xs) (sym same) asked)
              u.events refl;
          cause = subst (CauseAt g x y [] (record { plan = None; block = block; again = None })) (sym memory) tt;
          spent = λ v. inr memory;
        }

    spends : (o : FileReconstructionError) → ◌≡◌ {A = Result (Unit {0}) FileReconstructionError} (Err e) (Err o)
        → Spends lane a g.tries es fs (record l { fetches = next }) k o → h.next ≡ h.first → FetchFails g x y e
    spends o same s z =
        let is : e ≡ o = cc in
        let spent = s.counted.counts.spent in
        let error_is : e ≡ error.UrlExpired = is ∙ spent.0 in
        let used = tries_used g nobody es c.slack [] lane a.plan a.block l spent.1 c.led in
        let few = c.led.under a.plan a.block in
        let more = count_by-append (expires a.plan a.block) es (Expired lane a.plan a.block ∷ []) in
        let one = one_more (expires a.plan a.block (Expired lane a.plan a.block)) in
        let many : count_by (expires a.plan a.block) fs ≡ g.tries =
        ap (λ (v : List Event). count_by (expires a.plan a.block) v) s.events ∙ omega (arith, used, few, more, one) in
        record {
          part = late_part None s.events (same_clients z)
              (subst (λ (xs : List ClientTold). EachGoesOn ds xs) (sym (same_clients z)) (each_same ds));
          cause = subst (CauseAt g x y one_event (record { plan = None; block = block; again = None })) (sym error_is)
              (record {
                lane = lane;
                plan = a.plan;
                block = a.block;
                last = contains_at one_event 0 (Expired lane a.plan a.block) refl;
                reached = many;
              });
          spent = λ v. inl error_is;
        }
      where
        one_more : (v : Bool) → 0 + cond v 1 0 ≤ 1
        one_more true = omega arith
        one_more false = omega arith

    -- the plan was asked for in vain
    module _ (r : Renews lane a g.tries g.multirange h.first h.next es fs (record l { fetches = next }) k (Err e)) where
      abbrev plan : LedPlan
      plan = r.call.call.plan

      abbrev range : FileRange
      range = plan.block.urls.byte_range

      abbrev late_events : List Event
      late_events = es ++ Expired lane a.plan a.block ∷ []

      events : fs ≡ late_events
      events = r.call.call.call.unrecorded

      -- as the plan stands to a stream, whatever is told
      led_plan : (b : RunTold) → (z : Carries b g es l)
          → IsLedPlan g b late_events z.slack (with_stale a.plan []) plan
      led_plan b z =
          let led = led_expired g b es z.slack [] lane a.plan a.block l r.counted.counts.left missing z.led in
          plan_in (IsLedPlan g b late_events z.slack (with_stale a.plan []))
          (counted_one (a.plan, a.block) l.plans) (plan_index r.middle.plans a.plan) plan
          (subst (λ (ls : List LedPlan). slice_get ls (plan_index r.middle.plans a.plan) ≡ Some plan)
          r.counted.counts.counted r.call.call.at) led.plans.each

      file_is : plan.block.urls.file_hash ≡ g.file
      file_is = (led_plan nobody c).table.file

      first_on : ClientGoesOn h.first h.next
      first_on =
          let m = r.call.call.call.may in
          record { store = m.store; link = m.link; faults = m.faults; expiries = m.expiries }

      later : EachGoesOn ds ns
      later = subst (λ (ps : List ClientTold). EachGoesOn ps ns) (sym h.before)
          (subst (λ (bs : List ClientTold). EachGoesOn (h.first ∷ h.others) bs) (sym h.after)
          (first_on, each_same h.others))

      asks_first : AsksFirst g.file range ds ns
      asks_first =
          let m = r.call.call.call.may in
          record {
            first = h.first;
            next = h.next;
            others = h.others;
            before = h.before;
            after = h.after;
            goes_on = first_on;
            served = m.served;
            asks = subst (λ (f : MerkleHash). AskedAtMostOnce h.first h.next (f, range)) file_is m.asks;
          }

      head_on : FirstGoesOn cs h.first
      head_on = first_of cs ds on h.before
        where
          first_of : (ps bs : List ClientTold) → EachGoesOn ps bs → bs ≡ h.first ∷ h.others → FirstGoesOn ps h.first
          first_of [] [] o q = absurd (cc)
          first_of [] (b ∷ bs) o q = absurd o
          first_of (z ∷ ps) [] o q = absurd o
          first_of (z ∷ ps) (b ∷ bs) o q = let w : b ≡ h.first = cc in subst (ClientGoesOn z) w o.0

      said : (answer : PlanAnswer) → Answered (again plan.block g.multirange) h.first h.next answer
          → FirstSaid g.file range answer cs ns
      said answer z = record {
        first = h.first;
        last = h.next;
        others = h.others;
        before = head_on;
        after = h.after;
        answered = subst (λ (f : MerkleHash). QueryAnswered h.first h.next (f, range) answer) file_is z;
      }

      head_store : (s : Store) → AllTell s cs → h.first.store ≡ Some s
      head_store s tell = by cs head_on tell
        where
          by : (ps : List ClientTold) → FirstGoesOn ps h.first → AllTell s ps → h.first.store ≡ Some s
          by [] o q = absurd o
          by (z ∷ ps) o q = o.store ∙ q.0

      head_rose : Rose h.first.faults h.next.faults → SomeRose cs ns
      head_rose rose = subst (λ (bs : List ClientTold). SomeRose cs bs) (sym h.after) (by cs head_on)
        where
          by : (ps : List ClientTold) → FirstGoesOn ps h.first → SomeRose ps (h.next ∷ h.others)
          by [] o = absurd o
          by (z ∷ ps) o = let low = o.faults in inl (omega (arith, low, rose))

      refused_none : (answer : PlanAnswer) (es2 : List Extent) (q : FileRange) (m : Bool)
          → refusal_of q m es2 answer ≡ Some error.FileNotFound → answer ≡ NoFile
      refused_none NoFile es2 q m z = refl
      refused_none PastEnd es2 q m z = absurd (cc)
      refused_none (Found p) es2 q m z = absurd (by (nat_eq (length p.terms) 0) refl)
        where
          mapped : (o : Option Corruption) → option_map (λ x. error.CorruptedReconstruction x) o
              ≡ Some error.FileNotFound → ⊥
          mapped None w = cc
          mapped (Some x) w = cc

          by : (v : Bool) → nat_eq (length p.terms) 0 ≡ v → ⊥
          by true w = let y : ◌≡◌ {A = Option FileReconstructionError} (Some (error.CorruptedReconstruction RefreshPastEnd))
              (Some error.FileNotFound) = sym (ap (λ (b : Bool). cond b
              (Some (error.CorruptedReconstruction RefreshPastEnd))
              (option_map (λ x. error.CorruptedReconstruction x) (failed_refresh q m es2 (shape p)))) w) ∙ z in cc
          by false w = mapped (failed_refresh q m es2 (shape p)) (sym (ap (λ (b : Bool). cond b
              (Some (error.CorruptedReconstruction RefreshPastEnd))
              (option_map (λ x. error.CorruptedReconstruction x) (failed_refresh q m es2 (shape p)))) w) ∙ z)

      cause_late : (o : FileReconstructionError)
          → ((r.call.call.block ≡ plan.block) ⊎ ((o ≡ error.OutOfMemory)
          × TookUrls plan.block r.call.call.block h.first h.next g.multirange))
          → RefreshCause (again plan.block g.multirange) h.first h.next o
          → CauseAt g x y one_event (record { plan = None; block = block; again = Some range }) o
      cause_late error.OutOfMemory kept w = tt
      cause_late error.ClientError kept w = head_rose w
      cause_late error.FileNotFound kept w =
          let none = refused_none w.answer (map extent_of plan.block.blocks) range g.multirange w.refused in
          record {
            some = c.led.some;
            query = range;
            said = said NoFile (subst (Answered (again plan.block g.multirange) h.first h.next) none w.answered);
            unstored = λ s tell. subst (λ (f : MerkleHash). IsNone (file_of s f)) file_is
                (subst (IsHonest s plan.block.urls.file_hash range) none
                (w.answered.honest s (head_store s tell)));
          }
      cause_late error.UrlExpired kept w = absurd w
      cause_late error.IoError kept w = absurd w
      cause_late (error.CorruptedReconstruction q) kept w =
          let same : r.call.call.block ≡ plan.block = ⊎_elim
          (λ (z : r.call.call.block ≡ plan.block). z)
          (λ (z : (error.CorruptedReconstruction q ≡ error.OutOfMemory)
          × TookUrls plan.block r.call.call.block h.first h.next g.multirange). absurd (let v = z.0 in cc))
          kept in
          let place = plan_index r.middle.plans a.plan in
          let now : slice_get k.plans place ≡ Some plan =
          ap (λ (ls : List LedPlan). slice_get ls place) r.call.call.plans
          ∙ set_get r.middle.plans place plan (record plan { block = r.call.call.block }) r.call.call.at
          ∙ ap (λ (b : TermBlock). Some (record plan { block = b })) same in
          record {
            untrue = λ s over z.
                let v = led_plan (connections s) z in
                let own : again plan.block g.multirange ≡ plan_refresh g v.plan v.query =
                asks_again g plan v.plan v.query g.multirange refl v.blocks v.table in
                let honest = subst (λ (x : Refresh). IsHonest s x.file x.range w.answer) own
                (w.answered.honest s (head_store s over.tell)) in
                let passes = refresh_passes g s over.valid v.plan v.query
                (v.true_plan s (record { tell = (refl, tt); valid = over.valid })) v.accepted.said.some w.answer honest in
                let refused = subst (λ (x : Refresh). refusal_of x.range x.multirange x.blocks w.answer
                ≡ Some (error.CorruptedReconstruction q)) own w.refused in
                (let u : ◌≡◌ {A = Option FileReconstructionError} None (Some (error.CorruptedReconstruction q)) =
                sym passes ∙ refused in cc);
            failed = inr (inl (record {
              plan = plan;
              among = contains_at k.plans place plan now;
              answer = w.answer;
              said = said w.answer w.answered;
              fails = w.refused;
            }));
          }
      cause_late (error.ConfigurationError s) kept w = absurd w
      cause_late error.Cancelled kept w = absurd w
      cause_late (error.InternalWriterError v) kept w = absurd w

      renews : FetchFails g x y e
      renews = record {
        part = late_part (Some range) events asks_first later;
        cause = cause_late e r.call.call.call.kept r.call.call.call.cause;
        spent = λ v.
            let led = led_expired g nobody es c.slack [] lane a.plan a.block l r.counted.counts.left missing c.led in
            let under = led.under v.plan v.block in
            let reached = v.reached in
            let same : count_by (expires v.plan v.block) fs ≡ count_by (expires v.plan v.block) late_events =
            ap (λ (z : List Event). count_by (expires v.plan v.block) z) events in
            absurd (omega (arith, under, reached, same));
      }

    pub late_fails : FetchFails g x y e
    late_fails =
        ⊎_elim (λ (z : Unrecorded es fs (record l { fetches = next }) k (Err e) × (h.next ≡ h.first)).
        unrecorded z.0 z.1)
        (⊎_elim
        (λ (z : (o : FileReconstructionError) × ((Err e) ≡ Err o)
        × Spends lane a g.tries es fs (record l { fetches = next }) k o × (h.next ≡ h.first)).
        spends z.0 z.1 z.2 z.3)
        (λ (z : Renews lane a g.tries g.multirange h.first h.next es fs (record l { fetches = next }) k (Err e)).
        renews z))
        h.call
