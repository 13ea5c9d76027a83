-- A block that is provided, for a stream.
use Rattle.std.proofs.Common.{◌≡◌, inl, inr, ℕ, ◌+◌, Bool, true, false, List, [], ◌++◌, refl, sym, subst, ◌∙◌, ap, arith, Option, Some, None, Ok, Err}
use Rattle.std.specs.Prelude.{IfErr, IfSome, OnOk, Result, count_by}
use Rattle.std.proofs.lemmas.List.{append-nil}
use Rattle.std.proofs.lemmas.List.Elements.{All-nil}
use Rattle.xet_base.specs.declared.cas_types.FileRange.{FileRange}
use Rattle.xet_outside.specs.Told.{CacheTold, ClientTold}
use Rattle.xet_error.specs.declared.error.FileReconstructionError.{FileReconstructionError}
use Rattle.xet_events.specs.declared.event.Event.{Event}
use Rattle.xet_events.specs.Events.{is_kept}
use Rattle.xet_events.specs.Allowed.{IsRunning}
use Rattle.xet_parts.specs.Stops.{IsStopped}
use Rattle.xet_ties.specs.declared.lane_step.LaneStep.{LaneStep}
use Rattle.xet_ties.specs.History.{is_fetch}
use Rattle.xet_ties.specs.Lanes.{Ask}
use Rattle.xet_ties.specs.Setup.{Setup}
use Rattle.xet_leader.specs.declared.missing_blocks.BlockAt.{BlockAt}
use Rattle.xet_leader.specs.Led.{Led}
use Rattle.xet_stream_rules.specs.Moments.{At, at}
use Rattle.xet_stream_rules.specs.Pulls.{IsTold, StepFails}
use Rattle.xet_stream_rules.specs.StepTold.{IsOf, counted_fetches, is_cached}
use Rattle.xet_stream_rules.specs.Streams.{Carries, IsOpen, StandsStill, StreamView, nobody}
use Rattle.xet_stream_rules.proofs.CallerLemmas.{lasts_same, no_counts, running_both, tells_nobody}
use Rattle.xet_stream_terms.specs.PlanParts.{PlanPart}
use Rattle.xet_stream_terms.specs.Planning.{IsMarked}
use Rattle.xet_stream_terms.proofs.CallerLemmas.{marks_on}
use Rattle.xet_stream_blocks.specs.BlockParts.{BlockFails}
use Rattle.xet_stream_blocks.specs.Providing.{IsProvision, Provides}
use Rattle.xet_stream_blocks.proofs.CallerLemmas.{block_part, counts_block}
use Rattle.xet_streams.specs.AnyOrder.{ProvidesBlock}
use Rattle.xet_streams.specs.Parts.{HoldsAt}
use Rattle.xet_streams.specs.steps.Ahead.{ProvidesAt, ProvidesOver}
use Rattle.xet_streams.specs.steps.Pulling.{IsStart}
use Rattle.xet_streams.specs.steps.Stepping.{StepFailed}
use Rattle.xet_streams.specs.steps.Working.{WorkedWell}
use Rattle.xet_streams.proofs.AnyParts.{held_led, held_mark}
use Rattle.xet_streams.proofs.Pulled.{event_of, fails_stands, stands_then, step_fails, stopped_told, work_of}
use Rattle.xet_streams.proofs.Starting.{old_start}
use Rattle.xet_streams.proofs.Stepped.{no_admits}
use Rattle.xet_streams.proofs.Working.{well, worked}

-- by what providing it answered
pub provides_at : (g : Setup) (es fs : List Event) (l k : Led) (cs ds : List ClientTold) (t u : CacheTold) (place : BlockAt)
    (answer : Result (Unit {0}) FileReconstructionError) → OnOk answer (Provides g (at es l cs t) (at fs k ds u) place)
    → IfErr answer (BlockFails g (at es l cs t) (at fs k ds u)) → ProvidesAt g es fs l k cs ds t u place answer
provides_at g es fs l k cs ds t u place (Ok tt) p f = p
provides_at g es fs l k cs ds t u place (Err e) p f = f

-- no plan is asked for
abbrev no_plan : (g : Setup) (x : At) → PlanPart g x x
no_plan g x = record {
  asked = None;
  calls = refl;
  new = [];
  added = sym (append-nil x.events);
  plans = 0;
  counts = no_counts;
  few = omega arith;
  of_it = λ lane block again. All-nil (IsOf lane (record { plan = None; block = block; again = again }));
  no_limits = refl;
  lasts = lasts_same g x;
  cache = refl;
}

same_fetches : {A : Type 0} (o : Option A) (n : ℕ) → IfSome o (λ _. n ≡ n)
same_fetches None n = tt
same_fetches (Some b) n = refl

-- how often the cache gave a block, and how often a connection was asked for one
abbrev provisions : List Event → ℕ
provisions new = count_by is_cached new + count_by is_fetch new

-- a block that wasn't kept is, or its URL had expired: there is one
one_provision : (lane : ℕ) (c : BlockAt) (block : Option (Ask × LaneStep)) (again : Option FileRange) (new : List Event)
    (es fs : List Event) → IsProvision lane c block again new → fs ≡ es ++ new
    → is_kept es c.plan c.block ≡ false → (again ≡ None → is_kept fs c.plan c.block ≡ true) → provisions new ≡ 1
one_provision lane c None None new es fs (inl e) added absent kept =
    let same : fs ≡ es = added ∙ ap (λ (v : List Event). es ++ v) e ∙ append-nil es in
    let z : true ≡ false =
    sym (kept refl) ∙ ap (λ (v : List Event). is_kept v c.plan c.block) same ∙ absent in
    absurd (cc)
one_provision lane c None None new es fs (inr e) added absent kept = ap provisions e
one_provision lane c (Some a) None new es fs e added absent kept = ap provisions e.6
one_provision lane c (Some a) (Some q) new es fs e added absent kept = ap provisions e.1
one_provision lane c None (Some q) new es fs e added absent kept = absurd e

module _ (v : StreamView) (still : IsOpen v) (reached : Bool) (holds : HoldsAt v.setup v.events v.led reached)
    (led now : Led) (is : v.led ≡ Some led) (fs : List Event) (cs ds : List ClientTold) (k l : CacheTold) where
  abbrev g : Setup
  g = v.setup

  abbrev x : At
  x = at v.events led cs k

  abbrev y : At
  y = at fs now ds l

  abbrev start : IsStart g v.events v.led led
  start = old_start g v.events v.led led is

  carries : Carries nobody g v.events led
  carries = held_led g v.events led v.led reached is holds

  abbrev end : StreamView
  end = record v { events = fs; led = Some now }

  -- it was
  module _ (place : BlockAt) (p : Provides g x y place) where
    abbrev w : WorkedWell g x y v.limits v.limits
    w =
        let z = counts_block p.lane place p.block p.again p.new p.is in
        well g x x x y v.limits v.limits [] (no_plan g x) (no_admits g x v.limits) (omega arith) refl refl
        (block_part g x y place p) (same_fetches p.block led.fetches) refl z.one refl refl p.goes p.fetches

    under_now : Carries nobody g fs now
    under_now = p.goes.carries nobody (tells_nobody cs k) carries

    pub provides_block : is_kept v.events place.plan place.block ≡ false → ProvidesBlock v end cs ds k l
    provides_block absent = record {
      work = work_of v still led start cs k v.limits y w.work;
      recorded = w.recorded;
      used = w.used;
      counted = w.counted ∙ ap (λ (n : ℕ). counted_fetches n w.work.asks.block) start.fetches;
      stands = λ store entries tells s.
          stands_then v still led start cs k v.limits y p.goes store entries tells s;
      unplanned = refl;
      unadmitted = (block_part g x y place p).no_limits;
      moved = one_provision p.lane place p.block p.again p.new v.events fs p.is p.added absent p.kept;
      unspent = λ s.
          let under = under_now.led.under s.plan s.block in
          let reached = s.reached in
          omega (arith, under, reached);
    }

    pub provides_holds : HoldsAt g fs (Some now) reached
    provides_holds = (
      under_now,
      subst (λ (es : List Event). IsMarked g.range es reached) (sym p.added)
          (marks_on g.range v.events p.new reached
          (counts_block p.lane place p.block p.again p.new p.is).are.plans_are
          (held_mark g v.events led v.led reached is holds)),
    )

  -- it was provided in vain
  module _ (e : FileReconstructionError) (f : BlockFails g x y e) where
    failed : StepFailed g x y v.limits v.limits e
    failed = record {
      work = worked g x x x y v.limits v.limits [] (no_plan g x) (no_admits g x v.limits) (omega arith) refl refl f.part
          (same_fetches f.part.block led.fetches);
      cause = f.cause;
      spent = f.spent;
    }

    pub vain_running : IsRunning fs
    vain_running = subst IsRunning (sym f.part.added)
        (running_both v.events f.part.new carries.led.running f.part.counts.running_is)

    pub provides_vain : (gs : List Event) (told : FileReconstructionError) → IsStopped fs gs e told
        → StepFails v (record end { events = gs; told_error = Some told }) cs ds k l told
        × StandsStill cs k v (record end { events = gs; told_error = Some told })
    provides_vain gs told stopped =
        let n : StreamView = record end { events = gs; told_error = Some told } in
        let t : IsTold end n e told = stopped_told end n gs e told
        (event_of v still led start cs k v.limits y _ _ e failed.cause) stopped refl in (
          step_fails v still led start cs k v.limits y e failed told n t,
          fails_stands v still led start cs k v.limits y e failed told n t,
        )

-- ---- by a leader that there is

module _ (v : StreamView) (still : IsOpen v) (reached : Bool) (holds : HoldsAt v.setup v.events v.led reached)
    (fs : List Event) (q : Option Led) (cs ds : List ClientTold) (k l : CacheTold) (place : BlockAt) where
  module _ (p : ProvidesOver v.setup v.events fs v.led q cs ds k l place (Ok tt)) where
    pub provided_held : HoldsAt v.setup fs q reached
    provided_held = subst (λ (o : Option Led). HoldsAt v.setup fs o reached) (sym p.after)
        (provides_holds v still reached holds p.led p.now p.before fs cs ds k l place p.provides)

    pub provided_call : is_kept v.events place.plan place.block ≡ false
        → ProvidesBlock v (record v { events = fs; led = q }) cs ds k l
    provided_call absent =
        subst (λ (o : Option Led). ProvidesBlock v (record v { events = fs; led = o }) cs ds k l) (sym p.after)
        (provides_block v still reached holds p.led p.now p.before fs cs ds k l place p.provides absent)

  module _ (e : FileReconstructionError) (p : ProvidesOver v.setup v.events fs v.led q cs ds k l place (Err e)) where
    pub vain_run : IsRunning fs
    vain_run = vain_running v still reached holds p.led p.now p.before fs cs ds k l e p.provides

    pub provided_vain : (gs : List Event) (told : FileReconstructionError) → IsStopped fs gs e told
        → StepFails v (record v { events = gs; led = q; told_error = Some told }) cs ds k l told
        × StandsStill cs k v (record v { events = gs; led = q; told_error = Some told })
    provided_vain gs told stopped =
        subst (λ (o : Option Led). StepFails v (record v { events = gs; led = o; told_error = Some told }) cs ds k l told
        × StandsStill cs k v (record v { events = gs; led = o; told_error = Some told })) (sym p.after)
        (provides_vain v still reached holds p.led p.now p.before fs cs ds k l e p.provides gs told stopped)

pub provided_some : (g : Setup) (es fs : List Event) (o q : Option Led) (cs ds : List ClientTold) (k l : CacheTold)
    (place : BlockAt) (answer : Result (Unit {0}) FileReconstructionError)
    → ProvidesOver g es fs o q cs ds k l place answer → q ≡ None → ⊥
provided_some g es fs o q cs ds k l place answer p e = let z = sym p.after ∙ e in cc
