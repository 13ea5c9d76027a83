-- What the parts of a fetch, and of providing a block, may do, and what they come to.
use Rattle.std.proofs.Common.{◌≡◌, ℕ, ◌+◌, ◌-◌, ◌^◌, ◌<◌, false, true, Bool, List, [], length, map, refl, sym, subst, ◌∙◌, ap, None, Ok, Err}
use Rattle.std.specs.Prelude.{IfErr, OnOk, min}
use Rattle.std.proofs.lemmas.List.{append-nil, length-map}
use Rattle.std.proofs.lemmas.Option.{slice_get_within}
use Rattle.xet_outside.specs.Told.{CacheTold, ClientTold}
use Rattle.xet_error.specs.declared.error.FileReconstructionError.{FileReconstructionError}
use Rattle.xet_error.specs.declared.error.FileReconstructionError.TheVariants as error
use Rattle.xet_offers.specs.declared.reconstruction_terms.xorb_block.XorbBlockData.{XorbBlockData}
use Rattle.xet_events.specs.declared.event.Event.{Event}
use Rattle.xet_events.specs.declared.event.Event.TheVariants.{Expired, Fetched}
use Rattle.xet_events.specs.Allowed.{IsAllowed, IsMissing}
use Rattle.xet_ties.specs.declared.lane_step.LaneStep.{LaneStep}
use Rattle.xet_ties.specs.declared.lane_step.LaneStep.TheVariants as step
use Rattle.xet_ties.specs.Setup.{Setup, most_lanes}
use Rattle.xet_lane.specs.declared.lane.Fetch.{Fetch}
use Rattle.xet_lane.specs.Fetches.{ask_of}
use Rattle.xet_leader.specs.declared.missing_blocks.BlockAt.{BlockAt}
use Rattle.xet_leader.specs.ByNumber.{plan_index}
use Rattle.xet_leader.specs.Fetching.{IsFetch}
use Rattle.xet_leader.specs.Led.{Led}
use Rattle.xet_leader.specs.Looks.{CanLook, CanRequest}
use Rattle.xet_leader.specs.Plans.{Answer}
use Rattle.xet_leader.specs.Stepping.{LookedAt}
use Rattle.xet_leader.proofs.CallerLemmas.{awaited, awaited_request}
use Rattle.xet_stream_rules.specs.StepTold.{AsksLane, IsTurn}
use Rattle.xet_stream_rules.specs.Streams.{Carries, nobody}
use Rattle.xet_stream_rules.specs.MomentCauses.{CauseAt}
use Rattle.xet_stream_rules.specs.Moments.{at}
use Rattle.xet_stream_rules.proofs.CallerLemmas.{tells_nobody}
use Rattle.xet_stream_blocks.specs.BlockParts.{BlockFails}
use Rattle.xet_stream_blocks.specs.Providing.{Provides}
use Rattle.xet_stream_blocks.specs.steps.FetchParts.{FetchFails}
use Rattle.xet_stream_blocks.specs.steps.Fetching.{Fetches, FirstExpires, KeepCall}
use Rattle.xet_stream_blocks.specs.steps.Looking.{Looks}
use Rattle.xet_stream_blocks.proofs.FetchFailing.{late_fails, none_spent, nothing_asked, served_fails, step_fails}
use Rattle.xet_stream_blocks.proofs.Looking.{looks_goes}
use Rattle.xet_stream_blocks.proofs.ProvideFailing.{fetch_fails, look_fails}
use Rattle.xet_stream_blocks.proofs.ProvidedBlocks.{late_fetches, provides_fetched, provides_found, served_fetches}

module _ (g : Setup) (es : List Event) (l : Led) (c : Carries nobody g es l) (a : BlockAt)
    (missing : IsMissing es a.plan a.block) where
  -- a missing block can be requested, and looked for
  pub can : CanRequest l.plans a
  can = awaited_request g nobody es c.slack [] l a (awaited g nobody es c.slack [] l c.led a missing)

  pub can_look : CanLook es l.plans a
  can_look = record { request = can; missing = missing }

  pub within : plan_index l.plans a.plan < length l.plans
  within = slice_get_within l.plans (plan_index l.plans a.plan) can.plan can.at

  pub fetched_may : (lane : ℕ) → IsAllowed es (Fetched lane a.plan a.block)
  fetched_may lane = (c.led.running, missing)

  pub expired_may : (lane : ℕ) → IsAllowed es (Expired lane a.plan a.block)
  expired_may lane = (c.led.running, missing)

-- ---- one fetch

-- by what the connections tell
pub told_turn : {C : Type 0} (told : C → ClientTold) (cs : List C) (fetches m n lane : ℕ) → m ≡ fetches → n ≡ length cs
    → IsTurn m (min n most_lanes) lane → IsTurn fetches (min (length (map told cs)) most_lanes) lane
told_turn {C} told cs fetches m n lane count e t =
    let same : n ≡ length (map told cs) = e ∙ sym (length-map cs told) in
    subst (λ (k : ℕ). IsTurn k (min (length (map told cs)) most_lanes) lane) count
    (subst (λ (k : ℕ). IsTurn m (min k most_lanes) lane) same t)

-- the request couldn't be made
pub unasked_fails : {C : Type 0} (told : C → ClientTold) (g : Setup) (es : List Event) (l : Led) (cs ds : List C)
    (t : CacheTold) (e : FileReconstructionError) → e ≡ error.OutOfMemory → ds ≡ cs
    → FetchFails g (at es l (map told cs) t) (at es l (map told ds) t) e
unasked_fails {C} told g es l cs ds t e memory same =
    let x = at es l (map told cs) t in
    let y = at es l (map told ds) t in
    record {
      part = nothing_asked g x y refl (ap (map told) same) refl;
      cause = subst (CauseAt g x y [] (record { plan = None; block = None; again = None })) (sym memory) tt;
      spent = λ s. absurd (none_spent g es s);
    }

module _ (g : Setup) (es : List Event) (l : Led) (c : Carries nobody g es l) (cs ds : List ClientTold) (a : BlockAt)
    (missing : IsMissing es a.plan a.block) (f : Fetch) (n : ℕ) (is : IsFetch l.plans a n f) (lane : ℕ)
    (turn : IsTurn l.fetches (min (length cs) most_lanes) lane) (s : LaneStep)
    (asked : AsksLane lane (ask_of f) s cs ds) where
  -- it failed
  pub failed : (e : FileReconstructionError) → s ≡ step.Failed e → (t : CacheTold) (k : Led) → k.plans ≡ l.plans
      → FetchFails g (at es l cs t) (at es k ds t) e
  failed e same t k plans = step_fails g es l c cs ds a missing f n is lane turn t k plans e
      (subst (λ (z : LaneStep). AsksLane lane (ask_of f) z cs ds) same asked)

  module _ (t u : CacheTold) (fs : List Event) (m k : Led)
      (counted : m ≡ record l { fetches = min (l.fetches + 1) (2 ^ 64 - 1) }) where
    abbrev now : Led
    now = record l { fetches = min (l.fetches + 1) (2 ^ 64 - 1) }

    -- it was served
    module _ (p j : ℕ) (d : XorbBlockData) (same : s ≡ step.Served p j d) where
      as_served : AsksLane lane (ask_of f) (step.Served p j d) cs ds
      as_served = subst (λ (z : LaneStep). AsksLane lane (ask_of f) z cs ds) same asked

      as_kept : (answer : Answer) → KeepCall lane a d t u es fs m k answer → KeepCall lane a d t u es fs now k answer
      as_kept answer h = subst (λ (z : Led). KeepCall lane a d t u es fs z k answer) counted h

      pub served_done : (answer : Answer) → KeepCall lane a d t u es fs m k answer
          → OnOk answer (Fetches g (at es l cs t) (at fs k ds u) a)
      served_done (Ok tt) h = served_fetches g es l c cs ds a missing f n is lane turn t u fs k p j d as_served
          (as_kept (Ok tt) h)
      served_done (Err e) h = tt

      pub served_fail : (answer : Answer) → KeepCall lane a d t u es fs m k answer
          → IfErr answer (FetchFails g (at es l cs t) (at fs k ds u))
      served_fail (Ok tt) h = tt
      served_fail (Err e) h = served_fails g es l c cs ds a missing f n is lane turn t u fs k e p j d as_served
          (as_kept (Err e) h)

    -- its URL had expired
    module _ (p j : ℕ) (same : s ≡ step.Expired p j) (ns : List ClientTold) where
      as_expired : AsksLane lane (ask_of f) (step.Expired p j) cs ds
      as_expired = subst (λ (z : LaneStep). AsksLane lane (ask_of f) z cs ds) same asked

      as_late : (answer : Answer) → FirstExpires lane a g.tries g.multirange ds ns es fs m k answer
          → FirstExpires lane a g.tries g.multirange ds ns es fs now k answer
      as_late answer h =
          subst (λ (z : Led). FirstExpires lane a g.tries g.multirange ds ns es fs z k answer) counted h

      pub late_done : (answer : Answer) → FirstExpires lane a g.tries g.multirange ds ns es fs m k answer
          → OnOk answer (Fetches g (at es l cs t) (at fs k ns t) a)
      late_done (Ok tt) h = late_fetches g es l c cs ds a missing f n is lane turn t u fs k p j as_expired ns
          g.multirange (as_late (Ok tt) h)
      late_done (Err e) h = tt

      pub late_fail : (answer : Answer) → FirstExpires lane a g.tries g.multirange ds ns es fs m k answer
          → IfErr answer (FetchFails g (at es l cs t) (at fs k ns t))
      late_fail (Ok tt) h = tt
      late_fail (Err e) h = late_fails g es l c cs ds a missing f n is lane turn t u fs k e p j as_expired ns
          (as_late (Err e) h)

-- ---- a block that is to be provided

module _ (g : Setup) (es : List Event) (l : Led) (c : Carries nobody g es l) (cs : List ClientTold) (t u : CacheTold)
    (fs : List Event) (k : Led) (a : BlockAt) (missing : IsMissing es a.plan a.block) where
  look : (found b : Bool) → found ≡ b → LookedAt t u es fs l k a (Ok found) → Looks g (at es l cs t) (at fs k cs u) a b
  look found b same h = subst (λ (v : Bool). Looks g (at es l cs t) (at fs k cs u) a v) same
      (looks_goes g es l c cs t u fs k a missing found h.led h.ok)

  -- the cache gave it
  pub found_done : (found : Bool) → found ≡ true → LookedAt t u es fs l k a (Ok found)
      → Provides g (at es l cs t) (at fs k cs u) a
  found_done found same h = provides_found g (at es l cs t) (at fs k cs u) a refl (look found true same h)

  -- memory was wanting in the look
  pub look_failed : (e : FileReconstructionError) → LookedAt t u es fs l k a (Err e)
      → BlockFails g (at es l cs t) (at fs k cs u) e
  look_failed e h = look_fails g es l cs t u fs k e h.memory h.err

  -- it wasn't there
  module _ (found : Bool) (no : found ≡ false) (h : LookedAt t u es fs l k a (Ok found)) where
    looked : Looks g (at es l cs t) (at fs k cs u) a false
    looked = look found false no h

    same_events : fs ≡ es
    same_events = looked.added ∙ append-nil es

    pub carries_on : Carries nobody g fs k
    carries_on = looked.goes.carries nobody (tells_nobody cs t) c

    pub missing_on : IsMissing fs a.plan a.block
    missing_on = subst (λ (v : List Event). IsMissing v a.plan a.block) (sym same_events) missing

    module _ (hs : List Event) (m : Led) (ds : List ClientTold) (v : CacheTold) where
      pub fetch_done : (answer : Answer) → OnOk answer (Fetches g (at fs k cs u) (at hs m ds v) a)
          → OnOk answer (Provides g (at es l cs t) (at hs m ds v) a)
      fetch_done (Ok tt) f = provides_fetched g (at es l cs t) (at fs k cs u) (at hs m ds v) a refl looked f
      fetch_done (Err e) f = tt

      pub fetch_failed : (answer : Answer) → IfErr answer (FetchFails g (at fs k cs u) (at hs m ds v))
          → IfErr answer (BlockFails g (at es l cs t) (at hs m ds v))
      fetch_failed (Ok tt) f = tt
      fetch_failed (Err e) f = fetch_fails g (at es l cs t) (at fs k cs u) (at hs m ds v) a refl looked e f
