-- What recording the answer of a connection comes to.
use Rattle.std.proofs.Common.{◌≡◌, ◌<◌, ℕ, Bool, List, [], ◌∷◌, ◌++◌, length, refl, sym, subst, ap, inl, inr, Ok, Err}
use Rattle.std.specs.Prelude.{Result}
use Rattle.xet_outside.specs.Told.{CacheTold, ClientTold}
use Rattle.xet_error.specs.declared.error.FileReconstructionError.{FileReconstructionError}
use Rattle.xet_error.specs.declared.error.FileReconstructionError.TheVariants as error
use Rattle.xet_offers.specs.declared.reconstruction_terms.xorb_block.XorbBlockData.{XorbBlockData}
use Rattle.xet_events.specs.declared.event.Event.{Event}
use Rattle.xet_events.specs.declared.event.Event.TheVariants.{Expired, Fetched, Refreshed}
use Rattle.xet_events.specs.Allowed.{IsAllowed}
use Rattle.xet_leader.specs.declared.leader.LedPlan.{LedPlan}
use Rattle.xet_leader.specs.declared.missing_blocks.BlockAt.{BlockAt}
use Rattle.xet_leader.specs.ByNumber.{plan_index}
use Rattle.xet_leader.specs.Keeping.{kept_one}
use Rattle.xet_leader.specs.Led.{Led}
use Rattle.xet_leader.specs.Offering.{OfferedBlock}
use Rattle.xet_leader.specs.Plans.{Answer, block_there}
use Rattle.xet_leader.specs.Stepping.{CountedAt, RefreshedPlan}
use Rattle.xet_stream_blocks.specs.steps.Fetching.{ExpireCall, KeepCall, Unrecorded}
use Rattle.xet_stream_blocks.proofs.Expiring.{within_counted}

unrecorded : (es fs : List Event) (l : Led) (e : FileReconstructionError) → e ≡ error.OutOfMemory → fs ≡ es
    → Unrecorded es fs l l (Err e)
unrecorded es fs l e memory same = record {
  memory = ap (λ (o : FileReconstructionError). let r : Answer = Err o in r) memory;
  events = same;
  led = refl;
}

-- ---- it was served

pub keep_short : (lane : ℕ) (a : BlockAt) (d : XorbBlockData) (t : CacheTold) (es fs : List Event) (l : Led)
    (e : FileReconstructionError) → e ≡ error.OutOfMemory → fs ≡ es → KeepCall lane a d t t es fs l l (Err e)
keep_short lane a d t es fs l e memory same = inl (unrecorded es fs l e memory same, refl)

pub keep_done : (lane : ℕ) (a : BlockAt) (d : XorbBlockData) (t u : CacheTold) (es fs : List Event) (l k : Led)
    (answer : Answer) → fs ≡ es ++ Fetched lane a.plan a.block ∷ []
    → k ≡ record l { plans = kept_one (a.plan, a.block, d) l.plans }
    → OfferedBlock (block_there k.plans a.block (plan_index k.plans a.plan)) t u answer
    → KeepCall lane a d t u es fs l k answer
keep_done lane a d t u es fs l k answer events led offered =
    inr (record { events = events; led = led; offered = offered })

-- ---- its URL had expired

module _ (lane : ℕ) (a : BlockAt) (tries : ℕ) (multi : Bool) (first : ClientTold) (es fs : List Event) (l : Led) where
  abbrev late : List Event
  late = es ++ Expired lane a.plan a.block ∷ []

  pub expire_short : (e : FileReconstructionError) → e ≡ error.OutOfMemory → fs ≡ es
      → ExpireCall lane a tries multi first first es fs l l (Err e)
  expire_short e memory same = inl (unrecorded es fs l e memory same, refl)

  module _ (events : fs ≡ late) where
    pub expire_spent : (k : Led) (e : FileReconstructionError) → CountedAt tries a l k (Err e)
        → ExpireCall lane a tries multi first first es fs l k (Err e)
    expire_spent k e counted = inr (inl (e, refl, record { events = events; counted = counted }, refl))

    pub refresh_allowed : IsAllowed late (Refreshed a.plan) → IsAllowed fs (Refreshed a.plan)
    refresh_allowed h = subst (λ (v : List Event). IsAllowed v (Refreshed a.plan)) (sym events) h

    module _ (m : Led) (counted : CountedAt tries a l m (Ok tt)) where
      pub refresh_within : plan_index l.plans a.plan < length l.plans → plan_index m.plans a.plan < length m.plans
      refresh_within h = subst (λ (ls : List LedPlan). plan_index ls a.plan < length ls) (sym counted.counts.counted)
          (within_counted (a.plan, a.block) l.plans a.plan h)

      pub expire_done : (next : ClientTold) (gs : List Event) (k : Led) (answer : Answer)
          → RefreshedPlan multi a.plan first next fs gs m k answer
          → ExpireCall lane a tries multi first next es gs l k answer
      expire_done next gs k answer call = inr (inr (record {
        middle = m;
        counted = counted;
        call = subst (λ (v : List Event). RefreshedPlan multi a.plan first next v gs m k answer) events call;
      }))
