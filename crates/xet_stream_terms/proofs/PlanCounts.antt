-- The events of a plan that was asked for.
use Rattle.std.proofs.Common.{◌≡◌, ℕ, List, [], refl, sym, subst, ap, arith, Option, Some, None}
use Rattle.std.specs.Prelude.{All}
use Rattle.std.proofs.lemmas.List.Elements.{All-cons, All-nil}
use Rattle.xet_base.specs.declared.cas_types.FileRange.{FileRange}
use Rattle.xet_events.specs.declared.event.Event.{Event}
use Rattle.xet_events.specs.declared.event.Event.TheVariants.{Planned}
use Rattle.xet_ties.specs.declared.lane_step.LaneStep.{LaneStep}
use Rattle.xet_ties.specs.History.{limits_of}
use Rattle.xet_ties.specs.Lanes.{Ask}
use Rattle.xet_ties.specs.Setup.{Setup}
use Rattle.xet_stream_rules.specs.StepTold.{Asks, IsOf}
use Rattle.xet_stream_rules.specs.Moments.{At}
use Rattle.xet_stream_terms.specs.Planning.{IsPlanOf, Plans}
use Rattle.xet_stream_rules.specs.Counts.{Counts, has}
use Rattle.xet_stream_terms.specs.PlanParts.{PlanPart}

pub counts_plan : (asked : Option FileRange) (new : List Event) → IsPlanOf asked new → Counts new (has asked) 0 0 0 0
counts_plan None new e = subst (λ (l : List Event). Counts l 0 0 0 0 0) (sym e) (record {
  plans_are = refl;
  cached_are = refl;
  fetched_are = refl;
  late_are = refl;
  refreshes_are = refl;
  pieces_are = refl;
  running_is = refl;
})
counts_plan (Some q) new e = subst (λ (l : List Event). Counts l 1 0 0 0 0) (sym e.3) (record {
  plans_are = refl;
  cached_are = refl;
  fetched_are = refl;
  late_are = refl;
  refreshes_are = refl;
  pieces_are = refl;
  running_is = refl;
})

pub of_plan_query : (lane : ℕ) (block : Option (Ask × LaneStep)) (again asked : Option FileRange) (new : List Event)
    → IsPlanOf asked new → All (IsOf lane (record { plan = asked; block = block; again = again })) new
of_plan_query lane block again None new e =
    subst (λ (l : List Event). All (IsOf lane (record { plan = None; block = block; again = again })) l) (sym e)
    (All-nil (IsOf lane (record { plan = None; block = block; again = again })))
of_plan_query lane block again (Some q) new e =
    let a : Asks = record { plan = Some q; block = block; again = again } in
    subst (λ (l : List Event). All (IsOf lane a) l) (sym e.3)
    (All-cons (IsOf lane a) (Planned e.0 q e.1 e.2) [] refl (All-nil (IsOf lane a)))

pub limits_plan : (asked : Option FileRange) (new : List Event) → IsPlanOf asked new → limits_of new ≡ []
limits_plan None new e = ap limits_of e
limits_plan (Some q) new e = ap limits_of e.3

-- the part of a step that was recorded
abbrev pub plan_part : (g : Setup) (x p : At) → p.cache ≡ x.cache → Plans g x p → PlanPart g x p
plan_part g x p cache h = record {
  asked = h.asked;
  calls = h.calls;
  new = h.new;
  added = h.added;
  plans = has h.asked;
  counts = counts_plan h.asked h.new h.is;
  few = omega arith;
  of_it = λ lane block again. of_plan_query lane block again h.asked h.new h.is;
  no_limits = limits_plan h.asked h.new h.is;
  lasts = h.goes.lasts;
  cache = cache;
}
