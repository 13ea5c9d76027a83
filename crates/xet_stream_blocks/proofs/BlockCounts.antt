-- The events of a block that was asked for.
use Rattle.std.proofs.Common.{◌≡◌, ℕ, ◌+◌, ◌≤◌, List, [], ◌∷◌, refl, sym, subst, ap, arith, inl, inr, Option, Some, None}
use Rattle.std.specs.Prelude.{All}
use Rattle.std.proofs.lemmas.List.Elements.{All-cons, All-nil}
use Rattle.xet_base.specs.declared.cas_types.FileRange.{FileRange}
use Rattle.xet_events.specs.declared.event.Event.{Event}
use Rattle.xet_events.specs.declared.event.Event.TheVariants.{Cached, Expired, Fetched, Refreshed}
use Rattle.xet_ties.specs.declared.lane_step.LaneStep.{LaneStep}
use Rattle.xet_ties.specs.declared.lane_step.LaneStep.TheVariants as step
use Rattle.xet_ties.specs.History.{limits_of}
use Rattle.xet_ties.specs.Lanes.{Ask}
use Rattle.xet_ties.specs.Setup.{Setup}
use Rattle.xet_leader.specs.declared.missing_blocks.BlockAt.{BlockAt}
use Rattle.xet_stream_rules.specs.StepTold.{Asks, IsOf}
use Rattle.xet_stream_rules.specs.Moments.{At}
use Rattle.xet_stream_blocks.specs.Providing.{IsProvision, Provides}
use Rattle.xet_stream_blocks.specs.BlockParts.{BlockPart}
use Rattle.xet_stream_rules.specs.Counts.{Counts, has}

-- the events of a block: how many are of the cache, how many of a fetch, and how many of an expiry
pub record CountsBlock (block : Option (Ask × LaneStep)) (again : Option FileRange) (new : List Event) : Type 0 where
  pub cached : ℕ
  pub fetched : ℕ
  pub late : ℕ
  pub are : Counts new 0 cached fetched late (has again)
  pub one : fetched + late ≡ has block
  pub few : cached + fetched + late ≤ 1

pub counts_block : (lane : ℕ) (c : BlockAt) (block : Option (Ask × LaneStep)) (again : Option FileRange) (new : List Event)
    → IsProvision lane c block again new → CountsBlock block again new
counts_block lane c None None new (inl e) = record {
  cached = 0;
  fetched = 0;
  late = 0;
  are = subst (λ (l : List Event). Counts l 0 0 0 0 0) (sym e) (record {
    plans_are = refl;
    cached_are = refl;
    fetched_are = refl;
    late_are = refl;
    refreshes_are = refl;
    pieces_are = refl;
    running_is = refl;
  });
  one = refl;
  few = omega arith;
}
counts_block lane c None None new (inr e) = record {
  cached = 1;
  fetched = 0;
  late = 0;
  are = subst (λ (l : List Event). Counts l 0 1 0 0 0) (sym e) (record {
    plans_are = refl;
    cached_are = refl;
    fetched_are = refl;
    late_are = refl;
    refreshes_are = refl;
    pieces_are = refl;
    running_is = refl;
  });
  one = refl;
  few = omega arith;
}
counts_block lane c (Some a) None new e = record {
  cached = 0;
  fetched = 1;
  late = 0;
  are = subst (λ (l : List Event). Counts l 0 0 1 0 0) (sym e.6) (record {
    plans_are = refl;
    cached_are = refl;
    fetched_are = refl;
    late_are = refl;
    refreshes_are = refl;
    pieces_are = refl;
    running_is = refl;
  });
  one = refl;
  few = omega arith;
}
counts_block lane c (Some a) (Some q) new e = record {
  cached = 0;
  fetched = 0;
  late = 1;
  are = subst (λ (l : List Event). Counts l 0 0 0 1 1) (sym e.1) (record {
    plans_are = refl;
    cached_are = refl;
    fetched_are = refl;
    late_are = refl;
    refreshes_are = refl;
    pieces_are = refl;
    running_is = refl;
  });
  one = refl;
  few = omega arith;
}
counts_block lane c None (Some q) new e = absurd e

pub of_block : (lane : ℕ) (c : BlockAt) (plan : Option FileRange) (block : Option (Ask × LaneStep))
    (again : Option FileRange) (new : List Event) → IsProvision lane c block again new
    → All (IsOf lane (record { plan = plan; block = block; again = again })) new
of_block lane c plan None None new (inl e) =
    let a : Asks = record { plan = plan; block = None; again = None } in
    subst (λ (l : List Event). All (IsOf lane a) l) (sym e) (All-nil (IsOf lane a))
of_block lane c plan None None new (inr e) =
    let a : Asks = record { plan = plan; block = None; again = None } in
    subst (λ (l : List Event). All (IsOf lane a) l) (sym e)
    (All-cons (IsOf lane a) (Cached c.plan c.block) [] tt (All-nil (IsOf lane a)))
of_block lane c plan (Some b) None new e =
    let a : Asks = record { plan = plan; block = Some b; again = None } in
    let is : a.block ≡ Some (b.0, step.Served e.0 e.1 e.2) =
    ap (λ (s : LaneStep). Some (b.0, s)) e.3 in
    subst (λ (l : List Event). All (IsOf lane a) l) (sym e.6)
    (All-cons (IsOf lane a) (Fetched lane c.plan c.block) []
    (refl, b.0, step.Served e.0 e.1 e.2, is, (e.4, e.5)) (All-nil (IsOf lane a)))
of_block lane c plan (Some b) (Some q) new e =
    let a : Asks = record { plan = plan; block = Some b; again = Some q } in
    let is : a.block ≡ Some (b.0, step.Expired c.plan c.block) = ap (λ (s : LaneStep). Some (b.0, s)) e.0 in
    subst (λ (l : List Event). All (IsOf lane a) l) (sym e.1)
    (All-cons (IsOf lane a) (Expired lane c.plan c.block) (Refreshed c.plan ∷ []) (refl, b.0, is)
    (All-cons (IsOf lane a) (Refreshed c.plan) [] (q, refl) (All-nil (IsOf lane a))))
of_block lane c plan None (Some q) new e = absurd e

pub limits_block : (lane : ℕ) (c : BlockAt) (block : Option (Ask × LaneStep)) (again : Option FileRange) (new : List Event)
    → IsProvision lane c block again new → limits_of new ≡ []
limits_block lane c None None new (inl e) = ap limits_of e
limits_block lane c None None new (inr e) = ap limits_of e
limits_block lane c (Some a) None new e = ap limits_of e.6
limits_block lane c (Some a) (Some q) new e = ap limits_of e.1
limits_block lane c None (Some q) new e = absurd e

-- the part of a step that was recorded
abbrev pub block_part : (g : Setup) (a y : At) (c : BlockAt) → Provides g a y c → BlockPart g a y
block_part g a y c h =
    let z = counts_block h.lane c h.block h.again h.new h.is in
    let one = z.one in
    record {
      block = h.block;
      again = h.again;
      new = h.new;
      added = h.added;
      lane = h.lane;
      turn = h.turn;
      fetched = h.fetched;
      asked = h.asked;
      renewed = h.renewed;
      cached = z.cached;
      served = z.fetched;
      late = z.late;
      refreshed = has h.again;
      counts = z.are;
      few = z.few;
      of_block = omega (arith, one);
      of_again = omega arith;
      of_it = λ plan. of_block h.lane c plan h.block h.again h.new h.is;
      no_limits = limits_block h.lane c h.block h.again h.new h.is;
      cache = h.cache;
      lasts = h.goes.lasts;
    }
