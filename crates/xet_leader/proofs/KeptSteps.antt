-- A loop that keeps the served blocks of steps one after another.
use Rattle.std.proofs.Common.{◌≡◌, ℕ, Bool, true, false, cond, List, [], ◌∷◌, ◌++◌, refl, sym, subst, ◌∙◌, ap, append_assoc}
use Rattle.std.specs.Prelude.{None, Option, Some, slice_get, slice_set}
use Rattle.std.specs.Option.{is_none, is_some}
use Rattle.std.proofs.lemmas.Grind.{flat_map-append}
use Rattle.std.proofs.lemmas.List.{append-nil}
use Rattle.xet_offers.specs.declared.reconstruction_terms.xorb_block.XorbBlock.{XorbBlock}
use Rattle.xet_offers.specs.declared.reconstruction_terms.xorb_block.XorbBlockData.{XorbBlockData}
use Rattle.xet_ties.specs.declared.lane_step.LaneStep.{LaneStep}
use Rattle.xet_ties.specs.Recordings.{Place, places_in, places_of}
use Rattle.xet_ties.specs.Rounds.{got_in, got_of}
use Rattle.xet_lane.specs.declared.joined.LaneEnd.{LaneEnd}
use Rattle.xet_leader.specs.ByNumber.{change_at, only, plan_index}
use Rattle.xet_leader.specs.declared.keeping.RoundPlaces.{RoundPlaces}
use Rattle.xet_leader.specs.declared.leader.LedPlan.{LedPlan}
use Rattle.xet_leader.specs.KeptBlocks.{kept_in_plan, kept_in_plans, with_data}
use Rattle.xet_leader.specs.Keeping.{Given, KeptSteps, all_steps, given_in, given_of, keep_data, keep_in, kept, kept_one, places_at}
use Rattle.xet_leader.proofs.ChangedPlans.{change_is_set, change_none, change_same, only_is, only_not, put_same}

-- ---- one block

pub block_none : (found : XorbBlockData) (k : ℕ) (xs : List XorbBlock) → slice_get xs k ≡ None
    → xs ≡ change_at k (keep_data found) xs
block_none found k xs h = sym (change_none (keep_data found) k xs h)

pub block_there : (found : XorbBlockData) (k : ℕ) (xs : List XorbBlock) (x y : XorbBlock) → slice_get xs k ≡ Some x
    → is_none x.kept ≡ true → y ≡ record x { kept = Some found } → slice_set xs k y ≡ change_at k (keep_data found) xs
block_there found k xs x y h none is =
    let to : keep_data found x ≡ record x { kept = Some found } =
    ap (λ (v : Bool). cond v x (record x { kept = Some found })) (none_some x.kept none) in
    ap (λ (z : XorbBlock). slice_set xs k z) (is ∙ sym to) ∙ sym (change_is_set (keep_data found) k xs x h)
  where
    none_some : (o : Option XorbBlockData) → is_none o ≡ true → is_some o ≡ false
    none_some None n = refl
    none_some (Some d) n = absurd (cc)

pub block_had : (found : XorbBlockData) (k : ℕ) (xs : List XorbBlock) (x : XorbBlock) → slice_get xs k ≡ Some x
    → is_none x.kept ≡ false → slice_set xs k x ≡ change_at k (keep_data found) xs
block_had found k xs x h some =
    put_same xs k x h ∙ sym (change_same (keep_data found) k xs x h
    (ap (λ (v : Bool). cond v x (record x { kept = Some found })) (some_some x.kept some)))
  where
    some_some : (o : Option XorbBlockData) → is_none o ≡ false → is_some o ≡ true
    some_some None n = absurd (cc)
    some_some (Some d) n = refl

-- ---- one plan

pub plan_none : (c : Given) (ls : List LedPlan) (i : ℕ) → i ≡ plan_index ls c.0 → slice_get ls i ≡ None
    → ls ≡ kept_one c ls
plan_none c ls i is h = sym (change_none (only c.0 (keep_in c.1 c.2)) (plan_index ls c.0) ls
    (ap (λ (j : ℕ). slice_get ls j) (sym is) ∙ h))

pub plan_other : (c : Given) (ls : List LedPlan) (i : ℕ) (l : LedPlan) → i ≡ plan_index ls c.0
    → slice_get ls i ≡ Some l → (l.number ≡ c.0 → ⊥) → slice_set ls i l ≡ kept_one c ls
plan_other c ls i l is h off = put_same ls i l h
    ∙ sym (change_same (only c.0 (keep_in c.1 c.2)) (plan_index ls c.0) ls l
    (ap (λ (j : ℕ). slice_get ls j) (sym is) ∙ h) (only_not c.0 (keep_in c.1 c.2) l off))

pub plan_there : (c : Given) (ls : List LedPlan) (i : ℕ) (l k : LedPlan) → i ≡ plan_index ls c.0
    → slice_get ls i ≡ Some l → l.number ≡ c.0 → k ≡ keep_in c.1 c.2 l → slice_set ls i k ≡ kept_one c ls
plan_there c ls i l k is h on to =
    ap (λ (j : ℕ). slice_set ls j k) is ∙ ap (λ (x : LedPlan). slice_set ls (plan_index ls c.0) x)
    (to ∙ sym (only_is c.0 (keep_in c.1 c.2) l on))
    ∙ sym (change_is_set (only c.0 (keep_in c.1 c.2)) (plan_index ls c.0) ls l
    (ap (λ (j : ℕ). slice_get ls j) (sym is) ∙ h))

-- ---- steps one after another

-- the plans of which a block without data keeps it
pub kept_here : (ls : List LedPlan) (l : LedPlan) (i p k : ℕ) (x : XorbBlock) (found : XorbBlockData)
    → plan_index ls p ≡ i → slice_get ls i ≡ Some l → l.number ≡ p → slice_get l.block.blocks k ≡ Some x
    → is_some x.kept ≡ false → kept_one (p, k, found) ls ≡ kept_in_plans ls i l k x found
kept_here ls l i p k x found place at number in_plan none =
    let f : LedPlan → LedPlan = only p (keep_in k found) in
    let data_of : keep_data found x ≡ with_data x found =
    ap (λ (v : Bool). cond v x (record x { kept = Some found })) none in
    let blocks : change_at k (keep_data found) l.block.blocks ≡ slice_set l.block.blocks k (with_data x found) =
    change_is_set (keep_data found) k l.block.blocks x in_plan
    ∙ ap (λ (y : XorbBlock). slice_set l.block.blocks k y) data_of in
    let to : f l ≡ kept_in_plan l k x found = only_is p (keep_in k found) l number
    ∙ ap (λ (bs : List XorbBlock). record l { block = record l.block { blocks = bs } }) blocks in
    ap (λ (n : ℕ). change_at n f ls) place ∙ change_is_set f i ls l at ∙ ap (λ (y : LedPlan). slice_set ls i y) to

pub kept-append : (xs ys : List Given) (ls : List LedPlan) → kept (xs ++ ys) ls ≡ kept ys (kept xs ls)
kept-append [] ys ls = refl
kept-append (x ∷ xs) ys ls = kept-append xs ys (kept_one x ls)

pub steps_none : (ls : List LedPlan) (r : RoundPlaces) → KeptSteps [] ls ls r r
steps_none ls r = record {
  plans = refl;
  served = sym (append-nil (places_at r.served.items));
  late = sym (append-nil (places_at r.late.items));
}

pub steps_then : (xs ys : List LaneStep) (ls ms ks : List LedPlan) (r s t : RoundPlaces) → KeptSteps xs ls ms r s
    → KeptSteps ys ms ks s t → KeptSteps (xs ++ ys) ls ks r t
steps_then xs ys ls ms ks r s t a c = record {
  plans = c.plans ∙ ap (λ (x : List LedPlan). kept (given_of ys) x) a.plans
      ∙ sym (kept-append (given_of xs) (given_of ys) ls)
      ∙ ap (λ (x : List Given). kept x ls) (sym (flat_map-append given_in xs ys));
  served = c.served ∙ ap (λ (x : List Place). x ++ got_of ys) a.served
      ∙ append_assoc (places_at r.served.items) (got_of xs) (got_of ys)
      ∙ ap (λ (x : List Place). places_at r.served.items ++ x) (sym (flat_map-append got_in xs ys));
  late = c.late ∙ ap (λ (x : List Place). x ++ places_of ys) a.late
      ∙ append_assoc (places_at r.late.items) (places_of xs) (places_of ys)
      ∙ ap (λ (x : List Place). places_at r.late.items ++ x) (sym (flat_map-append places_in xs ys));
}

-- a lane more
pub ends_more : (es : List LaneEnd) (e : LaneEnd) (ls ms ks : List LedPlan) (r s t : RoundPlaces)
    → KeptSteps (all_steps es) ls ms r s → KeptSteps e.steps.items ms ks s t
    → KeptSteps (all_steps (es ++ e ∷ [])) ls ks r t
ends_more es e ls ms ks r s t a c =
    let same : all_steps (es ++ e ∷ []) ≡ all_steps es ++ e.steps.items =
    flat_map-append (λ (x : LaneEnd). x.steps.items) es (e ∷ [])
    ∙ ap (λ (l : List LaneStep). all_steps es ++ l) (append-nil e.steps.items) in
    subst (λ (l : List LaneStep). KeptSteps l ls ks r t) (sym same)
    (steps_then (all_steps es) e.steps.items ls ms ks r s t a c)
