-- The parts of one step, by what their calls answered.
use Rattle.std.proofs.Common.{◌≡◌, inl, inr, ℕ, false, ◌∙◌, ◌<◌, List, [], ◌∷◌, length, refl, sym, subst, ap, arith, Option, Some, None, Ok, Err}
use Rattle.std.specs.Prelude.{get_or, map, slice_get}
use Rattle.std.proofs.lemmas.Option.{slice_get_read, slice_get_within}
use Rattle.xet_outside.specs.Told.{CacheTold, ClientTold}
use Rattle.xet_error.specs.declared.error.FileReconstructionError.{FileReconstructionError}
use Rattle.xet_events.specs.declared.event.Event.{Event}
use Rattle.xet_events.specs.Allowed.{IsMissing}
use Rattle.xet_events.specs.Events.{is_kept}
use Rattle.xet_events.specs.Limits.{LimitTold}
use Rattle.xet_ties.specs.Setup.{EachGoesOn, Setup}
use Rattle.xet_leader.specs.declared.ahead.NextTerm.{NextTerm}
use Rattle.xet_leader.specs.declared.leader.LedPlan.{LedPlan}
use Rattle.xet_leader.specs.declared.missing_blocks.BlockAt.{BlockAt}
use Rattle.xet_leader.specs.Led.{Led}
use Rattle.xet_leader.specs.LedTerms.{IsNextTerm}
use Rattle.xet_leader.proofs.CallerLemmas.{same_found}
use Rattle.xet_stream_rules.specs.declared.step.Step.TheVariants.{Ready}
use Rattle.xet_stream_rules.specs.Moments.{At, at}
use Rattle.xet_stream_rules.specs.Streams.{Carries, nobody}
use Rattle.xet_stream_rules.proofs.CallerLemmas.{tells_nobody}
use Rattle.xet_stream_terms.specs.Admitting.{AdmitsCall, AdmitsNext}
use Rattle.xet_stream_terms.specs.Handing.{HandsTerm, IsOpenNext}
use Rattle.xet_stream_terms.proofs.CallerLemmas.{next_missing}
use Rattle.xet_stream_blocks.specs.Providing.{Provides}
use Rattle.xet_stream_terms.specs.PlanParts.{PlanFails}
use Rattle.xet_stream_terms.specs.Planning.{PlansNext}
use Rattle.xet_streams.specs.steps.Stepping.{DeliversCall, IsPlaceOf, ServesCall, StepAnswer, TakesStep}
use Rattle.xet_streams.proofs.Delivered.{delivers, delivers_vain}
use Rattle.xet_streams.proofs.Stepped.{none_planned, plan_failed}

-- connections that went on are as many
pub some_on : {C : Type 0} (told : C → ClientTold) (cs ds : List C) → EachGoesOn (map told cs) (map told ds)
    → 0 < length cs → 0 < length ds
some_on told [] ds g h = absurd (omega (arith, h))
some_on told (c ∷ cs) [] g h = absurd g
some_on told (c ∷ cs) (d ∷ ds) g h = omega arith

-- ---- `take_step`

pub planned_some : (g : Setup) (x y : At) (r : _) (o : Option NextTerm) (n : NextTerm) → o ≡ Some n
    → PlansNext g x y r o → PlansNext g x y r (Some n)
planned_some g x y r o n e h = subst (PlansNext g x y r) e h

pub planned_carries : (g : Setup) (x y : At) (r : _) (o : Option NextTerm) → Carries nobody g x.events x.led
    → PlansNext g x y r o → Carries nobody g y.events y.led
planned_carries g x y r o c h = h.plans.goes.carries nobody (tells_nobody x.clients x.cache) c

pub step_none : (g : Setup) (x p : At) (l : LimitTold) (r : _) (o : Option NextTerm) → o ≡ None
    → Carries nobody g x.events x.led → p.cache ≡ x.cache → PlansNext g x p r o
    → TakesStep g x p l l r (Ok (Ready None))
step_none g x p l r o e c cache h = record {
  ok = none_planned g x p l r c cache (subst (PlansNext g x p r) e h);
  err = tt;
}

pub step_vain : (g : Setup) (x y : At) (l : LimitTold) (r : _) (e : FileReconstructionError) → PlanFails g x y e
    → TakesStep g x y l l r (Err e)
step_vain g x y l r e h = record { ok = tt; err = plan_failed g x y l e h }

-- ---- `deliver`

-- the plan that was read is that of the place
pub place_read : (ls : List LedPlan) (l : Led) → ls ≡ l.plans → (n : NextTerm) → IsNextTerm l n → (p : LedPlan)
    → p ≡ get_or ls n.place p → slice_get l.plans n.place ≡ Some p
place_read ls l same n x p is =
    let at : slice_get ls n.place ≡ Some x.plan = ap (λ (v : List LedPlan). slice_get v n.place) same ∙ x.at in
    ap (λ (v : List LedPlan). slice_get v n.place) (sym same)
    ∙ slice_get_read ls (length ls) n.place p refl (slice_get_within ls n.place x.plan at) is

-- a block of the next term that isn't kept is missing
pub place_missing : (g : Setup) (es : List Event) (l : Led) → Carries nobody g es l → (n : NextTerm)
    → (next : IsOpenNext l n) → (place : BlockAt) → (is : IsPlaceOf l.plans n place)
    → is_kept es place.plan place.block ≡ false → IsMissing es place.plan place.block
place_missing g es l c n next place is absent =
    let p : is.plan ≡ next.next.plan = same_found is.plan next.next.plan l.plans n.place n.place is.at next.next.at refl in
    let plan_is : place.plan ≡ next.next.plan.number = is.plan_is ∙ ap (λ (z : LedPlan). z.number) p in
    let b = n.term.xorb_block in
    let unkept : is_kept es next.next.plan.number b ≡ false =
    ap (λ (q : ℕ). is_kept es q b) (sym plan_is) ∙ ap (λ (k : ℕ). is_kept es place.plan k) (sym is.block_is) ∙ absent in
    subst (λ (q : ℕ). IsMissing es q place.block) (sym plan_is)
    (subst (λ (k : ℕ). IsMissing es next.next.plan.number k) (sym is.block_is)
    (next_missing g es l c n next.next next.open_now unkept))

pub delivered_by : (g : Setup) (a m : At) (c : Carries nobody g a.events a.led) (n : NextTerm)
    (next : IsOpenNext a.led n) (place : BlockAt) (is : IsPlaceOf a.led.plans n place) (provided : Provides g a m place)
    (k : NextTerm) (fs : List Event) (l : Led) (answer : StepAnswer) → HandsTerm m.events fs m.led l k answer
    → DeliversCall g a (at fs l m.clients m.cache) answer
delivered_by g a m c n next place is provided k fs l (Ok o) t = record {
  ok = delivers g a m c n next place is provided k fs l o t;
  err = tt;
}
delivered_by g a m c n next place is provided k fs l (Err e) t = record {
  ok = tt;
  err = delivers_vain g a m c n next place is provided k fs l e t;
}

-- ---- `serve`

module _ (g : Setup) (es fs : List Event) (l k : Led) (cs : List ClientTold) (t : CacheTold) (before after : LimitTold)
    (n : NextTerm) (c : Carries nobody g es l) (next : IsNextTerm l n) where
  -- the next one is admitted now
  pub admitted_open : AdmitsNext g (at es l cs t) (at fs k cs t) before after n → IsOpenNext k n
  admitted_open a =
      let f = ap (λ (m : Led). m.finished) a.led in
      let r = a.reached in
      record { next = subst (λ (m : Led). IsNextTerm m n) (sym a.led) next; open_now = omega (arith, f, r) }

  pub admitted_carries : AdmitsNext g (at es l cs t) (at fs k cs t) before after n → Carries nobody g fs k
  admitted_carries a = a.goes.carries nobody (tells_nobody cs t) c

  pub served_by : (y : At) (answer : StepAnswer) → AdmitsNext g (at es l cs t) (at fs k cs t) before after n
      → DeliversCall g (at fs k cs t) y answer → ServesCall g (at es l cs t) y before after n answer
  served_by y (Ok answer) a d = record {
    ok = record {
      middle = at fs k cs t;
      admitted = record { admits = a; clients = refl; cache = refl };
      delivers = d.ok;
    };
    err = tt;
  }
  served_by y (Err e) a d = record {
    ok = tt;
    err = inr (record {
      middle = at fs k cs t;
      admitted = record { admits = a; clients = refl; cache = refl };
      fails = d.err;
    });
  }

  pub served_short : (e : FileReconstructionError)
      → AdmitsCall g (at es l cs t) (at fs k cs t) before after n (Err e)
      → ServesCall g (at es l cs t) (at fs k cs t) before after n (Err e)
  served_short e a = record {
    ok = tt;
    err = inl (record {
      memory = a.err.0;
      last = a.err.1;
      admits = a.err.2;
      clients = refl;
      cache = refl;
    });
  }
