-- The steps of asking for the plan that is due.
use Rattle.std.proofs.Common.{◌≡◌, ℕ, zero, suc, ◌+◌, ◌^◌, ◌<◌, ◌≤◌, List, [], ◌∷◌, ◌++◌, length, take, refl, sym, subst, ◌∙◌, ap, arith, Option, Some, Ok}
use Rattle.std.specs.Prelude.{true, MatchOption, map}
use Rattle.std.proofs.lemmas.List.{take_all}
use Rattle.xet_outside.specs.Told.{ClientTold, SignalTold}
use Rattle.xet_blocks.specs.declared.reconstruction_terms.file_term.TermBlock.{TermBlock}
use Rattle.xet_blocks.specs.PlanQuery.{PlanQuery}
use Rattle.xet_offers.specs.declared.reconstruction_terms.xorb_block.XorbBlock.{XorbBlock}
use Rattle.xet_events.specs.declared.event.Event.{Event}
use Rattle.xet_terms.specs.Managers.{Manager}
use Rattle.xet_terms.specs.declared.manager.PlanDue.{PlanDue}
use Rattle.xet_ties.specs.Setup.{Setup}
use Rattle.xet_parts.specs.DueQueries.{NextDueCall, NoneDue, OneDue}
use Rattle.xet_parts.specs.PlanAsks.{PlansAllowed}
use Rattle.xet_leader.specs.declared.leader.Job.{Job}
use Rattle.xet_leader.specs.declared.leader.LedPlan.{LedPlan}
use Rattle.xet_leader.specs.Asking.{AskTurn, FirstAsked, HandsOn, IsAdded, JoinsPlans}
use Rattle.xet_leader.specs.Led.{IsLedManager, Led}
use Rattle.xet_leader.proofs.NextQueries.{IsDue, led_due}

-- a plan that waited joins the plans
pub joins_plans : (number : ℕ) (v l : Led) (m : Manager) (b : TermBlock) (x : LedPlan) (ls : List LedPlan)
    (planned more : ℕ) → v ≡ l → (v.manager.waiting ≡ b ∷ m.waiting)
    × (m ≡ record v.manager { waiting = m.waiting; handed_end = b.byte_range.end })
    → IsAdded x number v.planned b → more ≡ length b.terms
    → (v.planned + more < 2 ^ 64) × (planned ≡ v.planned + more) → ls ≡ v.plans ++ x ∷ []
    → HandsOn number l (record {
      manager = m;
      plans = ls;
      planned = planned;
      admitted = v.admitted;
      finished = v.finished;
      fetches = v.fetches;
    }) l.manager.waiting
joins_plans number v l m b x ls planned more is handed added terms sum pushed =
    subst (λ (z : Led). HandsOn number z (record {
      manager = m;
      plans = ls;
      planned = planned;
      admitted = v.admitted;
      finished = v.finished;
      fetches =
          v.fetches;
    }) z.manager.waiting) is
    (subst (λ (ws : List TermBlock). HandsOn number v
    (record {
      manager = m;
      plans = ls;
      planned = planned;
      admitted = v.admitted;
      finished = v.finished;
      fetches = v.fetches;
    }) ws) (sym handed.0) joins)
  where
    joins : JoinsPlans number v (record {
      manager = m;
      plans = ls;
      planned = planned;
      admitted = v.admitted;
      finished = v.finished;
      fetches = v.fetches;
    }) b m.waiting
    joins = record {
      added = x;
      is = added;
      fits = subst (λ (n : ℕ). v.planned + n < 2 ^ 64) terms sum.0;
      led = ap (λ (z : Manager). let k : Led = record {
        manager = z;
        plans = ls;
        planned = planned;
        admitted = v.admitted;
        finished = v.finished;
        fetches =
            v.fetches;
      } in k) handed.1
          ∙ ap (λ (zs : List LedPlan). let k : Led = record v {
            manager = record v.manager { waiting = m.waiting; handed_end = b.byte_range.end };
            plans = zs;
            planned = planned;
          } in k) pushed
          ∙ ap (λ (n : ℕ). let k : Led = record v {
            manager = record v.manager {
              waiting = m.waiting;
              handed_end = b.byte_range.end;
            };
            plans = v.plans ++ x ∷ [];
            planned = n;
          } in k)
          (sum.1 ∙ ap (λ (n : ℕ). v.planned + n) terms);
    }

-- the query that was found due
pub found_due : (m now : Manager) (x y : SignalTold) (o : Option PlanDue) (d : PlanDue) → o ≡ Some d
    → NextDueCall m now x y (Ok o) → OneDue m now x y d
found_due m now x y o d is call = subst (λ (p : Option PlanDue). MatchOption p (NoneDue m now x y) (OneDue m now x y))
    is call.ok

pub due_of : (g : Setup) (es : List Event) (v l : Led) (now : Manager) (x y : SignalTold) (o : Option PlanDue)
    (d : PlanDue) → v ≡ l → o ≡ Some d → NextDueCall v.manager now x y (Ok o) → IsLedManager g es l.manager
    → IsDue g es now d.query
due_of g es v l now x y o d same is call led = led_due g es v.manager now d
    (subst (λ (z : Led). IsLedManager g es z.manager) (sym same) led) (found_due v.manager now x y o d is call).takes

-- it was asked, and its plan handed on
pub one_asked : (j : Job) (cs ns : List ClientTold) (x y : SignalTold) (es fs : List Event) (v l w k : Led)
    (middle : Manager) (o : Option PlanDue) (d : PlanDue) → v ≡ l → o ≡ Some d
    → NextDueCall v.manager middle x y (Ok o)
    → FirstAsked j cs ns es fs middle w.manager d (Ok tt) → w ≡ record v { manager = w.manager }
    → HandsOn d.id.plan w k w.manager.waiting → AskTurn j cs ns x y es fs l k (Ok true)
one_asked j cs ns x y es fs v l w k middle o d same is call asked rest hands =
    subst (λ (z : Led). AskTurn j cs ns x y es fs z k (Ok true)) same
    (record {
      ok = record {
        asked = record {
          due = d;
          middle = middle;
          one = found_due v.manager middle x y o d is call;
          now = w.manager;
          asked = asked;
        };
        hands = subst (λ (z : Led). HandsOn d.id.plan z k w.manager.waiting) rest hands;
      };
      err = tt;
    })

pub allowed_inside : (v l : Led) (es : List Event) (query : PlanQuery) → v ≡ l → PlansAllowed l.manager es query
    → PlansAllowed v.manager es query
allowed_inside v l es query same a = subst (λ (z : Led). PlansAllowed z.manager es query) (sym same) a

-- one more block without tries
zeros : (xs : List XorbBlock) (i : ℕ) → i < length xs
    → map {B = ℕ} (λ (x : XorbBlock). 0) (take (suc i) xs) ≡ map {B = ℕ} (λ (x : XorbBlock). 0) (take i xs) ++ 0 ∷ []
zeros [] i h = absurd (omega arith)
zeros (x ∷ xs) zero h = refl
zeros (x ∷ xs) (suc i) h = ap (λ (l : List ℕ). 0 ∷ l) (zeros xs i (omega arith))

pub tries_more : (xs : List XorbBlock) (i : ℕ) (ts us : List ℕ) → i < length xs
    → ts ≡ map {B = ℕ} (λ (x : XorbBlock). 0) (take i xs) → us ≡ ts ++ 0 ∷ []
    → us ≡ map {B = ℕ} (λ (x : XorbBlock). 0) (take (i + 1) xs)
tries_more xs i ts us h before more =
    let e : suc i ≡ i + 1 = omega arith in
    more ∙ ap (λ (l : List ℕ). l ++ 0 ∷ []) before ∙ sym (zeros xs i h)
    ∙ ap (λ (n : ℕ). map {B = ℕ} (λ (x : XorbBlock). 0) (take n xs)) e

-- all of them
pub tries_all : (xs : List XorbBlock) (i : ℕ) (ts : List ℕ) → length xs ≤ i
    → ts ≡ map {B = ℕ} (λ (x : XorbBlock). 0) (take i xs) → ts ≡ map {B = ℕ} (λ (x : XorbBlock). 0) xs
tries_all xs i ts h are = are ∙ ap (λ (l : List XorbBlock). map {B = ℕ} (λ (x : XorbBlock). 0) l) (take_all i xs h)
