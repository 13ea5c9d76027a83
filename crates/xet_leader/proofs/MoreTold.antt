-- A leader where more was heard, or more looks came.
use Rattle.std.proofs.Common.{◌≡◌, ℕ, ◌+◌, List, [], ◌∷◌, ◌++◌, sym, subst, ◌∙◌, inl, inr, ⊎_elim}
use Rattle.std.specs.Prelude.{All}
use Rattle.std.proofs.lemmas.List.{append-nil}
use Rattle.std.proofs.lemmas.List.Elements.{All-cons, All-head, All-nil, All-tail, Contains-append_left}
use Rattle.std.proofs.lemmas.Option.{IfSome_then}
use Rattle.xet_offers.specs.declared.reconstruction_terms.xorb_block.XorbBlock.{XorbBlock}
use Rattle.xet_offers.specs.declared.reconstruction_terms.xorb_block.XorbBlockData.{XorbBlockData}
use Rattle.xet_events.specs.declared.event.Event.{Event}
use Rattle.xet_ties.specs.InCall.{EachGrew, Look}
use Rattle.xet_ties.specs.Saids.{IsLookedData, IsTestedData}
use Rattle.xet_ties.specs.Setup.{RunTold, Setup}
use Rattle.xet_ties.specs.Ties.{Slack}
use Rattle.xet_ties.proofs.CallerLemmas.{accepted_more, grew_none, served_more, tested_data_more}
use Rattle.xet_leader.specs.declared.leader.LedPlan.{LedPlan}
use Rattle.xet_leader.specs.Led.{AreLedPlans, EachLedBlock, IsLed, IsLedData, IsLedPlan, Led, bare, true_data}

-- what was heard grew, and there are more looks
pub record TellsMore (sl to : Slack) : Type 0 where
  pub heard : EachGrew sl.heard to.heard
  pub new : List Look
  pub looks : to.looks ≡ sl.looks ++ new

-- by what was heard alone
pub tells_more_heard : (sl to : Slack) → EachGrew sl.heard to.heard → to.looks ≡ sl.looks → TellsMore sl to
tells_more_heard sl to h l = record { heard = h; new = []; looks = l ∙ sym (append-nil sl.looks) }

-- by looks alone
pub tells_more_looks : (sl to : Slack) (new : List Look) → to.heard ≡ sl.heard → to.looks ≡ sl.looks ++ new
    → TellsMore sl to
tells_more_looks sl to new h l = record {
  heard = subst (EachGrew sl.heard) (sym h) (grew_none sl.heard);
  new = new;
  looks = l;
}

looked_more : (looks new : List Look) (x : XorbBlock) (d : XorbBlockData) → IsLookedData looks x d
    → IsLookedData (looks ++ new) x d
looked_more looks new x d h = record {
  range = h.range;
  given = h.given;
  one = h.one;
  looked = Contains-append_left looks new _ h.looked;
  passes = h.passes;
  made = h.made;
}

-- what a block keeps
pub data_more : (b : RunTold) (sl to : Slack) (p k : ℕ) (x : XorbBlock) → TellsMore sl to → IsLedData b sl p k x
    → IsLedData b to p k x
data_more b sl to p k x t h = record {
  tested = IfSome_then x.kept h.tested (λ d a. subst (λ (ls : List Look). IsTestedData to.heard ls p k (bare x) d)
      (sym t.looks) (tested_data_more sl.heard to.heard sl.looks t.new p k (bare x) d t.heard a));
  sound = λ s o. IfSome_then x.kept (h.sound s o) (λ d a. ⊎_elim
      (λ (c : IsLookedData sl.looks (bare x) d). inl
      (subst (λ (ls : List Look). IsLookedData ls (bare x) d) (sym t.looks)
      (looked_more sl.looks t.new (bare x) d c)))
      (λ (c : d ≡ true_data s x). inr c)
      a);
  honest = h.honest;
}

blocks_more : (b : RunTold) (es : List Event) (sl to : Slack) (p k : ℕ) (ts : List ℕ) (xs : List XorbBlock)
    → TellsMore sl to → EachLedBlock b es sl p k ts xs → EachLedBlock b es to p k ts xs
blocks_more b es sl to p k [] [] t a = tt
blocks_more b es sl to p k [] (x ∷ xs) t a = absurd a
blocks_more b es sl to p k (n ∷ ts) [] t a = absurd a
blocks_more b es sl to p k (n ∷ ts) (x ∷ xs) t a = (
  record {
    tries_are = a.0.tries_are;
    kept = a.0.kept;
    data_is = data_more b sl to p k x t a.0.data_is;
    fetched = λ h. IfSome_then x.kept (a.0.fetched h)
        (λ d s. served_more sl.heard to.heard p k (bare x) d t.heard s);
  },
  blocks_more b es sl to p (k + 1) ts xs t a.1,
)

plan_more : (g : Setup) (b : RunTold) (es : List Event) (sl to : Slack) (stale : List ℕ) (l : LedPlan)
    → TellsMore sl to → IsLedPlan g b es sl stale l → IsLedPlan g b es to stale l
plan_more g b es sl to stale l t p = record {
  plan = p.plan;
  query = p.query;
  accepted = accepted_more g sl.heard to.heard p.plan p.query t.heard p.accepted;
  said_as = p.said_as;
  terms = p.terms;
  blocks = p.blocks;
  true_plan = p.true_plan;
  table = p.table;
  recorded = p.recorded;
  each = blocks_more b es sl to l.number 0 l.tries.items l.block.blocks t p.each;
  ready = p.ready;
}

all_more : (g : Setup) (b : RunTold) (es : List Event) (sl to : Slack) (stale : List ℕ) (ls : List LedPlan)
    → TellsMore sl to → All (IsLedPlan g b es sl stale) ls → All (IsLedPlan g b es to stale) ls
all_more g b es sl to stale [] t a = All-nil (IsLedPlan g b es to stale)
all_more g b es sl to stale (l ∷ ls) t a =
    All-cons (IsLedPlan g b es to stale) l ls
    (plan_more g b es sl to stale l t (All-head (IsLedPlan g b es sl stale) l ls a))
    (all_more g b es sl to stale ls t (All-tail (IsLedPlan g b es sl stale) l ls a))

pub plans_more : (g : Setup) (b : RunTold) (es : List Event) (sl to : Slack) (stale : List ℕ) (l : Led)
    → TellsMore sl to → AreLedPlans g b es sl stale l → AreLedPlans g b es to stale l
plans_more g b es sl to stale l t a = record {
  each = all_more g b es sl to stale l.plans t a.each;
  follow = a.follow;
  numbered = a.numbered;
  last = a.last;
  first = a.first;
}

-- a leader is as it was
pub led_more : (g : Setup) (b : RunTold) (es : List Event) (sl to : Slack) (stale : List ℕ) (l : Led)
    → TellsMore sl to → IsLed g b es sl stale l → IsLed g b es to stale l
led_more g b es sl to stale l t a = record {
  running = a.running;
  some = a.some;
  tries = a.tries;
  stale_are = a.stale_are;
  under = a.under;
  manager = a.manager;
  plans = plans_more g b es sl to stale l t a.plans;
  counted = a.counted;
}
