-- The fetches of a leader's missing blocks, against its plans.
use Rattle.std.proofs.Common.{◌≡◌, ℕ, ◌+◌, ◌-◌, ◌^◌, ◌≤◌, List, [], ◌∷◌, sym, subst, ◌∙◌, ap, Ok}
use Rattle.std.specs.Prelude.{All, Some, count_by, map, min, slice_get}
use Rattle.std.proofs.lemmas.List.Elements.{All-cons, All-nil}
use Rattle.xet_events.specs.declared.event.Event.{Event}
use Rattle.xet_events.specs.declared.event.PlannedBlock.{PlannedBlock}
use Rattle.xet_events.specs.Allowed.{IsMissing}
use Rattle.xet_ties.specs.Setup.{RunTold, Setup}
use Rattle.xet_ties.specs.Recordings.{blocks_all, key_of}
use Rattle.xet_ties.specs.Ties.{Slack, is_one}
use Rattle.xet_lane.specs.declared.lane.Fetch.{Fetch}
use Rattle.xet_lane.specs.Fetches.{ask_of}
use Rattle.xet_leader.specs.ByNumber.{plan_index}
use Rattle.xet_leader.specs.declared.leader.LedPlan.{LedPlan}
use Rattle.xet_leader.specs.declared.missing_blocks.BlockAt.{BlockAt}
use Rattle.xet_leader.specs.FetchLists.{Each, IsFetchList}
use Rattle.xet_leader.specs.Fetching.{AreFetches, IsFetch}
use Rattle.xet_leader.specs.Led.{IsLed, Led}
use Rattle.xet_leader.specs.Looks.{to_round}
use Rattle.xet_turns.specs.Rounds.{AreLedAsks, IsLedAsk}
use Rattle.xet_leader.specs.Steady.{IsGoing, Moment}
use Rattle.xet_leader.proofs.CallerLemmas.{asked, fetch_leads, awaited}

-- and of a block of the plans
led_ask : (g : Setup) (b : RunTold) (es : List Event) (sl : Slack) (l : Led) (c : BlockAt) (n : ℕ) (f : Fetch)
    → IsLed g b es sl [] l → IsMissing es c.plan c.block → IsFetch l.plans c n f → IsLedAsk l.plans (ask_of f)
led_ask g b es sl l c n f led m is =
    let w = awaited g b es sl [] l led c m in
    let a = asked g b es sl l c n f led m is in
    let found : Some is.plan ≡ Some w.plan = sym is.at ∙ w.at in
    let same : is.plan ≡ w.plan = cc in
    record {
      index = plan_index l.plans c.plan;
      plan = is.plan;
      at = is.at;
      number = ap (λ (p : LedPlan). p.number) same ∙ w.number ∙ sym a.plan;
      in_plan = ap (λ (k : ℕ). slice_get is.plan.block.blocks k) a.index ∙ is.of_plan;
    }

all_led : (g : Setup) (b : RunTold) (es : List Event) (sl : Slack) (l : Led) (cs : List BlockAt) (n : ℕ)
    (fs : List Fetch) → IsLed g b es sl [] l → Each (λ c. IsMissing es c.plan c.block) cs → AreFetches l.plans n cs fs
    → All (IsLedAsk l.plans) (map ask_of fs)
all_led g b es sl l [] n [] led m h = All-nil (IsLedAsk l.plans)
all_led g b es sl l [] n (f ∷ fs) led m h = absurd h
all_led g b es sl l (c ∷ cs) n [] led m h = absurd h
all_led g b es sl l (c ∷ cs) n (f ∷ fs) led m h =
    All-cons (IsLedAsk l.plans) (ask_of f) (map ask_of fs) (led_ask g b es sl l c (min n (2 ^ 64 - 1)) f led m.0 h.0)
    (all_led g b es sl l cs (n + 1) fs led m.1 h.1)

-- of a run that goes on and is to fetch these blocks
pub are_led_asks : (g : Setup) (b : RunTold) (m : Moment) (l : Led) (cs : List BlockAt) (n : ℕ) (fs : List Fetch)
    → (s : IsGoing g b m (to_round m.events cs) l) → IsFetchList m.events l.finished cs → AreFetches l.plans n cs fs
    → AreLedAsks m.events s.slack.pending l.plans (map ask_of fs)
are_led_asks g b m l cs n fs s list h =
    let q = (fetch_leads l n cs (Ok fs) h tt g m).ok b s list in
    record {
      own = q.own;
      led = all_led g b m.events s.slack l cs n fs s.led list.missing h;
      missing = q.missing;
      once = q.once;
      waits = λ x r. subst (λ (ps : List PlannedBlock). count_by (is_one x r)
          (blocks_all (map key_of (map ask_of fs))) ≤ count_by (is_one x r) ps) (sym s.settled.pending)
          (q.pending x r);
    }
