-- What a round leaves: its ties, and the leader that keeps and counts what the lanes did.
use Rattle.std.proofs.Common.{◌≡◌, ℕ, zero, suc, ◌≤◌, List, [], ◌∷◌, ◌++◌, refl, sym, subst, ◌∙◌, ap, arith, append_assoc, inl, inr, ⊎_elim, ◌<◌, length}
use Rattle.std.specs.Prelude.{All, Contains, None, Option, false, get_or, Some, map, option_map, option_to_list, slice_get}
use Rattle.std.specs.List.{flat_map}
use Rattle.std.specs.Option.{is_some}
use Rattle.std.proofs.lemmas.List.Elements.{All-cons, All-head, All-nil, All-tail}
use Rattle.std.proofs.lemmas.Option.{slice_get-map, slice_get_within}
use Rattle.xet_outside.specs.Told.{ClientTold}
use Rattle.xet_offers.specs.declared.reconstruction_terms.xorb_block.XorbBlock.{XorbBlock}
use Rattle.xet_offers.specs.declared.reconstruction_terms.xorb_block.XorbBlockData.{XorbBlockData}
use Rattle.xet_blocks.specs.TermBlocks.{xorb_blocks}
use Rattle.xet_outside.specs.Plan.{shape}
use Rattle.xet_events.specs.declared.event.Event.{Event}
use Rattle.xet_events.specs.declared.event.PlannedBlock.{PlannedBlock}
use Rattle.xet_ties.specs.declared.lane_step.LaneStep.{LaneStep}
use Rattle.xet_ties.specs.declared.lane_step.LaneStep.TheVariants as step
use Rattle.xet_ties.specs.History.{block_at, fetches}
use Rattle.xet_ties.specs.InCall.{Exchange, SomeOne}
use Rattle.xet_ties.specs.Lanes.{Ask, DrewApart, IsFor}
use Rattle.xet_ties.specs.Saids.{IsServedData, planned_of}
use Rattle.xet_ties.specs.Setup.{RunTold, Setup}
use Rattle.xet_ties.specs.Moves.{no_hidden, no_late}
use Rattle.xet_ties.specs.Recordings.{AreUnkept, HasTry, IsFreshAsk, key_of, places_of}
use Rattle.xet_ties.specs.Rounds.{AfterRound, IsHeardData, IsHeardStep, IsMissingAsk, IsPlanAsk}
use Rattle.xet_ties.specs.Ties.{Slack, Ties}
use Rattle.xet_ties.proofs.CallerLemmas.{fetched_once, new_pairs, round_allowed, round_may_expire, round_short, round_tied, tells_now}
use Rattle.xet_leader.specs.Expiries.{stale_after}
use Rattle.xet_leader.specs.Keeping.{given_of}
use Rattle.xet_leader.specs.Led.{IsAnswerData, IsLed, IsLedPlan, IsReady, Led, bare}
use Rattle.xet_stages.specs.RoundRecords.{expired_events, fetched_events}
use Rattle.xet_turns.specs.Rounds.{AreLedAsks, IsLedAsk, IsLedAt, IsSpent, RoundLeft}
use Rattle.xet_stages.specs.Outcomes.{plans_after, plans_kept}
use Rattle.xet_leader.proofs.CallerLemmas.{led_honest}
use Rattle.xet_turns.proofs.LateLed.{led_late, led_spent}
use Rattle.xet_leader.proofs.CallerLemmas.{led_more, tells_more_heard}
use Rattle.xet_turns.proofs.ServedLed.{EachGiven, IsGivenTo, each_both, led_keeps, led_served, plan_at}

-- ---- the fetches

are_unkept : (es : List Event) (fs : List Ask) → All (IsMissingAsk es) fs → AreUnkept es fs
are_unkept es [] h = tt
are_unkept es (a ∷ fs) h = (
  (All-head (IsMissingAsk es) a fs h).absent,
  are_unkept es fs (All-tail (IsMissingAsk es) a fs h),
)

none_stale : (p : ℕ) → Contains {X = ℕ} [] p → ⊥
none_stale p c = omega (arith, c.1)

-- a block of the leader is planned, and where no plan is stale it isn't expired and has tries left
fresh_ask : (g : Setup) (b : RunTold) (es : List Event) (sl : Slack) (l : Led) (a : Ask) → IsLed g b es sl [] l
    → IsFor a → IsLedAsk l.plans a → IsFreshAsk es a × HasTry g.tries es a
fresh_ask g b es sl l a led own h =
    let p = plan_at (IsLedPlan g b es sl []) l.plans h.index h.plan h.at led.plans.each in
    let n = a.request.acquisition.plan in
    let k = a.request.index in
    let r = subst (λ (q : ℕ). IsReady g es [] q k) h.number
    (p.ready k (slice_get_within h.plan.block.blocks k a.block h.in_plan)) in
    let there : slice_get (map planned_of h.plan.block.blocks) k ≡ Some (planned_of a.block) =
    slice_get-map planned_of h.plan.block.blocks k
    ∙ ap (λ (o : Option XorbBlock). option_map planned_of o) h.in_plan in
    let at : block_at es h.plan.number k ≡ planned_of a.block ∷ [] =
    ap (λ (o : Option (List PlannedBlock)). flat_map (λ bs. option_to_list (slice_get bs k)) (option_to_list o))
    p.recorded.blocks ∙ ap (λ (o : Option PlannedBlock). option_to_list o ++ []) there in
    let same : planned_of a.block ≡ (key_of a).2 =
    (let x = sym own.xorb in let r = sym own.chunks in λ i. record { xorb = x i; ranges = r i }) in
    let none = ⊎_elim (λ (c : Contains {X = ℕ} [] n). absurd (none_stale n c)) (λ f. f) r.fresh in (
      record {
        planned = ap (λ (q : ℕ). block_at es q k) (sym h.number) ∙ at ∙ ap (λ (x : PlannedBlock). x ∷ []) same;
        fresh = none;
      },
      record { fresh = none; left = r.left },
    )

all_fresh : (g : Setup) (b : RunTold) (es : List Event) (sl : Slack) (l : Led) (fs : List Ask) → IsLed g b es sl [] l
    → All IsFor fs → All (IsLedAsk l.plans) fs → All (IsFreshAsk es) fs × All (HasTry g.tries es) fs
all_fresh g b es sl l [] led own h = (All-nil (IsFreshAsk es), All-nil (HasTry g.tries es))
all_fresh g b es sl l (a ∷ fs) led own h =
    let one = fresh_ask g b es sl l a led (All-head IsFor a fs own) (All-head (IsLedAsk l.plans) a fs h) in
    let rest = all_fresh g b es sl l fs led (All-tail IsFor a fs own) (All-tail (IsLedAsk l.plans) a fs h) in
    (All-cons (IsFreshAsk es) a fs one.0 rest.0, All-cons (HasTry g.tries es) a fs one.1 rest.1)

no_data : (o : Option XorbBlockData) → is_some o ≡ false → o ≡ None
no_data None h = refl
no_data (Some d) h = absurd (cc)

-- a fetch of a missing block is of a block of the very plan of its number
plan_ask : (g : Setup) (b : RunTold) (es : List Event) (sl : Slack) (l : Led) (a : Ask) → IsLed g b es sl [] l
    → IsFor a → IsLedAsk l.plans a → IsMissingAsk es a → IsPlanAsk g sl.heard a
plan_ask g b es sl l a led own m missing =
    let k = a.request.index in
    let p = plan_at (IsLedPlan g b es sl []) l.plans m.index m.plan m.at led.plans.each in
    let none : is_some a.block.kept ≡ false = led_keeps g b es sl [] l a.request.acquisition.plan k a.block m led
    ∙ missing.absent in
    let same : bare a.block ≡ a.block = ap (λ (o : Option XorbBlockData). record a.block { kept = o })
    (sym (no_data a.block.kept none)) in
    let there : slice_get (xorb_blocks (shape p.plan) g.multirange) k ≡ Some (bare a.block) =
    ap (λ (l : List XorbBlock). slice_get l k) (sym p.blocks) ∙ slice_get-map bare m.plan.block.blocks k
    ∙ ap (λ (o : Option XorbBlock). option_map bare o) m.in_plan in
    record {
      for_block = own;
      place = record {
        plan = p.plan;
        query = p.query;
        accepted = p.accepted;
        number = k;
        block = a.block;
        numbered = there ∙ ap Some same;
      };
      own = sym m.number ∙ p.said_as;
      index = refl;
      block = refl;
    }

plan_asks : (g : Setup) (b : RunTold) (es : List Event) (sl : Slack) (l : Led) (fs : List Ask) → IsLed g b es sl [] l
    → All IsFor fs → All (IsLedAsk l.plans) fs → All (IsMissingAsk es) fs → All (IsPlanAsk g sl.heard) fs
plan_asks g b es sl l fs led own h missing = λ k d w. plan_ask g b es sl l (get_or fs k d) led (own k d w) (h k d w)
    (missing k d w)

-- ---- the data of served steps

some_weaker : (P Q : Exchange → Type 0) (xs : List Exchange) → ((x : Exchange) → P x → Q x) → SomeOne P xs
    → SomeOne Q xs
some_weaker P Q [] f h = h
some_weaker P Q (x ∷ xs) f h = ⊎_elim (λ (p : P x). inl (f x p))
    (λ (q : SomeOne P xs). inr (some_weaker P Q xs f q)) h

pub ask_at : (P : Ask → Type 0) (fs : List Ask) (i : ℕ) (a : Ask) → slice_get fs i ≡ Some a → All P fs → P a
ask_at P [] i a h all = absurd (cc)
ask_at P (x ∷ fs) zero a h all = let same : x ≡ a = cc in subst P same (All-head P x fs all)
ask_at P (x ∷ fs) (suc i) a h all = ask_at P fs i a h (All-tail P x fs all)

step_given : (g : Setup) (b at : RunTold) (es : List Event) (sl to : Slack) (fs : List Ask) (l : Led) (p k : ℕ)
    (d : XorbBlockData) → Ties g b at es None sl → IsLed g b es sl [] l → All (IsLedAsk l.plans) fs
    → IsHeardData fs at.clients to.heard p k d → IsGivenTo b to l.plans (p, k, d)
step_given g b at es sl to fs l p k d t led asks h =
    let a = h.ask in
    let x = a.block in
    let mine = ask_at (IsLedAsk l.plans) fs h.number a h.at asks in
    let plan = plan_at (IsLedPlan g b es sl []) l.plans mine.index mine.plan mine.at led.plans.each in
    let here : IsLedAt l.plans p k x = record {
      index = mine.index;
      plan = mine.plan;
      at = mine.at;
      number = mine.number ∙ sym h.plan;
      in_plan = ap (λ (n : ℕ). slice_get mine.plan.block.blocks n) h.index
          ∙ mine.in_plan;
    } in
    let answer : IsAnswerData to p k (bare x) d = some_weaker (λ y. IsServedData y p k x d)
    (λ y. IsServedData y p k (bare x) d) to.heard
    (λ y s. record { given = s.given; answer = s.answer; passes = s.passes; made = s.made }) h.served in
    record {
      block = x;
      led_at = here;
      answer = answer;
      data_is = record {
        tested = inl answer;
        sound = λ s o. inr (h.honest s (tells_now s es 0 b.clients at.clients sl.hidden sl.late t.served.lanes o.tell)
            (led_honest g b es sl [] mine.plan a.request.index x plan mine.in_plan s o).holds);
        honest = λ s o c. h.honest s (tells_now s es 0 b.clients at.clients sl.hidden sl.late t.served.lanes o.tell)
            (led_honest g b es sl [] mine.plan a.request.index x plan mine.in_plan s o).holds;
      };
    }

lane_given : (g : Setup) (b at : RunTold) (es : List Event) (sl to : Slack) (fs : List Ask) (l : Led)
    (ss : List LaneStep) → Ties g b at es None sl → IsLed g b es sl [] l → All (IsLedAsk l.plans) fs
    → All (IsHeardStep fs at.clients to.heard) ss → EachGiven b to l.plans (given_of ss)
lane_given g b at es sl to fs l [] t led asks h = tt
lane_given g b at es sl to fs l (step.Served p k d ∷ ss) t led asks h =
    let H : LaneStep → Type 0 = IsHeardStep fs at.clients to.heard in (
      step_given g b at es sl to fs l p k d t led asks (All-head H (step.Served p k d) ss h),
      lane_given g b at es sl to fs l ss t led asks (All-tail H (step.Served p k d) ss h),
    )
lane_given g b at es sl to fs l (step.Expired p k ∷ ss) t led asks h =
    lane_given g b at es sl to fs l ss t led asks (All-tail (IsHeardStep fs at.clients to.heard)
    (step.Expired p k) ss h)
lane_given g b at es sl to fs l (step.Failed e ∷ ss) t led asks h =
    lane_given g b at es sl to fs l ss t led asks (All-tail (IsHeardStep fs at.clients to.heard) (step.Failed e) ss h)

lanes_given : (g : Setup) (b at : RunTold) (es : List Event) (sl to : Slack) (fs : List Ask) (l : Led)
    (ls : List (List LaneStep)) → Ties g b at es None sl → IsLed g b es sl [] l → All (IsLedAsk l.plans) fs
    → All (λ ss. All (IsHeardStep fs at.clients to.heard) ss) ls → EachGiven b to l.plans (flat_map given_of ls)
lanes_given g b at es sl to fs l [] t led asks h = tt
lanes_given g b at es sl to fs l (ss ∷ ls) t led asks h =
    let H : List LaneStep → Type 0 = λ xs. All (IsHeardStep fs at.clients to.heard) xs in
    each_both b to l.plans (given_of ss) (flat_map given_of ls)
    (lane_given g b at es sl to fs l ss t led asks (All-head H ss ls h))
    (lanes_given g b at es sl to fs l ls t led asks (All-tail H ss ls h))

-- ---- the round

pub round_left : (g : Setup) (b at : RunTold) (es : List Event) (sl : Slack) (ns : List ClientTold) (fs : List Ask)
    (ls : List (List LaneStep)) (l : Led) → AreLedAsks es sl.pending l.plans fs → DrewApart fs at.clients ns ls
    → sl.hidden ≡ no_hidden b.clients → sl.late ≡ no_late b.clients → (0 < length fs → 1 ≤ sl.spare)
    → Ties g b at es None sl → IsLed g b es sl [] l → RoundLeft g b at es sl ns fs ls l
round_left g b at es sl ns fs ls l asks d none_h none_l polled t led =
    let both = all_fresh g b es sl l fs led asks.own asks.led in
    let before = fetched_once es sl.hidden sl.late b.clients at.clients t.served in
    let new = new_pairs es fs (are_unkept es fs asks.missing) asks.once before in
    let may = round_may_expire g.tries es fs at.clients ns ls d both.1 asks.once in
    let of_plans = plan_asks g b es sl l fs led asks.own asks.led asks.missing in
    let tied = round_tied g b at es sl fs ns ls d new both.0 asks.waits none_h none_l of_plans may polled t in
    let to : Slack = tied.0 in
    let after : AfterRound b.clients at.clients es fs ls sl to = tied.2 in
    let allowed = round_allowed es fs at.clients ns ls d led.running asks.missing asks.once in
    let heard = led_more g b es sl to [] l (tells_more_heard sl to after.grew after.looks) led in
    let given = lanes_given g b at es sl to fs l ls t led asks.led (after.found asks.own) in
    let served = led_served g b es to [] 0 ls l allowed.0 given heard in
    let F = fetched_events ls in
    let E = expired_events ls in
    record {
      slack = to;
      ties = subst (λ (x : List Event). Ties g b (record at { clients = ns }) x None to) (append_assoc es F E) tied.1;
      after = after;
      led = λ left. subst (λ (x : List Event). IsLed g b x to (stale_after (flat_map places_of ls) [])
          (record l { plans = plans_after ls l.plans })) (append_assoc es F E)
          (led_late g b (es ++ F) to [] 0 ls (record l { plans = plans_kept ls l.plans }) left allowed.1 served);
      short = λ k. round_short g b at es sl fs ns ls k d new both.0 asks.waits none_h none_l of_plans may polled t;
      spent = λ some. subst (IsSpent g.tries) (append_assoc es F E)
          (led_spent g b (es ++ F) to [] 0 ls (record l { plans = plans_kept ls l.plans }) some allowed.1 served);
    }
