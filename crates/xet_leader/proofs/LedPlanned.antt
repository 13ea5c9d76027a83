-- A leader after the plan of the query that was due was recorded and handed out.
use Rattle.std.proofs.Common.{◌≡◌, ℕ, suc, ◌+◌, ◌-◌, ◌^◌, ◌<◌, ◌≤◌, ◌||◌, Bool, true, false, List, [], ◌∷◌, ◌++◌, length, map, take, refl, sym, subst, ◌∙◌, ap, arith, Option, Some, None, Ok}
use Rattle.std.specs.Option.{option_or}
use Rattle.std.specs.List.{sum_by}
use Rattle.std.proofs.lemmas.List.{length-append, length-map, take-append-le}
use Rattle.std.proofs.lemmas.List.Elements.{All-push}
use Rattle.xet_base.specs.declared.cas_types.FileRange.{FileRange}
use Rattle.xet_base.specs.declared.unique_id.UniqueId.{UniqueId}
use Rattle.xet_base.specs.Store.{Store}
use Rattle.xet_outside.specs.declared.plan.PlanAnswer.{PlanAnswer}
use Rattle.xet_outside.specs.declared.plan.PlanTerm.{PlanTerm}
use Rattle.xet_outside.specs.declared.said.Said.TheVariants as said
use Rattle.xet_outside.specs.Plan.{Shape, shape}
use Rattle.xet_outside.specs.Told.{IsHonest}
use Rattle.xet_error.specs.declared.error.FileReconstructionError.{FileReconstructionError}
use Rattle.xet_blocks.specs.declared.reconstruction_terms.file_term.FileTerm.{FileTerm}
use Rattle.xet_blocks.specs.declared.reconstruction_terms.file_term.TermBlock.{TermBlock}
use Rattle.xet_blocks.specs.TermBlockCalls.{FromAnswer}
use Rattle.xet_blocks.specs.Terms.{terms_from}
use Rattle.xet_events.specs.declared.event.Event.{Event}
use Rattle.xet_events.specs.Allowed.{IsRunning}
use Rattle.xet_events.specs.Events.{Task, is_admit, is_plan, plan_count, planned, size, tasks_of, written}
use Rattle.xet_events.proofs.CallerLemmas.{error-push, planned-push, written-push}
use Rattle.xet_history.specs.TrueHistory.{planned_term, queries}
use Rattle.xet_parts.proofs.CallerLemmas.{query_within}
use Rattle.xet_terms.specs.Managers.{Manager, accepted}
use Rattle.xet_ties.specs.Saids.{IsCutAnswer}
use Rattle.xet_ties.specs.Moves.{heard_first}
use Rattle.xet_ties.specs.Setup.{IsOver, RunTold, Setup}
use Rattle.xet_ties.specs.PartCalls.{blocks_of_answer, plan_event, plan_query, terms_in}
use Rattle.xet_ties.specs.Ties.{Slack}
use Rattle.xet_ties.proofs.CallerLemmas.{count-more, count-same}
use Rattle.xet_leader.specs.declared.leader.LedPlan.{LedPlan}
use Rattle.xet_leader.specs.Asking.{HandsOn, IsAdded, JoinsPlans}
use Rattle.xet_leader.specs.Led.{BeginsWith, FollowOn, IsCounted, IsLed, IsLedPlan, LastNumberIs, LastTermsAre, Led}
use Rattle.xet_leader.proofs.Accepting.{Answers, handed, led_accepted}
use Rattle.xet_leader.proofs.MoreTold.{plans_more}
use Rattle.xet_leader.proofs.NewPlans.{NoneOf}
use Rattle.xet_leader.proofs.NextQueries.{IsDue, cut_last, due_cuts}
use Rattle.xet_leader.proofs.PlannedEvents.{HeardMore, heard_tells, made_answers, made_plan, new_plan, plans_after}
use Rattle.xet_leader.proofs.QuietEvents.{quiet_under}

-- ---- one plan more

follow_push : (number terms : ℕ) (ls : List LedPlan) (x : LedPlan) → FollowOn ls → LastNumberIs number ls
    → LastTermsAre terms ls → x.number ≡ number + 1 → x.first ≡ terms → FollowOn (ls ++ x ∷ [])
follow_push number terms [] x f n t a b = tt
follow_push number terms (l ∷ []) x f n t a b = (a ∙ ap (λ (k : ℕ). k + 1) (sym n), b ∙ sym t, tt)
follow_push number terms (l ∷ k ∷ ls) x f n t a b = (f.0, f.1, follow_push number terms (k ∷ ls) x f.2 n t a b)

number_push : (number : ℕ) (ls : List LedPlan) (x : LedPlan) → x.number ≡ number → LastNumberIs number (ls ++ x ∷ [])
number_push number [] x a = a
number_push number (l ∷ []) x a = a
number_push number (l ∷ k ∷ ls) x a = number_push number (k ∷ ls) x a

terms_push : (terms : ℕ) (ls : List LedPlan) (x : LedPlan) → x.first + length x.block.terms ≡ terms
    → LastTermsAre terms (ls ++ x ∷ [])
terms_push terms [] x a = a
terms_push terms (l ∷ []) x a = a
terms_push terms (l ∷ k ∷ ls) x a = terms_push terms (k ∷ ls) x a

begins_push : (finished terms more : ℕ) (ls : List LedPlan) (x : LedPlan) → BeginsWith finished terms ls
    → x.first ≡ terms → 0 < length x.block.terms → BeginsWith finished more (ls ++ x ∷ [])
begins_push finished terms more [] x b a some = (omega (arith, b, a), omega (arith, b, a, some))
begins_push finished terms more (l ∷ ls) x b a some = b

terms_length : (p : Shape) (q : FileRange) (multi : Bool) (place o : ℕ) (ts : List PlanTerm)
    → length (terms_from p q multi place o ts) ≡ length ts
terms_length p q multi place o [] = refl
terms_length p q multi place o (t ∷ ts) = ap (λ (n : ℕ). suc n)
    (terms_length p q multi (place + (t.unpacked_length - o)) 0 ts)

-- ---- counts

-- so many terms more
counted_after : (es : List Event) (q : FileRange) (t : Option TermBlock) (l k : Led) → IsCounted es l
    → k.planned ≡ l.planned + length (terms_in t) → k.planned < 2 ^ 64 → k.admitted ≡ l.admitted
    → k.finished ≡ l.finished
    → IsCounted (es ++ plan_event es q t ∷ []) k
counted_after es q t l k c more fits admitted finished =
    let e : Event = plan_event es q t in
    let ts : List Task = tasks_of (plan_count es + 1) (terms_in t) (blocks_of_answer t) in
    let push : planned (es ++ e ∷ []) ≡ planned es ++ ts = planned-push es e in
    let size_now : length (planned (es ++ e ∷ [])) ≡ length (planned es ++ ts) =
    ap (λ (x : List Task). length x) push in
    let both = length-append (planned es) ts in
    let new : length ts ≡ length (terms_in t) = length-map (terms_in t) _ in
    let had = c.planned_are in
    let within = c.finished_within in
    let below = c.admitted_within in
    let wrote : written (es ++ e ∷ []) ≡ written es + 0 = written-push es e in
    let same : take k.finished (planned (es ++ e ∷ [])) ≡ take l.finished (planned es) =
    ap (λ (n : ℕ). take n (planned (es ++ e ∷ []))) finished ∙ ap (λ (x : List Task). take l.finished x) push
    ∙ take-append-le l.finished (planned es) ts (omega (arith, had, within, below)) in
    record {
      planned_are = omega (arith, size_now, both, new, had, more);
      planned_fits = fits;
      admitted_are = admitted ∙ c.admitted_are ∙ sym (count-same is_admit es e refl);
      finished_within = omega (arith, within, admitted, finished);
      admitted_within = omega (arith, below, admitted, more);
      written_are = omega (arith, wrote) ∙ c.written_are ∙ ap (λ (x : List Task). sum_by size x) (sym same);
    }

-- ---- the leader

-- the query was due, and this was said to it alone
pub record PlanTaken (g : Setup) (b : RunTold) (es : List Event) (sl to : Slack) (m : Manager) (q : FileRange)
    (id : UniqueId) (t : Option TermBlock) (a : PlanAnswer) : Type 0 where
  pub due : IsDue g es m q
  pub from : FromAnswer (plan_query g q id) a (Ok t)
  pub heard : HeardMore sl to ((g.file, q) ∷ []) (said.Plan a ∷ [])
  pub answered : IsCutAnswer g.file (heard_first ((g.file, q) ∷ []) (said.Plan a ∷ []) sl.heard)
      (plan_count es + 1) q a
  pub none : NoneOf es (plan_count es + 1)
  pub own : id.plan ≡ plan_count es + 1
  pub honest : (s : Store) → IsOver s b.clients → IsHonest s g.file q a

running_after : (es : List Event) (q : FileRange) (t : Option TermBlock) → IsRunning es
    → IsRunning (es ++ plan_event es q t ∷ [])
running_after es q t r = error-push es (plan_event es q t)
    ∙ ap (λ (o : Option FileReconstructionError). option_or o None) r

answers : (g : Setup) (b : RunTold) (es : List Event) (sl to : Slack) (m : Manager) (q : FileRange) (id : UniqueId)
    (t : Option TermBlock) (a : PlanAnswer) → PlanTaken g b es sl to m q id t a → Answers q t
answers g b es sl to m q id t a p =
    let cut = (cut_last g.range.start g.range.end (g.greatest + g.least) (queries es) q (due_cuts g es m q p.due).from).1
    in
    made_answers g q id t a (omega (arith, cut)) p.from

-- an answer without terms
led_none : (g : Setup) (b : RunTold) (es : List Event) (sl to : Slack) (m : Manager) (q : FileRange) (id : UniqueId)
    (a : PlanAnswer) (l : Led) → PlanTaken g b es sl to m q id None a → IsLed g b es sl [] l
    → IsLed g b (es ++ plan_event es q None ∷ []) to [] (record l { manager = accepted m q None })
led_none g b es sl to m q id a l p led =
    let c = led.counted in
    let told = plans_more g b es sl to [] l (heard_tells sl to _ _ p.heard) led.plans in
    record {
      running = running_after es q None led.running;
      some = led.some;
      tries = led.tries;
      stale_are = tt;
      under = quiet_under g es (plan_event es q None) (λ i k. refl) led.under;
      manager = led_accepted g es m q None p.due (answers g b es sl to m q id None a p);
      plans = record {
        each = plans_after g b es to (plan_count es + 1) q [] [] [] l.plans told.each;
        follow = led.plans.follow;
        numbered = λ h. absurd (let z : true ≡ false = sym (ap (λ (v : Bool). v || true) p.due.unended) ∙ h in cc);
        last = led.plans.last;
        first = led.plans.first;
      };
      counted = counted_after es q None l (record l { manager = accepted m q None }) c
          (omega arith) c.planned_fits refl refl;
    }

-- one with terms
led_some : (g : Setup) (b : RunTold) (es : List Event) (sl to : Slack) (m : Manager) (q : FileRange) (id : UniqueId)
    (a : PlanAnswer) (l : Led) (x : LedPlan) → PlanTaken g b es sl to m q id (Some x.block) a → IsLed g b es sl [] l
    → l.manager.ended ≡ false
    → IsAdded x id.plan l.planned x.block → l.planned + length x.block.terms < 2 ^ 64
    → IsLed g b (es ++ plan_event es q (Some x.block) ∷ []) to []
    (record l {
      manager = handed (accepted m q (Some x.block)) (Some x.block);
      plans = l.plans ++ x ∷ [];
      planned = l.planned + length x.block.terms;
    })
led_some g b es sl to m q id a l x p led unended added fits =
    let e : Event = plan_event es q (Some x.block) in
    let k : Led = record l {
      manager = handed (accepted m q (Some x.block)) (Some x.block);
      plans = l.plans ++ x ∷ [];
      planned = l.planned + length x.block.terms;
    } in
    let made = made_plan g q id x.block a p.from in
    let cut = cut_last g.range.start g.range.end (g.greatest + g.least) (queries es) q (due_cuts g es m q p.due).from in
    let low : g.range.start ≤ q.start = (query_within g (queries es) q (due_cuts g es m q p.due)).0 in
    let number : x.number ≡ plan_count es + 1 = added.number_is ∙ p.own in
    let first : x.first ≡ length (planned es) = added.first_is ∙ sym led.counted.planned_are in
    let sized : length x.block.terms ≡ length made.plan.terms =
    ap (λ (ts : List FileTerm). length ts) made.block.terms
    ∙ terms_length (shape made.plan) q g.multirange q.start (shape made.plan).offset (shape made.plan).terms in
    let some = made.some in
    let new = new_plan g b es sl to q id x a made p.heard p.answered p.none p.own
    (record { number_is = number; first_is = first; block_is = refl; tries_are = added.tries_are }) low cut.2
    p.honest led.tries in
    let sum : length (map planned_term x.block.terms) ≡ length x.block.terms =
    length-map x.block.terms planned_term in
    let at = added.first_is in
    let told = plans_more g b es sl to [] l (heard_tells sl to _ _ p.heard) led.plans in
    record {
      running = running_after es q (Some x.block) led.running;
      some = led.some;
      tries = led.tries;
      stale_are = tt;
      under = quiet_under g es e (λ i k. refl) led.under;
      manager = led_accepted g es m q (Some x.block) p.due (answers g b es sl to m q id (Some x.block) a p);
      plans = record {
        each = All-push (IsLedPlan g b (es ++ e ∷ []) to []) l.plans x
            (plans_after g b es to (plan_count es + 1) q _ _ [] l.plans told.each) new;
        follow = follow_push (plan_count es) l.planned l.plans x led.plans.follow
            (led.plans.numbered unended) led.plans.last number added.first_is;
        numbered = λ h. number_push (plan_count (es ++ e ∷ [])) l.plans x
            (number ∙ sym (count-more is_plan es e refl));
        last = terms_push (l.planned + length x.block.terms) l.plans x (ap (λ (n : ℕ). n + length x.block.terms) at);
        first = begins_push l.finished l.planned (l.planned + length x.block.terms) l.plans x led.plans.first at
            (omega (arith, sized, some));
      };
      counted = counted_after es q (Some x.block) l k led.counted
          (ap (λ (n : ℕ). l.planned + n) (sym sum)) fits refl refl;
    }

-- the leader with a plan more
abbrev joined : Led → Manager → FileRange → LedPlan → TermBlock → Led
joined l m q x c = record l {
  manager = handed (accepted m q (Some c)) (Some c);
  plans = l.plans ++ x ∷ [];
  planned = l.planned + length c.terms;
}

led_joined : (g : Setup) (b : RunTold) (es : List Event) (sl to : Slack) (m : Manager) (q : FileRange) (id : UniqueId)
    (a : PlanAnswer) (l : Led) (x : LedPlan) (c : TermBlock) → x.block ≡ c → IsLed g b es sl [] l
    → l.manager.ended ≡ false
    → PlanTaken g b es sl to m q id (Some c) a → IsAdded x id.plan l.planned c → l.planned + length c.terms < 2 ^ 64
    → IsLed g b (es ++ plan_event es q (Some c) ∷ []) to [] (joined l m q x c)
led_joined g b es sl to m q id a l x c own led unended =
    let P : TermBlock → Type 0 = λ c. PlanTaken g b es sl to m q id (Some c) a → IsAdded x id.plan l.planned c
    → l.planned + length c.terms < 2 ^ 64 → IsLed g b (es ++ plan_event es q (Some c) ∷ []) to []
    (joined l m q x c) in
    subst P own (λ p added fits. led_some g b es sl to m q id a l x p led unended added fits)

-- whatever the answer was
pub led_planned : (g : Setup) (b : RunTold) (es : List Event) (sl to : Slack) (m : Manager) (q : FileRange)
    (id : UniqueId) (t : Option TermBlock) (a : PlanAnswer) (l k : Led) → PlanTaken g b es sl to m q id t a
    → IsLed g b es sl [] l → l.manager.ended ≡ false
    → HandsOn id.plan (record l { manager = accepted m q t }) k (accepted m q t).waiting
    → IsLed g b (es ++ plan_event es q t ∷ []) to [] k
led_planned g b es sl to m q id None a l k p led unended hands =
    let same : k ≡ record l { manager = accepted m q None } =
    subst (λ (ws : List TermBlock). HandsOn id.plan (record l { manager = accepted m q None }) k ws)
    p.due.none_waits hands in
    subst (λ (y : Led). IsLed g b (es ++ plan_event es q None ∷ []) to [] y) (sym same)
    (led_none g b es sl to m q id a l p led)
led_planned g b es sl to m q id (Some c) a l k p led unended hands =
    let j : JoinsPlans id.plan (record l { manager = accepted m q (Some c) }) k c [] =
    subst (λ (ws : List TermBlock). HandsOn id.plan (record l { manager = accepted m q (Some c) }) k
    (ws ++ c ∷ [])) p.due.none_waits hands in
    subst (λ (y : Led). IsLed g b (es ++ plan_event es q (Some c) ∷ []) to [] y) (sym j.led)
    (led_joined g b es sl to m q id a l j.added c j.is.block_is led unended p j.is j.fits)
