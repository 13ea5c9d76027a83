-- A leader after the expired answers of a round, which its plans count.
use Rattle.std.proofs.Common.{◌≡◌, ℕ, ◌+◌, ◌<◌, ◌≤◌, Bool, true, false, List, [], ◌∷◌, ◌++◌, length, refl, sym, subst, ◌∙◌, ap, arith, append_assoc, ⊎_elim}
use Rattle.std.specs.Prelude.{◌||◌, count_by}
use Rattle.std.specs.List.{flat_map}
use Rattle.std.proofs.lemmas.Bool.{cases_Bool, or_parts}
use Rattle.std.proofs.lemmas.List.{append-nil}
use Rattle.xet_events.specs.declared.event.Event.{Event}
use Rattle.xet_events.specs.declared.event.Event.TheVariants.{Expired}
use Rattle.xet_events.specs.Allowed.{AllowedAfter}
use Rattle.xet_events.specs.Events.{expires}
use Rattle.xet_ties.specs.declared.lane_step.LaneStep.{LaneStep}
use Rattle.xet_ties.specs.declared.lane_step.LaneStep.TheVariants as step
use Rattle.xet_ties.specs.Setup.{RunTold, Setup}
use Rattle.xet_ties.specs.Recordings.{Place, expired_on, lane_events, places_of}
use Rattle.xet_ties.specs.Ties.{Slack}
use Rattle.xet_ties.proofs.CallerLemmas.{allowed_first, allowed_rest, count-append}
use Rattle.xet_leader.specs.declared.leader.LedPlan.{LedPlan}
use Rattle.xet_leader.specs.Expiries.{counted, counted_one, spends, spends_one, stale_after, with_stale}
use Rattle.xet_turns.specs.Rounds.{IsSpent}
use Rattle.xet_leader.specs.Led.{IsLed, Led}
use Rattle.xet_leader.proofs.CallerLemmas.{led_expired, tries_used}

-- ---- places one after another

counted-append : (xs ys : List Place) (ls : List LedPlan) → counted (xs ++ ys) ls ≡ counted ys (counted xs ls)
counted-append [] ys ls = refl
counted-append (x ∷ xs) ys ls = counted-append xs ys (counted_one x ls)

stale-append : (xs ys : List Place) (ps : List ℕ) → stale_after (xs ++ ys) ps ≡ stale_after ys (stale_after xs ps)
stale-append [] ys ps = refl
stale-append (x ∷ xs) ys ps = stale-append xs ys (with_stale x.0 ps)

or_assoc : (a b c : Bool) → (a || (b || c)) ≡ ((a || b) || c)
or_assoc true b c = refl
or_assoc false b c = refl

spends-append : (tries : ℕ) (xs ys : List Place) (ls : List LedPlan)
    → spends tries (xs ++ ys) ls ≡ (spends tries xs ls || spends tries ys (counted xs ls))
spends-append tries [] ys ls = refl
spends-append tries (x ∷ xs) ys ls = ap (λ (v : Bool). spends_one tries x ls || v)
    (spends-append tries xs ys (counted_one x ls))
    ∙ or_assoc (spends_one tries x ls) (spends tries xs (counted_one x ls))
    (spends tries ys (counted xs (counted_one x ls)))

-- ---- all have tries left

led_late_lane : (g : Setup) (b : RunTold) (es : List Event) (sl : Slack) (stale : List ℕ) (lane : ℕ)
    (ss : List LaneStep) (l : Led) → spends g.tries (places_of ss) l.plans ≡ false
    → AllowedAfter es (expired_on lane ss) → IsLed g b es sl stale l
    → IsLed g b (es ++ expired_on lane ss) sl (stale_after (places_of ss) stale)
    (record l { plans = counted (places_of ss) l.plans })
led_late_lane g b es sl stale lane [] l left may led =
    subst (λ (x : List Event). IsLed g b x sl stale l) (sym (append-nil es)) led
led_late_lane g b es sl stale lane (step.Served p k found ∷ ss) l left may led =
    led_late_lane g b es sl stale lane ss l left may led
led_late_lane g b es sl stale lane (step.Expired p k ∷ ss) l left may led =
    let parts = or_parts (spends_one g.tries (p, k) l.plans)
    (spends g.tries (places_of ss) (counted_one (p, k) l.plans)) left in
    let e : Event = Expired lane p k in
    let one = led_expired g b es sl stale lane p k l parts.0 may.0.1 led in
    subst (λ (x : List Event). IsLed g b x sl (stale_after (places_of ss) (with_stale p stale))
    (record l { plans = counted (places_of ss) (counted_one (p, k) l.plans) }))
    (append_assoc es (e ∷ []) (expired_on lane ss))
    (led_late_lane g b (es ++ e ∷ []) sl (with_stale p stale) lane ss
    (record l { plans = counted_one (p, k) l.plans }) parts.1 may.1 one)
led_late_lane g b es sl stale lane (step.Failed e ∷ ss) l left may led =
    led_late_lane g b es sl stale lane ss l left may led

-- from this lane on
pub led_late : (g : Setup) (b : RunTold) (es : List Event) (sl : Slack) (stale : List ℕ) (lane : ℕ)
    (ls : List (List LaneStep)) (l : Led) → spends g.tries (flat_map places_of ls) l.plans ≡ false
    → AllowedAfter es (lane_events expired_on lane ls) → IsLed g b es sl stale l
    → IsLed g b (es ++ lane_events expired_on lane ls) sl (stale_after (flat_map places_of ls) stale)
    (record l { plans = counted (flat_map places_of ls) l.plans })
led_late g b es sl stale lane [] l left may led =
    subst (λ (x : List Event). IsLed g b x sl stale l) (sym (append-nil es)) led
led_late g b es sl stale lane (ss ∷ ls) l left may led =
    let first = expired_on lane ss in
    let rest = lane_events expired_on (lane + 1) ls in
    let more = flat_map places_of ls in
    let parts = or_parts (spends g.tries (places_of ss) l.plans)
    (spends g.tries more (counted (places_of ss) l.plans))
    (sym (spends-append g.tries (places_of ss) more l.plans) ∙ left) in
    let one = led_late_lane g b es sl stale lane ss l parts.0 (allowed_first es first rest may) led in
    let all = led_late g b (es ++ first) sl (stale_after (places_of ss) stale) (lane + 1) ls
    (record l { plans = counted (places_of ss) l.plans }) parts.1 (allowed_rest es first rest may) one in
    let a = subst (λ (ps : List LedPlan). IsLed g b ((es ++ first) ++ rest) sl
    (stale_after more (stale_after (places_of ss) stale)) (record l { plans = ps }))
    (sym (counted-append (places_of ss) more l.plans)) all in
    let c = subst (λ (ps : List ℕ). IsLed g b ((es ++ first) ++ rest) sl ps
    (record l { plans = counted (places_of ss ++ more) l.plans }))
    (sym (stale-append (places_of ss) more stale)) a in
    subst (λ (x : List Event). IsLed g b x sl (stale_after (places_of ss ++ more) stale)
    (record l { plans = counted (places_of ss ++ more) l.plans })) (append_assoc es first rest) c

-- ---- one has none left

pub spent_more : (tries : ℕ) (es fs : List Event) → IsSpent tries es → IsSpent tries (es ++ fs)
spent_more tries es fs h = record {
  plan = h.plan;
  block = h.block;
  many = (let c = count-append (expires h.plan h.block) es fs in let m = h.many in omega (arith, c, m));
}

spent_now : (g : Setup) (b : RunTold) (es : List Event) (sl : Slack) (stale : List ℕ) (lane p k : ℕ) (l : Led)
    → spends_one g.tries (p, k) l.plans ≡ true → IsLed g b es sl stale l
    → IsSpent g.tries (es ++ Expired lane p k ∷ [])
spent_now g b es sl stale lane p k l some led = record {
  plan = p;
  block = k;
  many = tries_used g b es sl stale lane p k l some led;
}

spent_lane : (g : Setup) (b : RunTold) (es : List Event) (sl : Slack) (stale : List ℕ) (lane : ℕ) (ss : List LaneStep)
    (l : Led) → spends g.tries (places_of ss) l.plans ≡ true → AllowedAfter es (expired_on lane ss)
    → IsLed g b es sl stale l → IsSpent g.tries (es ++ expired_on lane ss)
spent_lane g b es sl stale lane [] l some may led = absurd (cc)
spent_lane g b es sl stale lane (step.Served p k found ∷ ss) l some may led =
    spent_lane g b es sl stale lane ss l some may led
spent_lane g b es sl stale lane (step.Expired p k ∷ ss) l some may led =
    ⊎_elim
    (λ (now : spends_one g.tries (p, k) l.plans ≡ true).
    subst (IsSpent g.tries) (append_assoc es (Expired lane p k ∷ []) (expired_on lane ss))
    (spent_more g.tries (es ++ Expired lane p k ∷ []) (expired_on lane ss)
    (spent_now g b es sl stale lane p k l now led)))
    (λ (no : spends_one g.tries (p, k) l.plans ≡ false).
    let later : spends g.tries (places_of ss) (counted_one (p, k) l.plans) ≡ true =
    sym (ap (λ (v : Bool). v || spends g.tries (places_of ss) (counted_one (p, k) l.plans)) no) ∙ some in
    subst (IsSpent g.tries) (append_assoc es (Expired lane p k ∷ []) (expired_on lane ss))
    (spent_lane g b (es ++ Expired lane p k ∷ []) sl (with_stale p stale) lane ss
    (record l { plans = counted_one (p, k) l.plans }) later may.1
    (led_expired g b es sl stale lane p k l no may.0.1 led)))
    (cases_Bool (spends_one g.tries (p, k) l.plans))
spent_lane g b es sl stale lane (step.Failed e ∷ ss) l some may led =
    spent_lane g b es sl stale lane ss l some may led

-- from this lane on
pub led_spent : (g : Setup) (b : RunTold) (es : List Event) (sl : Slack) (stale : List ℕ) (lane : ℕ)
    (ls : List (List LaneStep)) (l : Led) → spends g.tries (flat_map places_of ls) l.plans ≡ true
    → AllowedAfter es (lane_events expired_on lane ls) → IsLed g b es sl stale l
    → IsSpent g.tries (es ++ lane_events expired_on lane ls)
led_spent g b es sl stale lane [] l some may led = absurd (cc)
led_spent g b es sl stale lane (ss ∷ ls) l some may led =
    let first = expired_on lane ss in
    let rest = lane_events expired_on (lane + 1) ls in
    let more = flat_map places_of ls in
    ⊎_elim
    (λ (now : spends g.tries (places_of ss) l.plans ≡ true).
    subst (IsSpent g.tries) (append_assoc es first rest)
    (spent_more g.tries (es ++ first) rest (spent_lane g b es sl stale lane ss l now
    (allowed_first es first rest may) led)))
    (λ (no : spends g.tries (places_of ss) l.plans ≡ false).
    let later : spends g.tries more (counted (places_of ss) l.plans) ≡ true =
    sym (ap (λ (v : Bool). v || spends g.tries more (counted (places_of ss) l.plans)) no)
    ∙ sym (spends-append g.tries (places_of ss) more l.plans) ∙ some in
    subst (IsSpent g.tries) (append_assoc es first rest)
    (led_spent g b (es ++ first) sl (stale_after (places_of ss) stale) (lane + 1) ls
    (record l { plans = counted (places_of ss) l.plans }) later (allowed_rest es first rest may)
    (led_late_lane g b es sl stale lane ss l no (allowed_first es first rest may) led)))
    (cases_Bool (spends g.tries (places_of ss) l.plans))
