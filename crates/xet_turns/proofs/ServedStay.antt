-- The blocks that a round served are those of plans that the leader still has, and keep data.
use Rattle.std.proofs.Common.{◌≡◌, ℕ, zero, suc, ◌+◌, ◌-◌, ◌<◌, ◌≤◌, Bool, true, false, cond, List, [], ◌∷◌, ◌++◌, length, take, drop, refl, sym, subst, ◌∙◌, ap, arith, ⊎_elim}
use Rattle.std.specs.Prelude.{All, None, Option, Some, ◌==◌, ◌&&◌, count_by, nat_le, nat_lt, option_and_then, slice_get}
use Rattle.std.specs.List.{flat_map, list_any}
use Rattle.std.proofs.lemmas.Bool.{and_from, and_parts, eq-eqb, eqb-true, false≢true, le-leb, lt-ltb, or_cases}
use Rattle.std.proofs.lemmas.List.Elements.{All-head, All-tail}
use Rattle.std.proofs.lemmas.List.Folds.{list_any-append}
use Rattle.std.proofs.lemmas.Option.{slice_get_within}
use Rattle.xet_outside.specs.Told.{ClientTold}
use Rattle.xet_events.specs.declared.event.Event.{Event}
use Rattle.xet_events.specs.Allowed.{IsMissing}
use Rattle.xet_events.specs.declared.event.Event.TheVariants.{Fetched}
use Rattle.xet_events.specs.Events.{Task, is_admit, is_kept, needs, planned}
use Rattle.xet_ties.specs.declared.lane_step.LaneStep.{LaneStep}
use Rattle.xet_ties.specs.declared.lane_step.LaneStep.TheVariants as step
use Rattle.xet_ties.specs.History.{fetches}
use Rattle.xet_ties.specs.InCall.{Exchange}
use Rattle.xet_ties.specs.Lanes.{Ask}
use Rattle.xet_ties.specs.Saids.{has_bytes}
use Rattle.xet_ties.specs.Setup.{RunTold, Setup}
use Rattle.xet_ties.specs.Recordings.{Place, fetched_on, lane_events}
use Rattle.xet_ties.specs.Rounds.{IsHeardData, IsHeardStep, IsMissingAsk, got_of}
use Rattle.xet_ties.specs.Windows.{AreKept, is_wanted, open_terms}
use Rattle.xet_ties.specs.Ties.{Slack}
use Rattle.xet_ties.proofs.CallerLemmas.{count-append, count-more, none_fetched, wanted_is}
use Rattle.xet_leader.specs.declared.leader.LedPlan.{LedPlan}
use Rattle.xet_leader.specs.declared.missing_blocks.BlockAt.{BlockAt}
use Rattle.xet_leader.specs.FetchLists.{Each}
use Rattle.xet_leader.specs.Keeping.{places_at}
use Rattle.xet_leader.specs.Lacking.{first_of}
use Rattle.xet_leader.specs.Led.{FollowOn, IsLed, Led}
use Rattle.xet_leader.specs.Offering.{AreServed, IsServed}
use Rattle.xet_leader.specs.Plans.{block_in, block_there, find_plan}
use Rattle.xet_stages.specs.RoundRecords.{expired_events, fetched_events, lanes_events}
use Rattle.xet_leader.proofs.CallerLemmas.{TermOf, all_terms, some_plan, is_at, kept_is, open_is, each_append, each_weaker, numbered_at}

-- ---- they were missing

asked_at : (P : Ask → Type 0) (fs : List Ask) (i : ℕ) (a : Ask) → slice_get fs i ≡ Some a → All P fs → P a
asked_at P [] i a h all = absurd (cc)
asked_at P (x ∷ fs) zero a h all = let same : x ≡ a = cc in subst P same (All-head P x fs all)
asked_at P (x ∷ fs) (suc i) a h all = asked_at P fs i a h (All-tail P x fs all)

step_missing : (es : List Event) (fs : List Ask) (bs : List ClientTold) (xs : List Exchange) (ss : List LaneStep)
    → All (IsMissingAsk es) fs → All (IsHeardStep fs bs xs) ss
    → Each (λ (c : Place). IsMissing es c.0 c.1) (got_of ss)
step_missing es fs bs xs [] m h = tt
step_missing es fs bs xs (step.Served p k d ∷ ss) m h =
    let H : LaneStep → Type 0 = IsHeardStep fs bs xs in
    let one : IsHeardData fs bs xs p k d = All-head H (step.Served p k d) ss h in
    let a = asked_at (IsMissingAsk es) fs one.number one.ask one.at m in (
      subst (λ (q : ℕ). IsMissing es q k) (sym one.plan)
          (subst (λ (j : ℕ). IsMissing es one.ask.request.acquisition.plan j) (sym one.index) a),
      step_missing es fs bs xs ss m (All-tail H (step.Served p k d) ss h),
    )
step_missing es fs bs xs (step.Expired p k ∷ ss) m h =
    step_missing es fs bs xs ss m (All-tail (IsHeardStep fs bs xs) (step.Expired p k) ss h)
step_missing es fs bs xs (step.Failed e ∷ ss) m h =
    step_missing es fs bs xs ss m (All-tail (IsHeardStep fs bs xs) (step.Failed e) ss h)

pub lanes_missing : (es : List Event) (fs : List Ask) (bs : List ClientTold) (xs : List Exchange)
    (ls : List (List LaneStep)) → All (IsMissingAsk es) fs → All (λ ss. All (IsHeardStep fs bs xs) ss) ls
    → Each (λ (c : Place). IsMissing es c.0 c.1) (flat_map got_of ls)
lanes_missing es fs bs xs [] m h = tt
lanes_missing es fs bs xs (ss ∷ ls) m h =
    let H : List LaneStep → Type 0 = λ ss. All (IsHeardStep fs bs xs) ss in
    each_append (λ (c : Place). IsMissing es c.0 c.1) (got_of ss) (flat_map got_of ls)
    (step_missing es fs bs xs ss m (All-head H ss ls h)) (lanes_missing es fs bs xs ls m (All-tail H ss ls h))

-- ---- they are kept

-- the block at this place was fetched
abbrev pub FetchedBy : List Event → Place → Type 0
FetchedBy es c = 0 < count_by (fetches c.0 c.1) es

fetched_more : (es fs : List Event) (c : Place) → FetchedBy es c → FetchedBy (es ++ fs) c
fetched_more es fs c h = let n = count-append (fetches c.0 c.1) es fs in omega (arith, n, h)

fetched_after : (es fs : List Event) (c : Place) → FetchedBy fs c → FetchedBy (es ++ fs) c
fetched_after es fs c h = let n = count-append (fetches c.0 c.1) es fs in omega (arith, n, h)

lane_fetched : (lane : ℕ) (ss : List LaneStep) → Each (FetchedBy (fetched_on lane ss)) (got_of ss)
lane_fetched lane [] = tt
lane_fetched lane (step.Served p k d ∷ ss) = (
  fetched_more (Fetched lane p k ∷ []) (fetched_on lane ss) (p, k) (own_fetch lane p k),
  each_weaker (FetchedBy (fetched_on lane ss)) (FetchedBy (fetched_on lane (step.Served p k d ∷ ss))) (got_of ss)
      (λ c h. fetched_after (Fetched lane p k ∷ []) (fetched_on lane ss) c h) (lane_fetched lane ss),
)
  where
    own_fetch : (lane p k : ℕ) → FetchedBy (Fetched lane p k ∷ []) (p, k)
    own_fetch lane p k =
        let same : (p == p && k == k) ≡ true = and_from (p == p) (k == k) (eq-eqb p p refl) (eq-eqb k k refl) in
        let n = count-more (fetches p k) [] (Fetched lane p k) same in
        omega (arith, n)
lane_fetched lane (step.Expired p k ∷ ss) = lane_fetched lane ss
lane_fetched lane (step.Failed e ∷ ss) = lane_fetched lane ss

lanes_fetched : (lane : ℕ) (ls : List (List LaneStep))
    → Each (FetchedBy (lane_events fetched_on lane ls)) (flat_map got_of ls)
lanes_fetched lane [] = tt
lanes_fetched lane (ss ∷ ls) =
    let first = fetched_on lane ss in
    let rest = lane_events fetched_on (lane + 1) ls in
    each_append (FetchedBy (first ++ rest)) (got_of ss) (flat_map got_of ls)
    (each_weaker (FetchedBy first) (FetchedBy (first ++ rest)) (got_of ss) (λ c h. fetched_more first rest c h)
    (lane_fetched lane ss))
    (each_weaker (FetchedBy rest) (FetchedBy (first ++ rest)) (flat_map got_of ls) (λ c h. fetched_after first rest c h)
    (lanes_fetched (lane + 1) ls))

pub round_fetched : (es ws : List Event) (ls : List (List LaneStep))
    → Each (FetchedBy (es ++ (lanes_events ls ++ ws))) (flat_map got_of ls)
round_fetched es ws ls =
    each_weaker (FetchedBy (fetched_events ls)) (FetchedBy (es ++ (lanes_events ls ++ ws))) (flat_map got_of ls)
    (λ c h. fetched_after es (lanes_events ls ++ ws) c
    (fetched_more (lanes_events ls) ws c (fetched_more (fetched_events ls) (expired_events ls) c h)))
    (lanes_fetched 0 ls)

-- so it is kept
kept_by : (es : List Event) (c : Place) → FetchedBy es c → is_kept es c.0 c.1 ≡ true
kept_by es c h = by (is_kept es c.0 c.1) refl
  where
    by : (v : Bool) → is_kept es c.0 c.1 ≡ v → is_kept es c.0 c.1 ≡ true
    by true e = e
    by false e = let none = none_fetched c.0 c.1 es e in absurd (omega (arith, none, h))

-- ---- their plans are there

take_over : {A : Type 0} (n : ℕ) (ts rest : List A) → length ts ≤ n
    → take n (ts ++ rest) ≡ ts ++ take (n - length ts) rest
take_over n [] rest h = let z : n ≡ n - 0 = omega arith in ap (λ (k : ℕ). take k rest) z
take_over zero (t ∷ ts) rest h = absurd (omega (arith, h))
take_over (suc n) (t ∷ ts) rest h =
    let z : n - length ts ≡ suc n - suc (length ts) = omega arith in
    ap (λ l. t ∷ l) (take_over n ts rest (omega (arith, h)) ∙ ap (λ (k : ℕ). ts ++ take k rest) z)

nil_back : {A : Type 0} (n : ℕ) → drop {A = A} n [] ≡ []
nil_back zero = refl
nil_back (suc n) = refl

no_back : {A : Type 0} (n : ℕ) (ys rest : List A) → [] ≡ ys ++ rest → drop {A = A} n [] ≡ rest
no_back n [] rest h = nil_back n ∙ h
no_back n (y ∷ ys) rest h = absurd (cc)

back : {A : Type 0} (ys rest : List A) → drop (length ys) (ys ++ rest) ≡ rest
back [] rest = refl
back (y ∷ ys) rest = back ys rest

drop_over : {A : Type 0} (k : ℕ) (xs ys rest : List A) → drop k xs ≡ ys ++ rest → drop (k + length ys) xs ≡ rest
drop_over {A = A} zero xs ys rest h = let e : 0 + length ys ≡ length ys = omega arith in
    ap (λ (j : ℕ). drop j xs) e ∙ ap (λ (l : List A). drop (length ys) l) h ∙ back ys rest
drop_over (suc k) [] ys rest h = no_back (suc k + length ys) ys rest h
drop_over (suc k) (x ∷ xs) ys rest h =
    let e : suc k + length ys ≡ suc (k + length ys) = omega arith in
    ap (λ (j : ℕ). drop j (x ∷ xs)) e ∙ drop_over k xs ys rest h

wanted_kept : (es : List Event) (ts : List Task) (p q : ℕ) → AreKept es ts → list_any (is_wanted p q) ts ≡ true
    → is_kept es p q ≡ true
wanted_kept es [] p q a h = absurd (false≢true h)
wanted_kept es (t ∷ ts) p q a h =
    ⊎_elim
    (λ (e : is_wanted p q t ≡ true).
    let w = and_parts (has_bytes t) (needs p q t) e in
    let n = and_parts (t.plan == p) (t.term.block == q) w.1 in
    ap (λ (i : ℕ). is_kept es i q) (sym (eqb-true t.plan p n.0))
    ∙ ap (λ (i : ℕ). is_kept es t.plan i) (sym (eqb-true t.term.block q n.1)) ∙ a.0 w.0)
    (λ (e : list_any (is_wanted p q) ts ≡ true). wanted_kept es ts p q a.1 e)
    (or_cases (is_wanted p q t) (list_any (is_wanted p q) ts) h)

place_at_is : (ls : List LedPlan) (i : ℕ) (x : LedPlan) → FollowOn ls → slice_get ls i ≡ Some x
    → find_plan ls x.number ≡ Some i
place_at_is [] i x f h = absurd (cc)
place_at_is (l ∷ ls) i x f h =
    let n = numbered_at l ls i x f h in
    let w = slice_get_within (l ∷ ls) i x h in
    let low : nat_le l.number x.number ≡ true = le-leb l.number x.number (omega (arith, n)) in
    let place : x.number - l.number ≡ i = omega (arith, n) in
    let high : nat_lt (x.number - l.number) (length (l ∷ ls)) ≡ true =
    lt-ltb (x.number - l.number) (length (l ∷ ls)) (omega (arith, place, w)) in
    ap (λ (v : Bool). cond (v && nat_lt (x.number - l.number) (length (l ∷ ls))) (Some (x.number - l.number)) None)
    low
    ∙ ap (λ (v : Bool). cond v (Some (x.number - l.number)) None) high ∙ ap Some place

-- a window of terms that was written, between one leader and the next
pub record IsPassed (es fs : List Event) (l k : Led) (ts rest : List Task) : Type 0 where
  pub next : drop l.finished (planned es) ≡ ts ++ rest
  pub within : l.finished + length ts ≤ l.admitted
  pub kept : AreKept es ts
  pub finished_is : k.finished ≡ l.finished + length ts
  pub admitted_is : k.admitted ≡ l.admitted
  pub planned_is : planned fs ≡ planned es

still_open : (g : Setup) (b : RunTold) (es fs : List Event) (sl to : Slack) (stale now : List ℕ) (l k : Led)
    (ts rest : List Task) → IsLed g b es sl stale l → IsLed g b fs to now k → IsPassed es fs l k ts rest
    → open_terms es l.finished ≡ ts ++ open_terms fs k.finished
still_open g b es fs sl to stale now l k ts rest led next p =
    let a = led.counted.admitted_are in
    let c = next.counted.admitted_are in
    let f = p.finished_is in
    let d = p.admitted_is in
    let w = p.within in
    let n = count_by is_admit es - l.finished in
    let enough : length ts ≤ n = omega (arith, a, w) in
    let same : n - length ts ≡ count_by is_admit fs - k.finished = omega (arith, a, c, f, d) in
    let there : drop k.finished (planned fs) ≡ rest =
    ap (λ (i : ℕ). drop i (planned fs)) f ∙ ap (λ (us : List Task). drop (l.finished + length ts) us) p.planned_is
    ∙ drop_over l.finished (planned es) ts rest p.next in
    ap (λ (us : List Task). take n us) p.next ∙ take_over n ts rest enough ∙ ap (λ (i : ℕ). ts ++ take i rest) same
    ∙ ap (λ (us : List Task). ts ++ take (count_by is_admit fs - k.finished) us) (sym there)

served_one : (g : Setup) (b : RunTold) (es fs : List Event) (sl to : Slack) (stale now : List ℕ) (l k : Led)
    (ts rest : List Task) (p q : ℕ) → IsLed g b es sl stale l → IsLed g b fs to now k → IsPassed es fs l k ts rest
    → IsMissing es p q → is_kept fs p q ≡ true → IsServed (block_in k.plans p q)
served_one g b es fs sl to stale now l k ts rest p q led next passed m kept =
    let split = still_open g b es fs sl to stale now l k ts rest led next passed in
    let wanted : list_any (is_wanted p q) (ts ++ open_terms fs k.finished) ≡ true =
    ap (λ (us : List Task). list_any (is_wanted p q) us) (sym split)
    ∙ sym (wanted_is es l.finished p q (is_at g b es sl stale l led)) ∙ m.wanted in
    ⊎_elim
    (λ (e : list_any (is_wanted p q) ts ≡ true). absurd
    (false≢true (sym m.absent ∙ wanted_kept es ts p q passed.kept e)))
    (λ (e : list_any (is_wanted p q) (open_terms fs k.finished) ≡ true). here e)
    (or_cases (list_any (is_wanted p q) ts) (list_any (is_wanted p q) (open_terms fs k.finished))
    (sym (list_any-append (is_wanted p q) ts (open_terms fs k.finished)) ∙ wanted))
  where
    here : list_any (is_wanted p q) (open_terms fs k.finished) ≡ true → IsServed (block_in k.plans p q)
    here e =
        let r = some_plan (TermOf g b fs to now) p q (k.finished - first_of k.plans) (k.admitted - k.finished) k.plans
        (all_terms g b fs to now k.plans next.plans.each)
        (subst (λ (us : List Task). list_any (is_wanted p q) us ≡ true) (open_is g b fs to now k next) e) in
        let t = r.has in
        let of_plan : slice_get r.plan.block.blocks q ≡ Some t.block =
        subst (λ (j : ℕ). slice_get r.plan.block.blocks j ≡ Some t.block) r.of_term t.of_plan in
        let place : find_plan k.plans p ≡ Some r.place =
        ap (find_plan k.plans) (sym r.number) ∙ place_at_is k.plans r.place r.plan next.plans.follow r.at in
        let block : block_in k.plans p q ≡ Some t.block =
        ap (λ (o : Option ℕ). option_and_then (block_there k.plans q) o) place
        ∙ ap (λ (o : Option LedPlan). option_and_then (λ (y : LedPlan). slice_get y.block.blocks q) o) r.at
        ∙ of_plan in
        subst IsServed (sym block) (kept_is g b fs to now r.plan t.led q t.block of_plan
        ∙ ap (λ (i : ℕ). is_kept fs i q) r.number ∙ kept)

pub served_places : (g : Setup) (b : RunTold) (es fs : List Event) (sl to : Slack) (stale now : List ℕ) (l k : Led)
    (ts rest : List Task) (places : List BlockAt) → IsLed g b es sl stale l → IsLed g b fs to now k
    → IsPassed es fs l k ts rest → Each (λ (c : Place). IsMissing es c.0 c.1) (places_at places)
    → Each (FetchedBy fs) (places_at places) → AreServed fs k.plans places
served_places g b es fs sl to stale now l k ts rest [] led next passed m h = tt
served_places g b es fs sl to stale now l k ts rest (c ∷ cs) led next passed m h = (
  served_one g b es fs sl to stale now l k ts rest c.plan c.block led next passed m.0
      (kept_by fs (c.plan, c.block) h.0),
  h.0,
  served_places g b es fs sl to stale now l k ts rest cs led next passed m.1 h.1,
)
