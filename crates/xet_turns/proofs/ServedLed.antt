-- A leader after the served answers of a round, whose data its blocks keep.
use Rattle.std.proofs.Common.{◌≡◌, ℕ, zero, suc, ◌+◌, Bool, true, false, cond, List, [], ◌∷◌, ◌++◌, refl, sym, subst, ◌∙◌, ap, arith, append_assoc, inl, inr, ⊎_elim}
use Rattle.std.specs.Prelude.{All, Some, ◌==◌, ◌⊎◌, slice_get, slice_set}
use Rattle.std.specs.List.{flat_map}
use Rattle.std.specs.Option.{is_some}
use Rattle.std.proofs.lemmas.List.{append-nil}
use Rattle.std.proofs.lemmas.List.Elements.{All-head, All-tail}
use Rattle.xet_offers.specs.declared.reconstruction_terms.xorb_block.XorbBlock.{XorbBlock}
use Rattle.xet_offers.specs.declared.reconstruction_terms.xorb_block.XorbBlockData.{XorbBlockData}
use Rattle.xet_events.specs.declared.event.Event.{Event}
use Rattle.xet_events.specs.declared.event.Event.TheVariants.{Fetched}
use Rattle.xet_events.specs.Allowed.{AllowedAfter, IsAllowed}
use Rattle.xet_events.specs.Events.{is_kept}
use Rattle.xet_ties.specs.declared.lane_step.LaneStep.{LaneStep}
use Rattle.xet_ties.specs.declared.lane_step.LaneStep.TheVariants as step
use Rattle.xet_ties.specs.Setup.{RunTold, Setup}
use Rattle.xet_ties.specs.Recordings.{fetched_on, lane_events}
use Rattle.xet_ties.specs.Ties.{Slack}
use Rattle.xet_ties.proofs.CallerLemmas.{allowed_first, allowed_rest, grew_none}
use Rattle.xet_leader.specs.declared.leader.LedPlan.{LedPlan}
use Rattle.xet_leader.specs.ByNumber.{change_at, only, plan_index}
use Rattle.xet_leader.specs.Keeping.{Given, given_of, keep_data, keep_in, kept, kept_one}
use Rattle.xet_leader.specs.KeptBlocks.{with_data}
use Rattle.xet_turns.specs.Rounds.{IsLedAt}
use Rattle.xet_leader.specs.Led.{EachLedBlock, IsAnswerData, IsLed, IsLedData, IsLedPlan, Led, bare}
use Rattle.xet_leader.proofs.CallerLemmas.{IsAlike, IsKeeping, IsKeptData, fetched_keeps, kept-append, kept_here, led_kept, placed, tells_more_heard}

-- ---- data that belongs to a block of the plans

-- this is data for a block of these plans, by what was told
pub record IsGivenTo (b : RunTold) (sl : Slack) (ls : List LedPlan) (c : Given) : Type 0 where
  pub block : XorbBlock
  pub led_at : IsLedAt ls c.0 c.1 block
  pub data_is : IsLedData b sl c.0 c.1 (with_data block c.2)
  pub answer : IsAnswerData sl c.0 c.1 (bare block) c.2

abbrev pub EachGiven : RunTold → Slack → List LedPlan → List Given → Type 0
EachGiven b sl ls [] = Unit {0}
EachGiven b sl ls (c ∷ cs) = IsGivenTo b sl ls c × EachGiven b sl ls cs

-- ---- it stays so where another one is kept

pub record ChangedGet {A : Type 0} (f : A → A) (ys : List A) (j : ℕ) (x : A) : Type 0 where
  pub y : A
  pub at : slice_get ys j ≡ Some y
  pub is : (y ≡ x) ⊎ (y ≡ f x)

pub changed_get : {A : Type 0} (f : A → A) (i j : ℕ) (xs : List A) (x : A) → slice_get xs j ≡ Some x
    → ChangedGet f (change_at i f xs) j x
changed_get f i j [] x h = absurd (cc)
changed_get f zero zero (z ∷ xs) x h = record { y = f z; at = refl; is = inr (let same : z ≡ x = cc in ap f same) }
changed_get f zero (suc j) (z ∷ xs) x h = record { y = x; at = h; is = inl refl }
changed_get f (suc i) zero (z ∷ xs) x h = record { y = z; at = refl; is = inl (cc) }
changed_get f (suc i) (suc j) (z ∷ xs) x h = let r = changed_get f i j xs x h in
    record { y = r.y; at = r.at; is = r.is }

same_bare : (found : XorbBlockData) (x : XorbBlock) → bare (keep_data found x) ≡ bare x
same_bare found x = by (is_some x.kept)
  where
    by : (v : Bool) → bare (cond v x (record x { kept = Some found })) ≡ bare x
    by true = refl
    by false = refl

pub only_either : (p : ℕ) (f : LedPlan → LedPlan) (l : LedPlan) → (only p f l ≡ l) ⊎ (only p f l ≡ f l)
only_either p f l = by (l.number == p)
  where
    by : (v : Bool) → (cond v (f l) l ≡ l) ⊎ (cond v (f l) l ≡ f l)
    by true = inr refl
    by false = inl refl

-- the block there, but for what it keeps
pub record LedStill (ls : List LedPlan) (p k : ℕ) (x : XorbBlock) (l : LedPlan) : Type 0 where
  pub block : XorbBlock
  pub led_at : IsLedAt ls p k block
  pub same : bare block ≡ bare x
  pub alike : IsAlike l led_at.plan

pub led_still : (ls : List LedPlan) (c : Given) (p k : ℕ) (x : XorbBlock) → (a : IsLedAt ls p k x)
    → LedStill (kept_one c ls) p k x a.plan
led_still ls c p k x a =
    let r = changed_get (only c.0 (keep_in c.1 c.2)) (plan_index ls c.0) a.index ls a.plan a.at in
    ⊎_elim (λ (e : r.y ≡ a.plan). as_was r.y r.at e)
    (λ (e : r.y ≡ only c.0 (keep_in c.1 c.2) a.plan). ⊎_elim
    (λ (f : only c.0 (keep_in c.1 c.2) a.plan ≡ a.plan). as_was r.y r.at (e ∙ f))
    (λ (f : only c.0 (keep_in c.1 c.2) a.plan ≡ keep_in c.1 c.2 a.plan). changed r.y r.at (e ∙ f))
    (only_either c.0 (keep_in c.1 c.2) a.plan)) r.is
  where
    as_was : (y : LedPlan) → slice_get (kept_one c ls) a.index ≡ Some y → y ≡ a.plan
        → LedStill (kept_one c ls) p k x a.plan
    as_was y at e = record {
      block = x;
      led_at = record {
        index = a.index;
        plan = a.plan;
        at = at ∙ ap Some e;
        number = a.number;
        in_plan = a.in_plan;
      };
      same = refl;
      alike = record { number = refl; first = refl; terms = refl };
    }

    changed : (y : LedPlan) → slice_get (kept_one c ls) a.index ≡ Some y → y ≡ keep_in c.1 c.2 a.plan
        → LedStill (kept_one c ls) p k x a.plan
    changed y at e =
        let r = changed_get (keep_data c.2) c.1 k a.plan.block.blocks x a.in_plan in
        record {
          block = r.y;
          led_at = record {
            index = a.index;
            plan = keep_in c.1 c.2 a.plan;
            at = at ∙ ap Some e;
            number = a.number;
            in_plan = r.at;
          };
          same = ⊎_elim (λ (f : r.y ≡ x). ap bare f) (λ (f : r.y ≡ keep_data c.2 x). ap bare f ∙ same_bare c.2 x)
              r.is;
          alike = record { number = refl; first = refl; terms = refl };
        }

given_stays : (b : RunTold) (sl : Slack) (ls : List LedPlan) (e c : Given) → IsGivenTo b sl ls c
    → IsGivenTo b sl (kept_one e ls) c
given_stays b sl ls e c h =
    let r = led_still ls e c.0 c.1 h.block h.led_at in
    record {
      block = r.block;
      led_at = r.led_at;
      data_is = subst
          (λ (x : XorbBlock). IsLedData b sl c.0 c.1 (with_data x c.2)) (sym r.same) h.data_is;
      answer = subst (λ (x : XorbBlock). IsAnswerData sl c.0 c.1 x c.2) (sym r.same) h.answer;
    }

each_stays : (b : RunTold) (sl : Slack) (ls : List LedPlan) (e : Given) (cs : List Given) → EachGiven b sl ls cs
    → EachGiven b sl (kept_one e ls) cs
each_stays b sl ls e [] h = tt
each_stays b sl ls e (c ∷ cs) h = (given_stays b sl ls e c h.0, each_stays b sl ls e cs h.1)

all_stay : (b : RunTold) (sl : Slack) (ls : List LedPlan) (es cs : List Given) → EachGiven b sl ls cs
    → EachGiven b sl (kept es ls) cs
all_stay b sl ls [] cs h = h
all_stay b sl ls (e ∷ es) cs h = all_stay b sl (kept_one e ls) es cs (each_stays b sl ls e cs h)

each_front : (b : RunTold) (sl : Slack) (ls : List LedPlan) (xs ys : List Given) → EachGiven b sl ls (xs ++ ys)
    → EachGiven b sl ls xs
each_front b sl ls [] ys h = tt
each_front b sl ls (x ∷ xs) ys h = (h.0, each_front b sl ls xs ys h.1)

each_back : (b : RunTold) (sl : Slack) (ls : List LedPlan) (xs ys : List Given) → EachGiven b sl ls (xs ++ ys)
    → EachGiven b sl ls ys
each_back b sl ls [] ys h = h
each_back b sl ls (x ∷ xs) ys h = each_back b sl ls xs ys h.1

pub each_both : (b : RunTold) (sl : Slack) (ls : List LedPlan) (xs ys : List Given) → EachGiven b sl ls xs
    → EachGiven b sl ls ys → EachGiven b sl ls (xs ++ ys)
each_both b sl ls [] ys h k = k
each_both b sl ls (x ∷ xs) ys h k = (h.0, each_both b sl ls xs ys h.1 k)

-- ---- one answer

pub plan_at : (P : LedPlan → Type 0) (ls : List LedPlan) (i : ℕ) (l : LedPlan) → slice_get ls i ≡ Some l → All P ls
    → P l
plan_at P [] i l h a = absurd (cc)
plan_at P (k ∷ ls) zero l h a = let same : k ≡ l = cc in subst P same (All-head P k ls a)
plan_at P (k ∷ ls) (suc i) l h a = plan_at P ls i l h (All-tail P k ls a)

block_keeps : (b : RunTold) (es : List Event) (sl : Slack) (p n k : ℕ) (ts : List ℕ) (xs : List XorbBlock)
    (x : XorbBlock) → slice_get xs k ≡ Some x → EachLedBlock b es sl p n ts xs → is_some x.kept ≡ is_kept es p (n + k)
block_keeps b es sl p n k [] [] x h a = absurd (cc)
block_keeps b es sl p n k [] (y ∷ xs) x h a = absurd a
block_keeps b es sl p n k (t ∷ ts) [] x h a = absurd (cc)
block_keeps b es sl p n zero (t ∷ ts) (y ∷ xs) x h a =
    let same : y ≡ x = cc in
    let z : n ≡ n + 0 = omega arith in
    ap (λ (y : XorbBlock). is_some y.kept) (sym same) ∙ a.0.kept ∙ ap (λ (m : ℕ). is_kept es p m) z
block_keeps b es sl p n (suc k) (t ∷ ts) (y ∷ xs) x h a =
    let z : (n + 1) + k ≡ n + suc k = omega arith in
    block_keeps b es sl p (n + 1) k ts xs x h a.1 ∙ ap (λ (m : ℕ). is_kept es p m) z

-- whether a block of the leader keeps data, as its history has it
pub led_keeps : (g : Setup) (b : RunTold) (es : List Event) (sl : Slack) (stale : List ℕ) (l : Led) (p k : ℕ)
    (x : XorbBlock) → IsLedAt l.plans p k x → IsLed g b es sl stale l → is_some x.kept ≡ is_kept es p k
led_keeps g b es sl stale l p k x a led =
    let h = plan_at (IsLedPlan g b es sl stale) l.plans a.index a.plan a.at led.plans.each in
    let z : 0 + k ≡ k = omega arith in
    block_keeps b es sl a.plan.number 0 k a.plan.tries.items a.plan.block.blocks x a.in_plan h.each
    ∙ ap (λ (q : ℕ). is_kept es q (0 + k)) a.number ∙ ap (λ (m : ℕ). is_kept es p m) z

led_fetched : (g : Setup) (b : RunTold) (es : List Event) (sl : Slack) (stale : List ℕ) (lane : ℕ) (c : Given)
    (l : Led) → IsAllowed es (Fetched lane c.0 c.1) → IsGivenTo b sl l.plans c → IsLed g b es sl stale l
    → IsLed g b (es ++ Fetched lane c.0 c.1 ∷ []) sl stale (record l { plans = kept_one c l.plans })
led_fetched g b es sl stale lane c l may h led =
    let a = h.led_at in
    let e : Event = Fetched lane c.0 c.1 in
    let none : is_some h.block.kept ≡ false = led_keeps g b es sl stale l c.0 c.1 h.block a led ∙ may.1.absent in
    let place = ap (λ (n : ℕ). plan_index l.plans n) (sym a.number)
    ∙ placed l.plans a.index a.plan led.plans.follow a.at in
    let keeps : IsKeeping a.plan.number c.1 e = subst (λ (n : ℕ). IsKeeping n c.1 e) (sym a.number)
    (fetched_keeps lane c.0 c.1) in
    let data_of : IsKeptData b es e sl a.plan.number c.1 h.block c.2 = record {
      data_is = subst (λ (n : ℕ). IsLedData b sl n c.1 (with_data h.block c.2)) (sym a.number) h.data_is;
      fetched = λ f. subst (λ (n : ℕ). IsAnswerData sl n c.1 (bare h.block) c.2) (sym a.number) h.answer;
    } in
    let to = led_kept g b es e sl sl stale l a.index c.1 a.plan h.block c.2 keeps
    (tells_more_heard sl sl (grew_none sl.heard) refl) a.at a.in_plan data_of led in
    subst (λ (ls : List LedPlan). IsLed g b (es ++ e ∷ []) sl stale (record l { plans = ls }))
    (sym (kept_here l.plans a.plan a.index c.0 c.1 h.block c.2 place a.at a.number a.in_plan none)) to

-- ---- the answers of a lane, and of all lanes

led_lane : (g : Setup) (b : RunTold) (es : List Event) (sl : Slack) (stale : List ℕ) (lane : ℕ) (ss : List LaneStep)
    (l : Led) → AllowedAfter es (fetched_on lane ss) → EachGiven b sl l.plans (given_of ss) → IsLed g b es sl stale l
    → IsLed g b (es ++ fetched_on lane ss) sl stale (record l { plans = kept (given_of ss) l.plans })
led_lane g b es sl stale lane [] l may h led = subst (λ (x : List Event). IsLed g b x sl stale l)
    (sym (append-nil es)) led
led_lane g b es sl stale lane (step.Served p k found ∷ ss) l may h led =
    let one = led_fetched g b es sl stale lane (p, k, found) l may.0 h.0 led in
    let e : Event = Fetched lane p k in
    subst (λ (x : List Event). IsLed g b x sl stale
    (record l { plans = kept (given_of ss) (kept_one (p, k, found) l.plans) }))
    (append_assoc es (e ∷ []) (fetched_on lane ss))
    (led_lane g b (es ++ e ∷ []) sl stale lane ss (record l { plans = kept_one (p, k, found) l.plans }) may.1
    (each_stays b sl l.plans (p, k, found) (given_of ss) h.1) one)
led_lane g b es sl stale lane (step.Expired p k ∷ ss) l may h led = led_lane g b es sl stale lane ss l may h led
led_lane g b es sl stale lane (step.Failed e ∷ ss) l may h led = led_lane g b es sl stale lane ss l may h led

-- from this lane on
pub led_served : (g : Setup) (b : RunTold) (es : List Event) (sl : Slack) (stale : List ℕ) (lane : ℕ)
    (ls : List (List LaneStep)) (l : Led) → AllowedAfter es (lane_events fetched_on lane ls)
    → EachGiven b sl l.plans (flat_map given_of ls) → IsLed g b es sl stale l
    → IsLed g b (es ++ lane_events fetched_on lane ls) sl stale
    (record l { plans = kept (flat_map given_of ls) l.plans })
led_served g b es sl stale lane [] l may h led =
    subst (λ (x : List Event). IsLed g b x sl stale l) (sym (append-nil es)) led
led_served g b es sl stale lane (ss ∷ ls) l may h led =
    let first = fetched_on lane ss in
    let rest = lane_events fetched_on (lane + 1) ls in
    let mid : Led = record l { plans = kept (given_of ss) l.plans } in
    let one = led_lane g b es sl stale lane ss l (allowed_first es first rest may)
    (each_front b sl l.plans (given_of ss) (flat_map given_of ls) h) led in
    let all = led_served g b (es ++ first) sl stale (lane + 1) ls mid (allowed_rest es first rest may)
    (all_stay b sl l.plans (given_of ss) (flat_map given_of ls)
    (each_back b sl l.plans (given_of ss) (flat_map given_of ls) h)) one in
    subst (λ (x : List Event). IsLed g b x sl stale
    (record l { plans = kept (given_of ss ++ flat_map given_of ls) l.plans })) (append_assoc es first rest)
    (subst (λ (ps : List LedPlan). IsLed g b ((es ++ first) ++ rest) sl stale (record l { plans = ps }))
    (sym (kept-append (given_of ss) (flat_map given_of ls) l.plans)) all)
