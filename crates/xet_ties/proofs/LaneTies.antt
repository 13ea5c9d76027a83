-- The ties after all that the lanes of a round did is recorded.
use Rattle.std.proofs.Common.{◌≡◌, ℕ, ◌+◌, ◌<◌, ◌≤◌, cond, List, [], ◌∷◌, ◌++◌, length, refl, sym, subst, ◌∙◌, arith, append_assoc, length-append, None}
use Rattle.std.specs.Prelude.{count_by}
use Rattle.std.specs.List.{flat_map}
use Rattle.std.proofs.lemmas.List.{append-nil, length-map}
use Rattle.xet_outside.proofs.CallerLemmas.{count_by-cons}
use Rattle.xet_outside.specs.declared.served.Served.{Served}
use Rattle.xet_events.specs.declared.event.Event.{Event}
use Rattle.xet_events.specs.declared.event.Event.TheVariants.{Fetched, Expired}
use Rattle.xet_ties.specs.History.{expiry_of}
use Rattle.xet_ties.specs.Recordings.{AreFresh, EachFresh, EachMayExpire, Key, MayExpire, Place, blocks_all, entries_all, expired_all, fetched_all, lanes_entries, lanes_expired, lanes_fetched, lanes_late}
use Rattle.xet_ties.specs.InCall.{Exchange}
use Rattle.xet_ties.specs.Saids.{HasPassed}
use Rattle.xet_ties.specs.Setup.{RunTold, Setup}
use Rattle.xet_ties.specs.Ties.{Slack, Ties, has_one}
use Rattle.xet_ties.proofs.Recording.{tie_expired, tie_fetched}
use Rattle.xet_ties.proofs.Telling.{count-append, block_at-push, expired-push}
use Rattle.xet_ties.proofs.RoundCounts.{MayFetch, takes}

pub fresh-push : (es : List Event) (e : Event) → ((p k : ℕ) → expiry_of p k e ≡ []) → (cs : List Key) → AreFresh es cs → AreFresh (es ++ e ∷ []) cs
fresh-push es e h [] a = tt
fresh-push es e h (c ∷ cs) a = (block_at-push es e c.0 c.1 c.2 a.0, expired-push es e c.0 c.1 (h c.0 c.1) ∙ a.1, fresh-push es e h cs a.2)

pub fresh-all : (es : List Event) (lane : ℕ) (ds : List Key) (cs : List Key) → AreFresh es cs → AreFresh (es ++ fetched_all lane ds) cs
fresh-all es lane [] cs a = subst (λ (l : List Event). AreFresh l cs) (sym (append-nil es)) a
fresh-all es lane (d ∷ ds) cs a =
    let e : Event = Fetched lane d.0 d.1 in
    subst (λ (l : List Event). AreFresh l cs) (append_assoc es (e ∷ []) (fetched_all lane ds)) (fresh-all (es ++ e ∷ []) lane ds cs (fresh-push es e (λ p k. refl) cs a))

each-fresh-all : (es : List Event) (lane : ℕ) (ds : List Key) (css : List (List Key)) → EachFresh es css → EachFresh (es ++ fetched_all lane ds) css
each-fresh-all es lane ds [] a = tt
each-fresh-all es lane ds (cs ∷ css) a = (fresh-all es lane ds cs a.0, each-fresh-all es lane ds css a.1)

-- each of the blocks has been answered with bytes that pass
abbrev pub ArePassed : Setup → List Exchange → List Key → Type 0
ArePassed g xs [] = Unit {0}
ArePassed g xs (c ∷ cs) = HasPassed g xs c.0 c.1 × ArePassed g xs cs

abbrev pub EachPassed : Setup → List Exchange → List (List Key) → Type 0
EachPassed g xs [] = Unit {0}
EachPassed g xs (cs ∷ css) = ArePassed g xs cs × EachPassed g xs css

-- ---- one lane

-- tied after these events of a round, with what is left of the asks of the signal
pub record InRound (g : Setup) (b n : RunTold) (es events : List Event) (spare : ℕ) (to : ℕ → Slack) : Type 0 where
  pub left : ℕ
  -- where the round might go on it still may
  pub goes : MayFetch es spare → MayFetch (es ++ events) left
  pub ties : Ties g b n (es ++ events) None (to left)

-- one event, and then the others
round_more : (g : Setup) (b n : RunTold) (es : List Event) (e : Event) (events : List Event) (spare left : ℕ) (to : ℕ → Slack) → MayFetch (es ++ e ∷ []) left → InRound g b n (es ++ e ∷ []) events left to → InRound g b n es (e ∷ events) spare to
round_more g b n es e events spare left to goes r = record {
  left = r.left;
  goes = λ _. subst (λ (l : List Event). MayFetch l r.left) (append_assoc es (e ∷ []) events) (r.goes goes);
  ties = subst (λ (l : List Event). Ties g b n l None (to r.left)) (append_assoc es (e ∷ []) events) r.ties;
}

-- some events, and then others
round_both : (g : Setup) (b n : RunTold) (es xs ys : List Event) (spare left : ℕ) (to : ℕ → Slack) → (MayFetch es spare → MayFetch (es ++ xs) left) → InRound g b n (es ++ xs) ys left to → InRound g b n es (xs ++ ys) spare to
round_both g b n es xs ys spare left to goes r = record {
  left = r.left;
  goes = λ m. subst (λ (l : List Event). MayFetch l r.left) (append_assoc es xs ys) (r.goes (goes m));
  ties = subst (λ (l : List Event). Ties g b n l None (to r.left)) (append_assoc es xs ys) r.ties;
}

-- no event
round_none : (g : Setup) (b n : RunTold) (es : List Event) (sl : Slack) (to : ℕ → Slack) → Ties g b n es None (to sl.spare) → InRound g b n es [] sl.spare to
round_none g b n es sl to t = record {
  left = sl.spare;
  goes = λ m. subst (λ (l : List Event). MayFetch l sl.spare) (sym (append-nil es)) m;
  ties = subst (λ (l : List Event). Ties g b n l None (to sl.spare)) (sym (append-nil es)) t;
}

-- all that a lane served is recorded
pub tie_lane_fetched : (g : Setup) (b n : RunTold) (es : List Event) (sl : Slack) (m : ℕ) (cs : List Key) (h : List Served) (before after : List (List Served))
    → AreFresh es cs → m ≡ length before → sl.hidden ≡ before ++ (entries_all cs ++ h) ∷ after → ArePassed g sl.heard cs → (0 < length cs → MayFetch es sl.spare)
    → Ties g b n es None sl → InRound g b n es (fetched_all m cs) sl.spare (λ i. record sl { hidden = before ++ h ∷ after; due = sl.due + count_by has_one (blocks_all cs); spare = i })
tie_lane_fetched g b n es sl m [] h before after a is hidden passed may t =
    let none : sl.due ≡ sl.due + 0 = omega arith in
    round_none g b n es sl (λ i. record sl { hidden = before ++ h ∷ after; due = sl.due + 0; spare = i })
    (subst (λ (d : ℕ). Ties g b n es None (record sl { hidden = before ++ h ∷ after; due = d })) none
    (subst (λ (l : List (List Served)). Ties g b n es None (record sl { hidden = l })) hidden t))
tie_lane_fetched g b n es sl m (c ∷ cs) h before after a is hidden passed may t =
    let e : Event = Fetched m c.0 c.1 in
    let take = takes es e sl.spare refl (may (omega arith)) in
    let one = tie_fetched g b n es sl m c.0 c.1 c.2 (entries_all cs ++ h) before after a.0 a.1 is hidden passed.0 take.left take.fits t in
    let to : Slack = record sl { hidden = before ++ (entries_all cs ++ h) ∷ after; due = sl.due + cond (has_one c.2) 1 0; spare = take.left } in
    let all = tie_lane_fetched g b n (es ++ e ∷ []) to m cs h before after (fresh-push es e (λ p k. refl) cs a.2) is refl passed.1 (λ _. take.goes) one in
    let count = count_by-cons has_one c.2 (blocks_all cs) in
    let due : (sl.due + cond (has_one c.2) 1 0) + count_by has_one (blocks_all cs) ≡ sl.due + count_by has_one (c.2 ∷ blocks_all cs) = omega (arith, count) in
    round_more g b n es e (fetched_all m cs) sl.spare take.left (λ i. record sl { hidden = before ++ h ∷ after; due = sl.due + count_by has_one (c.2 ∷ blocks_all cs); spare = i }) take.goes
    (subst (λ (d : ℕ). InRound g b n (es ++ e ∷ []) (fetched_all m cs) take.left (λ i. record sl { hidden = before ++ h ∷ after; due = d; spare = i })) due all)

-- all expired answers of a lane are recorded
pub tie_lane_expired : (g : Setup) (b n : RunTold) (es : List Event) (sl : Slack) (m : ℕ) (cs j : List Place) (before after : List (List Place))
    → MayExpire g.tries m es cs → m ≡ length before → sl.late ≡ before ++ (cs ++ j) ∷ after → (0 < length cs → MayFetch es sl.spare)
    → Ties g b n es None sl → InRound g b n es (expired_all m cs) sl.spare (λ i. record sl { late = before ++ j ∷ after; spare = i })
tie_lane_expired g b n es sl m [] j before after a is late may t =
    round_none g b n es sl (λ i. record sl { late = before ++ j ∷ after; spare = i })
    (subst (λ (l : List (List Place)). Ties g b n es None (record sl { late = l })) late t)
tie_lane_expired g b n es sl m (c ∷ cs) j before after a is late may t =
    let e : Event = Expired m c.0 c.1 in
    let take = takes es e sl.spare refl (may (omega arith)) in
    let one = tie_expired g b n es sl m c.0 c.1 (cs ++ j) before after a.0 is late take.left take.fits t in
    round_more g b n es e (expired_all m cs) sl.spare take.left (λ i. record sl { late = before ++ j ∷ after; spare = i }) take.goes
    (tie_lane_expired g b n (es ++ e ∷ []) (record sl { late = before ++ (cs ++ j) ∷ after; spare = take.left }) m cs j before after a.2 is refl (λ _. take.goes) one)

-- ---- all lanes

-- where there is an event of the first lane, or of the others
first_may : (X : Type 0) (xs ys : List Event) → (0 < length (xs ++ ys) → X) → 0 < length xs → X
first_may X xs ys may h = let n = length-append xs ys in may (omega (arith, n, h))

rest_may : (X : Type 0) (xs ys : List Event) → (0 < length (xs ++ ys) → X) → 0 < length ys → X
rest_may X xs ys may h = let n = length-append xs ys in may (omega (arith, n, h))

fetched_length : (m : ℕ) (cs : List Key) → length (fetched_all m cs) ≡ length cs
fetched_length m cs = length-map cs (λ (c : Key). Fetched m c.0 c.1)

expired_length : (m : ℕ) (cs : List Place) → length (expired_all m cs) ≡ length cs
expired_length m cs = length-map cs (λ (c : Place). Expired m c.0 c.1)

pub tie_lanes_fetched : (g : Setup) (b n : RunTold) (es : List Event) (sl : Slack) (m : ℕ) (css : List (List Key)) (hs before : List (List Served))
    → EachFresh es css → length css ≤ length hs → m ≡ length before → sl.hidden ≡ before ++ lanes_entries css hs → EachPassed g sl.heard css → (0 < length (lanes_fetched m css) → MayFetch es sl.spare)
    → Ties g b n es None sl → InRound g b n es (lanes_fetched m css) sl.spare (λ i. record sl { hidden = before ++ hs; due = sl.due + count_by has_one (flat_map blocks_all css); spare = i })
tie_lanes_fetched g b n es sl m [] hs before a some is hidden passed may t =
    let none : sl.due ≡ sl.due + 0 = omega arith in
    round_none g b n es sl (λ i. record sl { hidden = before ++ hs; due = sl.due + 0; spare = i })
    (subst (λ (d : ℕ). Ties g b n es None (record sl { hidden = before ++ hs; due = d })) none
    (subst (λ (l : List (List Served)). Ties g b n es None (record sl { hidden = l })) hidden t))
tie_lanes_fetched g b n es sl m (cs ∷ css) [] before a some is hidden passed may t = absurd (omega (arith, some))
tie_lanes_fetched g b n es sl m (cs ∷ css) (h ∷ hs) before a some is hidden passed may t =
    let more = lanes_entries css hs in
    let first = fetched_all m cs in
    let others = lanes_fetched (m + 1) css in
    let X = MayFetch es sl.spare in
    let one = tie_lane_fetched g b n es sl m cs h before more a.0 is hidden passed.0 (λ k. first_may X first others may (let f = fetched_length m cs in omega (arith, f, k))) t in
    let to : Slack = record sl { hidden = before ++ h ∷ more; due = sl.due + count_by has_one (blocks_all cs); spare = one.left } in
    let next : m + 1 ≡ length (before ++ h ∷ []) = omega (arith, is, length-append before (h ∷ [])) in
    let all = tie_lanes_fetched g b n (es ++ first) to (m + 1) css hs (before ++ h ∷ []) (each-fresh-all es m cs css a.1) (omega (arith, some)) next (sym (append_assoc before (h ∷ []) more)) passed.1 (λ k. one.goes (rest_may X first others may k)) one.ties in
    let count = count-append has_one (blocks_all cs) (flat_map blocks_all css) in
    let due : (sl.due + count_by has_one (blocks_all cs)) + count_by has_one (flat_map blocks_all css) ≡ sl.due + count_by has_one (blocks_all cs ++ flat_map blocks_all css) = omega (arith, count) in
    round_both g b n es first others sl.spare one.left (λ i. record sl { hidden = before ++ h ∷ hs; due = sl.due + count_by has_one (blocks_all cs ++ flat_map blocks_all css); spare = i }) one.goes
    (subst (λ (d : ℕ). InRound g b n (es ++ first) others one.left (λ i. record sl { hidden = before ++ h ∷ hs; due = d; spare = i })) due
    (subst (λ (l : List (List Served)). InRound g b n (es ++ first) others one.left (λ i. record sl { hidden = l; due = (sl.due + count_by has_one (blocks_all cs)) + count_by has_one (flat_map blocks_all css); spare = i })) (append_assoc before (h ∷ []) hs) all))

pub tie_lanes_expired : (g : Setup) (b n : RunTold) (es : List Event) (sl : Slack) (m : ℕ) (css ks before : List (List Place))
    → EachMayExpire g.tries m es css → length css ≤ length ks → m ≡ length before → sl.late ≡ before ++ lanes_late css ks → (0 < length (lanes_expired m css) → MayFetch es sl.spare)
    → Ties g b n es None sl → InRound g b n es (lanes_expired m css) sl.spare (λ i. record sl { late = before ++ ks; spare = i })
tie_lanes_expired g b n es sl m [] ks before a some is late may t =
    round_none g b n es sl (λ i. record sl { late = before ++ ks; spare = i }) (subst (λ (l : List (List Place)). Ties g b n es None (record sl { late = l })) late t)
tie_lanes_expired g b n es sl m (cs ∷ css) [] before a some is late may t = absurd (omega (arith, some))
tie_lanes_expired g b n es sl m (cs ∷ css) (k ∷ ks) before a some is late may t =
    let more = lanes_late css ks in
    let first = expired_all m cs in
    let others = lanes_expired (m + 1) css in
    let X = MayFetch es sl.spare in
    let one = tie_lane_expired g b n es sl m cs k before more a.0 is late (λ i. first_may X first others may (let f = expired_length m cs in omega (arith, f, i))) t in
    let next : m + 1 ≡ length (before ++ k ∷ []) = omega (arith, is, length-append before (k ∷ [])) in
    let all = tie_lanes_expired g b n (es ++ first) (record sl { late = before ++ k ∷ more; spare = one.left }) (m + 1) css ks (before ++ k ∷ []) a.1 (omega (arith, some)) next (sym (append_assoc before (k ∷ []) more)) (λ i. one.goes (rest_may X first others may i)) one.ties in
    round_both g b n es first others sl.spare one.left (λ i. record sl { late = before ++ k ∷ ks; spare = i }) one.goes
    (subst (λ (l : List (List Place)). InRound g b n (es ++ first) others one.left (λ i. record sl { late = l; spare = i })) (append_assoc before (k ∷ []) ks) all)
