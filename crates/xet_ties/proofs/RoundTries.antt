-- The expired answers of a round may be recorded, where each of its fetches has tries left and no two are of one block.
use Rattle.std.proofs.Common.{◌≡◌, ℕ, ◌+◌, ◌<◌, ◌≤◌, ◌==◌, ◌&&◌, Bool, true, false, cond, List, [], ◌∷◌, ◌++◌, map, refl, sym, subst, ◌∙◌, ap, arith, append_assoc}
use Rattle.std.specs.Prelude.{All, count_by}
use Rattle.std.specs.List.{concat}
use Rattle.std.proofs.lemmas.Bool.{eq-eqb, eqb-true, ne_eqb}
use Rattle.std.proofs.lemmas.List.{append-nil}
use Rattle.std.proofs.lemmas.List.Elements.{All-head, All-tail}
use Rattle.xet_outside.specs.declared.said.Said.{Said}
use Rattle.xet_outside.specs.declared.served.Served.{Served}
use Rattle.xet_outside.specs.Told.{ClientTold}
use Rattle.xet_outside.proofs.CallerLemmas.{count_by-cons}
use Rattle.xet_events.specs.declared.event.Event.{Event}
use Rattle.xet_events.specs.declared.event.Event.TheVariants.{Fetched}
use Rattle.xet_events.specs.Events.{expires}
use Rattle.xet_ties.specs.History.{is_expired}
use Rattle.xet_ties.specs.Lanes.{AreOf, Ask, DrewApart, EachDrew, entries_of}
use Rattle.xet_ties.specs.Ties.{is_pair}
use Rattle.xet_ties.specs.declared.lane_step.LaneStep.{LaneStep}
use Rattle.xet_ties.specs.declared.lane_step.LaneStep.TheVariants as step
use Rattle.xet_ties.specs.Recordings.{EachMayExpire, HasTry, HaveTries, Spot, asks_for, at_spot, fetched_on, lane_events, lane_spots, places_of, spots}
use Rattle.xet_ties.proofs.LaneJoins.{at_append, made_of, made_weighs, numbers_weigh, once_most, once_past, weigh, weigh_at}
use Rattle.xet_ties.proofs.Missing.{lanes_may_expire}
use Rattle.xet_ties.proofs.Telling.{count-append, count-same, expired-push}

-- ---- places of a lane

-- an Expired step of a fetch is counted as its pair
pub pair_is : (p k lane q j : ℕ) (a : Ask) → q ≡ a.request.acquisition.plan → j ≡ a.request.index → at_spot p k (lane, q, j) ≡ (p == a.request.acquisition.plan && k == a.request.index)
pair_is p k lane q j a e f = ap (λ (i : ℕ). p == i && k == j) e ∙ ap (λ (i : ℕ). p == a.request.acquisition.plan && k == i) f

-- how often a fetch is of a block, as the spots say it
abbrev pub counts : ℕ → ℕ → Served → ℕ
counts p k e = cond (p == e.plan && k == e.index) 1 0

lane_count : (p k lane : ℕ) (b n : ClientTold) (served : List Served) (all : List Said) (qs : List Ask) (ss : List LaneStep) → AreOf b n served all qs ss → count_by (at_spot p k) (spots lane (places_of ss)) ≤ weigh (counts p k) (map asks_for qs)
lane_count p k lane b n served all qs [] are = omega arith
lane_count p k lane b n served all [] (s ∷ ss) are = absurd are
lane_count p k lane b n served all (a ∷ qs) (step.Served q j d ∷ ss) are = let r = lane_count p k lane b n served all qs ss are.1 in omega (arith, r)
lane_count p k lane b n served all (a ∷ qs) (step.Expired q j ∷ ss) are =
    let r = lane_count p k lane b n served all qs ss are.1 in
    let c = count_by-cons (at_spot p k) (lane, q, j) (spots lane (places_of ss)) in
    let e = ap {B = ℕ} (λ (v : Bool). cond v 1 0) (pair_is p k lane q j a are.0.0 are.0.1) in
    omega (arith, r, c, e)
lane_count p k lane b n served all (a ∷ qs) (step.Failed x ∷ ss) are = let r = lane_count p k lane b n served all qs ss are.1 in omega (arith, r)

lanes_count : (p k lane : ℕ) (fs : List Ask) (bs ns : List ClientTold) (drawn : List (List ℕ)) (ls : List (List LaneStep)) → EachDrew fs bs ns drawn ls → count_by (at_spot p k) (lane_spots lane (map places_of ls)) ≤ weigh_at (counts p k) fs (concat drawn)
lanes_count p k lane fs bs ns [] [] e = omega arith
lanes_count p k lane fs bs ns [] (ss ∷ ls) e = absurd e
lanes_count p k lane fs bs ns (d ∷ ds) [] e = absurd e
lanes_count p k lane fs [] ns (d ∷ ds) (ss ∷ ls) e = absurd e
lanes_count p k lane fs (b ∷ bs) [] (d ∷ ds) (ss ∷ ls) e = absurd e
lanes_count p k lane fs (b ∷ bs) (n ∷ ns) (d ∷ ds) (ss ∷ ls) e =
    let did = e.0.did in
    let one = lane_count p k lane b n (entries_of e.0.made ss ++ did.hidden) did.said e.0.made ss did.are in
    let m = made_weighs (counts p k) fs d e.0.made e.0.at in
    let r = lanes_count p k (lane + 1) fs bs ns ds ls e.1 in
    let c = count-append (at_spot p k) (spots lane (places_of ss)) (lane_spots (lane + 1) (map places_of ls)) in
    let s = at_append (counts p k) fs d (concat ds) in
    omega (arith, one, m, r, c, s)

swap : (a b c d : ℕ) → (a == c && b == d) ≡ (c == a && d == b)
swap a b c d = ap (λ (v : Bool). v && b == d) (same_eq a c) ∙ ap (λ (v : Bool). c == a && v) (same_eq b d)
  where
    same_eq : (x y : ℕ) → (x == y) ≡ (y == x)
    same_eq x y = go (x == y) refl
      where
        go : (v : Bool) → (x == y) ≡ v → (x == y) ≡ (y == x)
        go true e = e ∙ sym (eq-eqb y x (sym (eqb-true x y e)))
        go false e = e ∙ sym (ne_eqb y x (λ h. let z = eq-eqb x y (sym h) in cc))

pub counts_pairs : (p k : ℕ) (fs : List Ask) → weigh (counts p k) (map asks_for fs) ≡ count_by (is_pair p k) (map asks_for fs)
counts_pairs p k [] = refl
counts_pairs p k (a ∷ fs) =
    let r = counts_pairs p k fs in
    let c = count_by-cons (is_pair p k) (asks_for a) (map asks_for fs) in
    let e = ap {B = ℕ} (λ (v : Bool). cond v 1 0) (swap p k a.request.acquisition.plan a.request.index) in
    omega (arith, r, c, e)

-- ---- tries

lane_tries : (tries lane : ℕ) (es : List Event) (b n : ClientTold) (served : List Served) (all : List Said) (qs : List Ask) (ss : List LaneStep) → AreOf b n served all qs ss → All (HasTry tries es) qs → HaveTries tries es (spots lane (places_of ss))
lane_tries tries lane es b n served all qs [] are h = tt
lane_tries tries lane es b n served all [] (s ∷ ss) are h = absurd are
lane_tries tries lane es b n served all (a ∷ qs) (step.Served q j d ∷ ss) are h = lane_tries tries lane es b n served all qs ss are.1 (All-tail (HasTry tries es) a qs h)
lane_tries tries lane es b n served all (a ∷ qs) (step.Expired q j ∷ ss) are h =
    let one = All-head (HasTry tries es) a qs h in (
      subst (λ (i : ℕ). is_expired es i j ≡ false) (sym are.0.0) (subst (λ (i : ℕ). is_expired es a.request.acquisition.plan i ≡ false) (sym are.0.1) one.fresh),
      subst (λ (i : ℕ). count_by (expires i j) es < tries) (sym are.0.0) (subst (λ (i : ℕ). count_by (expires a.request.acquisition.plan i) es < tries) (sym are.0.1) one.left),
      lane_tries tries lane es b n served all qs ss are.1 (All-tail (HasTry tries es) a qs h),
    )
lane_tries tries lane es b n served all (a ∷ qs) (step.Failed x ∷ ss) are h = lane_tries tries lane es b n served all qs ss are.1 (All-tail (HasTry tries es) a qs h)

tries_both : (tries : ℕ) (es : List Event) (xs ys : List Spot) → HaveTries tries es xs → HaveTries tries es ys → HaveTries tries es (xs ++ ys)
tries_both tries es [] ys a b = b
tries_both tries es (x ∷ xs) ys a b = (a.0, a.1, tries_both tries es xs ys a.2 b)

lanes_tries : (tries lane : ℕ) (es : List Event) (fs : List Ask) (bs ns : List ClientTold) (drawn : List (List ℕ)) (ls : List (List LaneStep)) → EachDrew fs bs ns drawn ls → All (HasTry tries es) fs → HaveTries tries es (lane_spots lane (map places_of ls))
lanes_tries tries lane es fs bs ns [] [] e h = tt
lanes_tries tries lane es fs bs ns [] (ss ∷ ls) e h = absurd e
lanes_tries tries lane es fs bs ns (d ∷ ds) [] e h = absurd e
lanes_tries tries lane es fs [] ns (d ∷ ds) (ss ∷ ls) e h = absurd e
lanes_tries tries lane es fs (b ∷ bs) [] (d ∷ ds) (ss ∷ ls) e h = absurd e
lanes_tries tries lane es fs (b ∷ bs) (n ∷ ns) (d ∷ ds) (ss ∷ ls) e h =
    let did = e.0.did in
    tries_both tries es (spots lane (places_of ss)) (lane_spots (lane + 1) (map places_of ls))
    (lane_tries tries lane es b n (entries_of e.0.made ss ++ did.hidden) did.said e.0.made ss did.are (made_of (HasTry tries es) fs d e.0.made h e.0.at))
    (lanes_tries tries (lane + 1) es fs bs ns ds ls e.1 h)

-- ---- after the fetched ones

tries_fetched : (tries : ℕ) (es : List Event) (m q j : ℕ) (ts : List Spot) → HaveTries tries es ts → HaveTries tries (es ++ Fetched m q j ∷ []) ts
tries_fetched tries es m q j [] h = tt
tries_fetched tries es m q j (t ∷ ts) h =
    let e : Event = Fetched m q j in
    let c = count-same (expires t.1 t.2) es e refl in
    let l = h.1 in
    (expired-push es e t.1 t.2 refl ∙ h.0, omega (arith, c, l), tries_fetched tries es m q j ts h.2)

tries_on : (tries lane : ℕ) (es : List Event) (ss : List LaneStep) (ts : List Spot) → HaveTries tries es ts → HaveTries tries (es ++ fetched_on lane ss) ts
tries_on tries lane es [] ts h = subst (λ (l : List Event). HaveTries tries l ts) (sym (append-nil es)) h
tries_on tries lane es (step.Served p k d ∷ ss) ts h =
    subst (λ (l : List Event). HaveTries tries l ts) (append_assoc es (Fetched lane p k ∷ []) (fetched_on lane ss)) (tries_on tries lane (es ++ Fetched lane p k ∷ []) ss ts (tries_fetched tries es lane p k ts h))
tries_on tries lane es (step.Expired p k ∷ ss) ts h = tries_on tries lane es ss ts h
tries_on tries lane es (step.Failed x ∷ ss) ts h = tries_on tries lane es ss ts h

tries_lanes : (tries lane : ℕ) (es : List Event) (ls : List (List LaneStep)) (ts : List Spot) → HaveTries tries es ts → HaveTries tries (es ++ lane_events fetched_on lane ls) ts
tries_lanes tries lane es [] ts h = subst (λ (l : List Event). HaveTries tries l ts) (sym (append-nil es)) h
tries_lanes tries lane es (ss ∷ ls) ts h =
    subst (λ (l : List Event). HaveTries tries l ts) (append_assoc es (fetched_on lane ss) (lane_events fetched_on (lane + 1) ls)) (tries_lanes tries (lane + 1) (es ++ fetched_on lane ss) ls ts (tries_on tries lane es ss ts h))

-- a premise of a round, by its fetches alone
pub round_may_expire : (tries : ℕ) (es : List Event) (fs : List Ask) (bs ns : List ClientTold) (ls : List (List LaneStep)) → DrewApart fs bs ns ls → All (HasTry tries es) fs → ((p k : ℕ) → count_by (is_pair p k) (map asks_for fs) ≤ 1)
    → EachMayExpire tries 0 (es ++ lane_events fetched_on 0 ls) (map places_of ls)
round_may_expire tries es fs bs ns ls d h once =
    lanes_may_expire tries 0 (es ++ lane_events fetched_on 0 ls) (map places_of ls)
    (tries_lanes tries 0 es ls (lane_spots 0 (map places_of ls)) (lanes_tries tries 0 es fs bs ns d.drawn ls d.each h))
    (λ p k.
    let most = numbers_weigh (counts p k) fs (concat d.drawn) (λ y. let a = d.apart y in let o = once_most y d.count in omega (arith, a, o)) (λ y l. let w = d.within in d.apart y ∙ once_past y d.count (omega (arith, w, l))) in
    let c = lanes_count p k 0 fs bs ns d.drawn ls d.each in
    let q = counts_pairs p k fs in
    let o = once p k in
    omega (arith, most, c, q, o))
