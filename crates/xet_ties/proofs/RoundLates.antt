-- No block of a round is answered as expired more often than it may be asked for.
use Rattle.std.proofs.Common.{◌≡◌, ℕ, ◌+◌, ◌<◌, ◌≤◌, Bool, true, false, cond, List, [], ◌∷◌, ◌++◌, map, refl, sym, subst, ap, arith, append_assoc}
use Rattle.std.specs.Prelude.{count_by}
use Rattle.std.proofs.lemmas.List.{append-nil}
use Rattle.xet_outside.specs.Told.{ClientTold}
use Rattle.xet_outside.proofs.CallerLemmas.{count_by-cons}
use Rattle.xet_events.specs.declared.event.Event.{Event}
use Rattle.xet_events.specs.declared.event.Event.TheVariants.{Expired}
use Rattle.xet_events.specs.Events.{expires}
use Rattle.xet_events.proofs.CallerLemmas.{count_by-push, same_numbers}
use Rattle.xet_ties.specs.InCall.{Place}
use Rattle.xet_ties.specs.Lanes.{Ask, DrewApart}
use Rattle.xet_ties.specs.Ties.{all_late, at_place}
use Rattle.xet_ties.specs.declared.lane_step.LaneStep.{LaneStep}
use Rattle.xet_ties.specs.Moves.{no_late}
use Rattle.xet_ties.specs.Recordings.{EachMayExpire, Key, MayExpire, expired_all, fetched_all, fetched_on, lane_events, lanes_expired, lanes_fetched, lanes_late, places_of}
use Rattle.xet_ties.proofs.LaneJoins.{are_joined}
use Rattle.xet_ties.proofs.Starts.{none_late_count}
use Rattle.xet_ties.proofs.Telling.{count-append}

-- after more expired answers of a lane
lane_most : (tries lane p k : ℕ) (es : List Event) (cs : List Place) → MayExpire tries lane es cs → count_by (expires p k) es ≤ tries → count_by (expires p k) (es ++ expired_all lane cs) ≤ tries
lane_most tries lane p k es [] m h = subst (λ (l : List Event). count_by (expires p k) l ≤ tries) (sym (append-nil es)) h
lane_most tries lane p k es (c ∷ cs) m h =
    subst (λ (l : List Event). count_by (expires p k) l ≤ tries) (append_assoc es (e ∷ []) (expired_all lane cs))
    (lane_most tries lane p k (es ++ e ∷ []) cs m.2 (one (expires p k e) refl))
  where
    e : Event
    e = Expired lane c.0 c.1

    one : (v : Bool) → expires p k e ≡ v → count_by (expires p k) (es ++ e ∷ []) ≤ tries
    one true is =
        let s = same_numbers c.0 c.1 p k is in
        let l : count_by (expires p k) es < tries = subst (λ (v : ℕ). count_by (expires v k) es < tries) s.0 (subst (λ (v : ℕ). count_by (expires c.0 v) es < tries) s.1 m.1) in
        let n = count_by-push (expires p k) es e in
        let w = ap (λ (v : Bool). cond {A = ℕ} v 1 0) is in
        omega (arith, l, n, w)
    one false is =
        let n = count_by-push (expires p k) es e in
        let w = ap (λ (v : Bool). cond {A = ℕ} v 1 0) is in
        omega (arith, h, n, w)

-- and of all lanes
lanes_most : (tries lane p k : ℕ) (es : List Event) (css : List (List Place)) → EachMayExpire tries lane es css → count_by (expires p k) es ≤ tries → count_by (expires p k) (es ++ lanes_expired lane css) ≤ tries
lanes_most tries lane p k es [] m h = subst (λ (l : List Event). count_by (expires p k) l ≤ tries) (sym (append-nil es)) h
lanes_most tries lane p k es (cs ∷ css) m h =
    let first = expired_all lane cs in
    subst (λ (l : List Event). count_by (expires p k) l ≤ tries) (append_assoc es first (lanes_expired (lane + 1) css))
    (lanes_most tries (lane + 1) p k (es ++ first) css m.1 (lane_most tries lane p k es cs m.0 h))

expired_count : (p k lane : ℕ) (cs : List Place) → count_by (expires p k) (expired_all lane cs) ≡ count_by (at_place p k) cs
expired_count p k lane [] = refl
expired_count p k lane (c ∷ cs) =
    let r = expired_count p k lane cs in
    let a = count_by-cons (expires p k) (Expired lane c.0 c.1) (expired_all lane cs) in
    let b = count_by-cons (at_place p k) c cs in
    omega (arith, r, a, b)

lanes_count : (p k lane : ℕ) (css : List (List Place)) → count_by (expires p k) (lanes_expired lane css) ≡ count_by (at_place p k) (all_late css)
lanes_count p k lane [] = refl
lanes_count p k lane (cs ∷ css) =
    let r = lanes_count p k (lane + 1) css in
    let c = expired_count p k lane cs in
    let a = count-append (expires p k) (expired_all lane cs) (lanes_expired (lane + 1) css) in
    let b = count-append (at_place p k) cs (all_late css) in
    omega (arith, r, c, a, b)

fetched_count : (p k lane : ℕ) (cs : List Key) → count_by (expires p k) (fetched_all lane cs) ≡ 0
fetched_count p k lane [] = refl
fetched_count p k lane (c ∷ cs) = fetched_count p k lane cs

lanes_none : (p k lane : ℕ) (css : List (List Key)) → count_by (expires p k) (lanes_fetched lane css) ≡ 0
lanes_none p k lane [] = refl
lanes_none p k lane (cs ∷ css) =
    let r = lanes_none p k (lane + 1) css in
    let c = fetched_count p k lane cs in
    let a = count-append (expires p k) (fetched_all lane cs) (lanes_fetched (lane + 1) css) in
    omega (arith, r, c, a)

-- connections past the lanes have none
late_added : (p k : ℕ) (css : List (List Place)) (bs : List ClientTold) → count_by (at_place p k) (all_late (lanes_late css (no_late bs))) ≡ count_by (at_place p k) (all_late css)
late_added p k [] bs = none_late_count p k bs
late_added p k (cs ∷ css) [] =
    let r = late_added p k css [] in
    let a = count-append (at_place p k) cs (all_late (lanes_late css [])) in
    let b = count-append (at_place p k) cs (all_late css) in
    omega (arith, r, a, b)
late_added p k (cs ∷ css) (b ∷ bs) =
    let r = late_added p k css bs in
    let a = count-append (at_place p k) (cs ++ []) (all_late (lanes_late css (no_late bs))) in
    let c = count-append (at_place p k) cs (all_late css) in
    let n = ap (λ (l : List Place). count_by (at_place p k) l) (append-nil cs) in
    omega (arith, r, a, c, n)

-- where the expired answers may be recorded, none is one too many
pub round_tries : (tries : ℕ) (es : List Event) (fs : List Ask) (bs ns : List ClientTold) (ls : List (List LaneStep)) → DrewApart fs bs ns ls
    → EachMayExpire tries 0 (es ++ lane_events fetched_on 0 ls) (map places_of ls) → ((p k : ℕ) → count_by (expires p k) es ≤ tries) → (p k : ℕ)
    → count_by (expires p k) es + count_by (at_place p k) (all_late (lanes_late (map places_of ls) (no_late bs))) ≤ tries
round_tries tries es fs bs ns ls d may before p k =
    let j = are_joined fs bs ns d.drawn ls d.each in
    let got = lane_events fetched_on 0 ls in
    let places = map places_of ls in
    let none = ap (λ (l : List Event). count_by (expires p k) l) (sym (j.fetched 0)) in
    let zero = lanes_none p k 0 j.keys in
    let a = count-append (expires p k) es got in
    let b = before p k in
    let most = lanes_most tries 0 p k (es ++ got) places may (omega (arith, none, zero, a, b)) in
    let c = count-append (expires p k) (es ++ got) (lanes_expired 0 places) in
    let n = lanes_count p k 0 places in
    let l = late_added p k places bs in
    omega (arith, none, zero, a, most, c, n, l)
