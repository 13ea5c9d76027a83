-- A round without fetches has no event of one.
use Rattle.std.proofs.Common.{◌≡◌, ℕ, ◌+◌, ◌<◌, ◌≤◌, List, [], ◌∷◌, ◌++◌, length, take, refl, subst, ◌∙◌, ap, arith, inr, Some}
use Rattle.std.specs.Prelude.{slice_get}
use Rattle.std.proofs.lemmas.List.{length-take}
use Rattle.xet_outside.specs.Told.{ClientTold}
use Rattle.xet_outside.specs.declared.said.Said.{Said}
use Rattle.xet_outside.specs.declared.served.Served.{Served}
use Rattle.xet_events.specs.declared.event.Event.{Event}
use Rattle.xet_ties.specs.Lanes.{AreAt, AreOf, Ask, EachDrew, entries_of}
use Rattle.xet_ties.specs.declared.lane_step.LaneStep.{LaneStep}
use Rattle.xet_ties.specs.Recordings.{lane_events}
use Rattle.xet_ties.proofs.RoundCounts.{MayFetch}

none_made : (ks : List ℕ) (qs : List Ask) → AreAt [] ks qs → qs ≡ []
none_made [] [] a = refl
none_made [] (q ∷ qs) a = absurd a
none_made (k ∷ ks) [] a = refl
none_made (k ∷ ks) (q ∷ qs) a = absurd (let z : slice_get [] k ≡ Some q = a.0 in cc)

none_did : (b n : ClientTold) (served : List Served) (all : List Said) (ss : List LaneStep) → AreOf b n served all [] ss
    → ss ≡ []
none_did b n served all [] a = refl
none_did b n served all (s ∷ ss) a = absurd a

no_events : (on : ℕ → List LaneStep → List Event) → ((m : ℕ) → on m [] ≡ []) → (m : ℕ) (bs ns : List ClientTold)
    (ds : List (List ℕ)) (ls : List (List LaneStep)) → EachDrew [] bs ns ds ls → lane_events on m ls ≡ []
no_events on none m bs ns [] [] e = refl
no_events on none m bs ns [] (ss ∷ ls) e = absurd e
no_events on none m bs ns (d ∷ ds) [] e = absurd e
no_events on none m [] ns (d ∷ ds) (ss ∷ ls) e = absurd e
no_events on none m (b ∷ bs) [] (d ∷ ds) (ss ∷ ls) e = absurd e
no_events on none m (b ∷ bs) (n ∷ ns) (d ∷ ds) (ss ∷ ls) e =
    let did = e.0.did in
    let made = none_made d e.0.made e.0.at in
    let empty : ss ≡ [] = none_did b n (entries_of e.0.made ss ++ did.hidden) did.said ss
    (subst (λ (qs : List Ask). AreOf b n (entries_of e.0.made ss ++ did.hidden) did.said qs ss) made did.are) in
    ap (λ (s : List LaneStep). on m s ++ lane_events on (m + 1) ls) empty
    ∙ ap (λ (l : List Event). l ++ lane_events on (m + 1) ls) (none m)
    ∙ no_events on none (m + 1) bs ns ds ls e.1

-- so where there is one, the signal was asked for the round
pub asked_may : (on : ℕ → List LaneStep → List Event) → ((m : ℕ) → on m [] ≡ []) → (es : List Event) (spare : ℕ)
    (fs : List Ask) (bs ns : List ClientTold) (ds : List (List ℕ)) (ls : List (List LaneStep))
    → EachDrew fs bs ns ds ls → (0 < length fs → 1 ≤ spare) → 0 < length (lane_events on 0 ls) → MayFetch es spare
asked_may on none es spare [] bs ns ds ls e asked some =
    let n = ap (λ (l : List Event). length l) (no_events on none 0 bs ns ds ls e) in absurd (omega (arith, n, some))
asked_may on none es spare (a ∷ fs) bs ns ds ls e asked some = inr (asked (omega arith))

-- some of the first ones, so some
pub some_taken : (k : ℕ) (xs ys : List Event) → take k xs ≡ ys → 0 < length ys → 0 < length xs
some_taken k xs ys e h = let n = ap (λ (l : List Event). length l) e in let t = length-take k xs in omega (arith, n, t, h)

pub some_same : (xs ys : List Event) → xs ≡ ys → 0 < length xs → 0 < length ys
some_same xs ys e h = let n = ap (λ (l : List Event). length l) e in omega (arith, n, h)
