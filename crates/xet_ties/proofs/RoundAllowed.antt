-- What the lanes of a round did may be recorded: each fetch was of a missing block, and no two of one.
use Rattle.std.proofs.Common.{◌≡◌, ℕ, ◌+◌, ◌≤◌, Bool, cond, List, [], ◌∷◌, ◌++◌, map, refl, sym, subst, ◌∙◌, ap, arith, append_assoc}
use Rattle.std.specs.Prelude.{All, count_by}
use Rattle.std.specs.List.{concat}
use Rattle.std.proofs.lemmas.List.{append-nil, map-append}
use Rattle.std.proofs.lemmas.List.Elements.{All-head, All-tail}
use Rattle.xet_outside.proofs.CallerLemmas.{count_by-cons}
use Rattle.xet_outside.specs.declared.said.Said.{Said}
use Rattle.xet_outside.specs.declared.served.Served.{Served}
use Rattle.xet_outside.specs.Told.{ClientTold}
use Rattle.xet_events.specs.declared.event.Event.{Event}
use Rattle.xet_events.specs.declared.event.Event.TheVariants.{Fetched, Expired}
use Rattle.xet_events.specs.Allowed.{AllowedAfter, IsMissing, IsRunning}
use Rattle.xet_ties.specs.Lanes.{AreOf, Ask, DrewApart, EachDrew, entries_of}
use Rattle.xet_ties.specs.Ties.{is_pair}
use Rattle.xet_ties.specs.declared.lane_step.LaneStep.{LaneStep}
use Rattle.xet_ties.specs.declared.lane_step.LaneStep.TheVariants as step
use Rattle.xet_ties.specs.Recordings.{AreMissing, Spot, asks_for, at_spot, expired_at, expired_on, fetched_at, fetched_on, lane_events, lane_spots, places_of, spots}
use Rattle.xet_ties.specs.Rounds.{IsMissingAsk, got_of}
use Rattle.xet_ties.proofs.LaneJoins.{at_append, made_of, made_weighs, numbers_weigh, once_most, once_past, weigh, weigh_at}
use Rattle.xet_ties.proofs.Missing.{IsStill, expired_allowed, fetched_allowed, missing_after, running-push}
use Rattle.xet_ties.proofs.RoundTries.{counts, counts_pairs, pair_is}
use Rattle.xet_ties.proofs.Telling.{count-append}

-- ---- the events of a round, as those of spots

fetched_lane : (lane : ℕ) (ss : List LaneStep) → fetched_on lane ss ≡ fetched_at (spots lane (got_of ss))
fetched_lane lane [] = refl
fetched_lane lane (step.Served p k d ∷ ss) = ap (λ (l : List Event). Fetched lane p k ∷ l) (fetched_lane lane ss)
fetched_lane lane (step.Expired p k ∷ ss) = fetched_lane lane ss
fetched_lane lane (step.Failed e ∷ ss) = fetched_lane lane ss

expired_lane : (lane : ℕ) (ss : List LaneStep) → expired_on lane ss ≡ expired_at (spots lane (places_of ss))
expired_lane lane [] = refl
expired_lane lane (step.Served p k d ∷ ss) = expired_lane lane ss
expired_lane lane (step.Expired p k ∷ ss) = ap (λ (l : List Event). Expired lane p k ∷ l) (expired_lane lane ss)
expired_lane lane (step.Failed e ∷ ss) = expired_lane lane ss

pub fetched_spots : (lane : ℕ) (ls : List (List LaneStep)) → lane_events fetched_on lane ls ≡ fetched_at (lane_spots lane (map got_of ls))
fetched_spots lane [] = refl
fetched_spots lane (ss ∷ ls) =
    ap (λ (l : List Event). l ++ lane_events fetched_on (lane + 1) ls) (fetched_lane lane ss) ∙ ap (λ (l : List Event). fetched_at (spots lane (got_of ss)) ++ l) (fetched_spots (lane + 1) ls)
    ∙ sym (map-append (λ (t : Spot). Fetched t.0 t.1 t.2) (spots lane (got_of ss)) (lane_spots (lane + 1) (map got_of ls)))

pub expired_spots : (lane : ℕ) (ls : List (List LaneStep)) → lane_events expired_on lane ls ≡ expired_at (lane_spots lane (map places_of ls))
expired_spots lane [] = refl
expired_spots lane (ss ∷ ls) =
    ap (λ (l : List Event). l ++ lane_events expired_on (lane + 1) ls) (expired_lane lane ss) ∙ ap (λ (l : List Event). expired_at (spots lane (places_of ss)) ++ l) (expired_spots (lane + 1) ls)
    ∙ sym (map-append (λ (t : Spot). Expired t.0 t.1 t.2) (spots lane (places_of ss)) (lane_spots (lane + 1) (map places_of ls)))

-- ---- no two spots are of one block

lane_both : (p k lane : ℕ) (b n : ClientTold) (served : List Served) (all : List Said) (qs : List Ask) (ss : List LaneStep) → AreOf b n served all qs ss
    → count_by (at_spot p k) (spots lane (got_of ss)) + count_by (at_spot p k) (spots lane (places_of ss)) ≤ weigh (counts p k) (map asks_for qs)
lane_both p k lane b n served all qs [] are = omega arith
lane_both p k lane b n served all [] (s ∷ ss) are = absurd are
lane_both p k lane b n served all (a ∷ qs) (step.Served q j d ∷ ss) are =
    let r = lane_both p k lane b n served all qs ss are.1 in
    let c = count_by-cons (at_spot p k) (lane, q, j) (spots lane (got_of ss)) in
    let e = ap {B = ℕ} (λ (v : Bool). cond v 1 0) (pair_is p k lane q j a are.0.0 are.0.1) in
    omega (arith, r, c, e)
lane_both p k lane b n served all (a ∷ qs) (step.Expired q j ∷ ss) are =
    let r = lane_both p k lane b n served all qs ss are.1 in
    let c = count_by-cons (at_spot p k) (lane, q, j) (spots lane (places_of ss)) in
    let e = ap {B = ℕ} (λ (v : Bool). cond v 1 0) (pair_is p k lane q j a are.0.0 are.0.1) in
    omega (arith, r, c, e)
lane_both p k lane b n served all (a ∷ qs) (step.Failed x ∷ ss) are = let r = lane_both p k lane b n served all qs ss are.1 in omega (arith, r)

lanes_both : (p k lane : ℕ) (fs : List Ask) (bs ns : List ClientTold) (drawn : List (List ℕ)) (ls : List (List LaneStep)) → EachDrew fs bs ns drawn ls
    → count_by (at_spot p k) (lane_spots lane (map got_of ls)) + count_by (at_spot p k) (lane_spots lane (map places_of ls)) ≤ weigh_at (counts p k) fs (concat drawn)
lanes_both p k lane fs bs ns [] [] e = omega arith
lanes_both p k lane fs bs ns [] (ss ∷ ls) e = absurd e
lanes_both p k lane fs bs ns (d ∷ ds) [] e = absurd e
lanes_both p k lane fs [] ns (d ∷ ds) (ss ∷ ls) e = absurd e
lanes_both p k lane fs (b ∷ bs) [] (d ∷ ds) (ss ∷ ls) e = absurd e
lanes_both p k lane fs (b ∷ bs) (n ∷ ns) (d ∷ ds) (ss ∷ ls) e =
    let did = e.0.did in
    let one = lane_both p k lane b n (entries_of e.0.made ss ++ did.hidden) did.said e.0.made ss did.are in
    let m = made_weighs (counts p k) fs d e.0.made e.0.at in
    let r = lanes_both p k (lane + 1) fs bs ns ds ls e.1 in
    let c = count-append (at_spot p k) (spots lane (got_of ss)) (lane_spots (lane + 1) (map got_of ls)) in
    let x = count-append (at_spot p k) (spots lane (places_of ss)) (lane_spots (lane + 1) (map places_of ls)) in
    let s = at_append (counts p k) fs d (concat ds) in
    omega (arith, one, m, r, c, x, s)

spots_apart : (fs : List Ask) (bs ns : List ClientTold) (ls : List (List LaneStep)) → DrewApart fs bs ns ls → ((p k : ℕ) → count_by (is_pair p k) (map asks_for fs) ≤ 1) → (p k : ℕ)
    → count_by (at_spot p k) (lane_spots 0 (map got_of ls)) + count_by (at_spot p k) (lane_spots 0 (map places_of ls)) ≤ 1
spots_apart fs bs ns ls d once p k =
    let most = numbers_weigh (counts p k) fs (concat d.drawn) (λ y. let a = d.apart y in let o = once_most y d.count in omega (arith, a, o)) (λ y l. let w = d.within in d.apart y ∙ once_past y d.count (omega (arith, w, l))) in
    let c = lanes_both p k 0 fs bs ns d.drawn ls d.each in
    let q = counts_pairs p k fs in
    let o = once p k in
    omega (arith, most, c, q, o)

-- ---- each is missing

place_missing : (es : List Event) (p k : ℕ) (a : Ask) → p ≡ a.request.acquisition.plan → k ≡ a.request.index → IsMissingAsk es a → IsMissing es p k
place_missing es p k a e f m = subst (λ (i : ℕ). IsMissing es i k) (sym e) (subst (λ (i : ℕ). IsMissing es a.request.acquisition.plan i) (sym f) m)

lane_missing : (es : List Event) (lane : ℕ) (b n : ClientTold) (served : List Served) (all : List Said) (qs : List Ask) (ss : List LaneStep) → AreOf b n served all qs ss → All (IsMissingAsk es) qs
    → AreMissing es (spots lane (got_of ss)) × AreMissing es (spots lane (places_of ss))
lane_missing es lane b n served all qs [] are h = (tt, tt)
lane_missing es lane b n served all [] (s ∷ ss) are h = absurd are
lane_missing es lane b n served all (a ∷ qs) (step.Served p k d ∷ ss) are h =
    let r = lane_missing es lane b n served all qs ss are.1 (All-tail (IsMissingAsk es) a qs h) in
    ((place_missing es p k a are.0.0 are.0.1 (All-head (IsMissingAsk es) a qs h), r.0), r.1)
lane_missing es lane b n served all (a ∷ qs) (step.Expired p k ∷ ss) are h =
    let r = lane_missing es lane b n served all qs ss are.1 (All-tail (IsMissingAsk es) a qs h) in
    (r.0, (place_missing es p k a are.0.0 are.0.1 (All-head (IsMissingAsk es) a qs h), r.1))
lane_missing es lane b n served all (a ∷ qs) (step.Failed x ∷ ss) are h = lane_missing es lane b n served all qs ss are.1 (All-tail (IsMissingAsk es) a qs h)

missing_both : (es : List Event) (xs ys : List Spot) → AreMissing es xs → AreMissing es ys → AreMissing es (xs ++ ys)
missing_both es [] ys a b = b
missing_both es (x ∷ xs) ys a b = (a.0, missing_both es xs ys a.1 b)

lanes_missing : (es : List Event) (lane : ℕ) (fs : List Ask) (bs ns : List ClientTold) (drawn : List (List ℕ)) (ls : List (List LaneStep)) → EachDrew fs bs ns drawn ls → All (IsMissingAsk es) fs
    → AreMissing es (lane_spots lane (map got_of ls)) × AreMissing es (lane_spots lane (map places_of ls))
lanes_missing es lane fs bs ns [] [] e h = (tt, tt)
lanes_missing es lane fs bs ns [] (ss ∷ ls) e h = absurd e
lanes_missing es lane fs bs ns (d ∷ ds) [] e h = absurd e
lanes_missing es lane fs [] ns (d ∷ ds) (ss ∷ ls) e h = absurd e
lanes_missing es lane fs (b ∷ bs) [] (d ∷ ds) (ss ∷ ls) e h = absurd e
lanes_missing es lane fs (b ∷ bs) (n ∷ ns) (d ∷ ds) (ss ∷ ls) e h =
    let did = e.0.did in
    let one = lane_missing es lane b n (entries_of e.0.made ss ++ did.hidden) did.said e.0.made ss did.are (made_of (IsMissingAsk es) fs d e.0.made h e.0.at) in
    let rest = lanes_missing es (lane + 1) fs bs ns ds ls e.1 h in (
      missing_both es (spots lane (got_of ss)) (lane_spots (lane + 1) (map got_of ls)) one.0 rest.0,
      missing_both es (spots lane (places_of ss)) (lane_spots (lane + 1) (map places_of ls)) one.1 rest.1,
    )

running_at : (es : List Event) (ts : List Spot) → IsRunning es → IsRunning (es ++ fetched_at ts)
running_at es [] r = subst (λ (l : List Event). IsRunning l) (sym (append-nil es)) r
running_at es (t ∷ ts) r =
    let e : Event = Fetched t.0 t.1 t.2 in
    let still : IsStill e = record { terms = refl; admits = refl; takes = refl; error = refl } in
    subst (λ (l : List Event). IsRunning l) (append_assoc es (e ∷ []) (fetched_at ts)) (running_at (es ++ e ∷ []) ts (running-push es e still r))

-- the served answers of a round of such fetches may be recorded, and after these the expired ones
pub round_allowed : (es : List Event) (fs : List Ask) (bs ns : List ClientTold) (ls : List (List LaneStep)) → DrewApart fs bs ns ls → IsRunning es → All (IsMissingAsk es) fs
    → ((p k : ℕ) → count_by (is_pair p k) (map asks_for fs) ≤ 1)
    → AllowedAfter es (lane_events fetched_on 0 ls) × AllowedAfter (es ++ lane_events fetched_on 0 ls) (lane_events expired_on 0 ls)
round_allowed es fs bs ns ls d runs missing once =
    let got = lane_spots 0 (map got_of ls) in
    let late = lane_spots 0 (map places_of ls) in
    let apart = spots_apart fs bs ns ls d once in
    let m = lanes_missing es 0 fs bs ns d.drawn ls d.each missing in
    let first : AllowedAfter es (fetched_at got) = fetched_allowed es got runs m.0 (λ p k. let a = apart p k in omega (arith, a)) in
    let then : AllowedAfter (es ++ fetched_at got) (expired_at late) = expired_allowed (es ++ fetched_at got) late (running_at es got runs) (missing_after es got late m.1 apart) in (
      subst (λ (l : List Event). AllowedAfter es l) (sym (fetched_spots 0 ls)) first,
      subst (λ (l : List Event). AllowedAfter (es ++ l) (lane_events expired_on 0 ls)) (sym (fetched_spots 0 ls)) (subst (λ (l : List Event). AllowedAfter (es ++ fetched_at got) l) (sym (expired_spots 0 ls)) then),
    )
