-- What the lanes of a round did to the connections, as a step of the ties, and that no pair is served twice.
use Rattle.std.proofs.Common.{ℕ, ◌≡◌, ◌+◌, ◌-◌, ◌<◌, ◌≤◌, true, false, Bool, zero, suc, List, [], ◌∷◌, ◌++◌, length, map, refl, sym, ap, ◌∙◌, subst, inl, inr, arith, length-append, Option, Some, None}
use Rattle.std.specs.Prelude.{cond, nat_eq, nat_lt, slice_get, count_by, All, IfSome}
use Rattle.std.specs.List.{concat, flat_map}
use Rattle.std.proofs.lemmas.Bool.Decides.{nat_tests}
use Rattle.xet_outside.proofs.CallerLemmas.{count_by-cons, added_none}
use Rattle.xet_outside.specs.declared.said.Said.{Said}
use Rattle.xet_outside.specs.Told.{ClientTold, served_of}
use Rattle.xet_outside.specs.declared.served.Served.{Served}
use Rattle.xet_events.specs.declared.event.Event.{Event}
use Rattle.xet_events.specs.declared.event.Event.TheVariants.{Fetched, Expired}
use Rattle.xet_ties.specs.declared.lane_step.LaneStep.{LaneStep}
use Rattle.xet_ties.specs.Lanes.{AreAt, AreOf, Ask, DrewApart, EachDrew, HidesNone, IsFor, IsHidden, LaneDid, entries_in, entries_of, expired_count, hides_at, lates_in, lates_of, may_hide}
use Rattle.xet_ties.specs.Recordings.{asks_for, keys_of, places, places_of, Key, Place, entries_all, expired_on, expired_all, fetched_all, fetched_on, lanes_entries, lanes_expired, lanes_fetched, lanes_late, AreFresh, EachFresh, IsFreshAsk, blocks_all, key_of, lane_events}
use Rattle.xet_claims.specs.ClaimViews.{once_below, times}
use Rattle.xet_ties.specs.Moves.{EachJoined, JoinStep, heard_join, no_hidden, no_late}
use Rattle.xet_ties.specs.Rounds.{AreLaneEnds, EachHides, IsHeardStep, IsLaneEnd, got_of}
use Rattle.xet_ties.specs.InCall.{Exchange, place_of}
use Rattle.xet_ties.proofs.Requests.{all_lates}
use Rattle.xet_ties.proofs.Telling.{count-append}
use Rattle.xet_ties.proofs.LowestLanes.{lane_failed}
use Rattle.xet_ties.proofs.RoundData.{ArePaired, lanes_more}
use Rattle.xet_ties.specs.Ties.{all_of, is_pair, is_served}
use Rattle.xet_ties.specs.declared.lane_step.LaneStep.TheVariants as step
use Rattle.std.proofs.lemmas.List.Elements.{All-append, All-cons, All-head, All-nil, All-tail}
use Rattle.std.proofs.lemmas.List.{append-nil}
use Rattle.xet_outside.specs.Answers.{IsPaired, late_in}
use Rattle.xet_base.specs.declared.cas_types.ChunkRange.{ChunkRange}
use Rattle.xet_base.specs.declared.merklehash.MerkleHash.{MerkleHash}
use Rattle.xet_ties.specs.Ties.{is_one as is_block}

abbrev pub weigh : (Served → ℕ) → List Served → ℕ
weigh h [] = 0
weigh h (e ∷ es) = h e + weigh h es

-- ---- one lane

weigh_append : (h : Served → ℕ) (xs ys : List Served) → weigh h (xs ++ ys) ≡ weigh h xs + weigh h ys
weigh_append h [] ys = omega arith
weigh_append h (x ∷ xs) ys = let e = weigh_append h xs ys in omega arith

hidden_weighs : (h : Served → ℕ) (a : Ask) (hidden : List Served) → hidden ≡ served_of a.request ∷ [] → weigh h hidden ≡ h (asks_for a)
hidden_weighs h a hidden e = let f : weigh h hidden ≡ h (asks_for a) + 0 = ap (weigh h) e in omega arith

in_weighs : (h : Served → ℕ) (a : Ask) (s : LaneStep) → weigh h (entries_in a s) ≤ h (asks_for a)
in_weighs h a (step.Served p k d) = omega arith
in_weighs h a (step.Expired p k) = omega arith
in_weighs h a (step.Failed e) = omega arith

hides_nothing : (h : Served → ℕ) (a : Ask) (s : LaneStep) → may_hide s ≡ true → weigh h (entries_in a s) ≡ 0
hides_nothing h a (step.Served p k d) e = cc
hides_nothing h a (step.Expired p k) e = refl
hides_nothing h a (step.Failed x) e = refl

last_weighs : (h : Served → ℕ) (a : Ask) (qs : List Ask) (s : LaneStep) (hidden : List Served) → IsHidden (a ∷ qs) (s ∷ []) hidden → weigh h (entries_in a s) + weigh h hidden ≤ h (asks_for a)
last_weighs h a qs s hidden (inl e) = let f : weigh h hidden ≡ 0 = ap (weigh h) e in let g = in_weighs h a s in omega arith
last_weighs h a qs s hidden (inr t) =
    let same : ◌≡◌ {A = Option Ask} (Some a) (Some t.ask) = t.last in
    let entry : h (asks_for a) ≡ h (asks_for t.ask) = ap (weigh_some h) same in
    let f = hidden_weighs h t.ask hidden t.is in
    let g = hides_nothing h a s t.may in
    omega arith
  where
    weigh_some : (Served → ℕ) → Option Ask → ℕ
    weigh_some h None = 0
    weigh_some h (Some a) = h (asks_for a)

hidden_after : (a : Ask) (qs : List Ask) (s t : LaneStep) (ss : List LaneStep) (hidden : List Served) → IsHidden (a ∷ qs) (s ∷ t ∷ ss) hidden → IsHidden qs (t ∷ ss) hidden
hidden_after a qs s t ss hidden (inl e) = inl e
hidden_after a qs s t ss hidden (inr x) =
    let e : length (s ∷ t ∷ ss) - 1 ≡ suc (length (t ∷ ss) - 1) = omega arith in
    inr (record { ask = x.ask; some = omega arith; last = sym (ap (slice_get (a ∷ qs)) e) ∙ x.last; may = sym (ap (λ k. hides_at (slice_get (s ∷ t ∷ ss) k)) e) ∙ x.may; is = x.is })

in_both : (h : Served → ℕ) (a : Ask) (s : LaneStep) → weigh h (entries_in a s) + weigh h (lates_in a s) ≤ h (asks_for a)
in_both h a (step.Served p k d) = omega arith
in_both h a (step.Expired p k) = omega arith
in_both h a (step.Failed e) = omega arith

-- a step that may hide an entry is no expired one
hides_late : (h : Served → ℕ) (a : Ask) (s : LaneStep) → may_hide s ≡ true → weigh h (lates_in a s) ≡ 0
hides_late h a (step.Served p k d) e = cc
hides_late h a (step.Expired p k) e = cc
hides_late h a (step.Failed x) e = refl

-- what a lane served, hid and was answered as expired is of its fetches, each once
lane_all : (h : Served → ℕ) (b n : ClientTold) (served : List Served) (all : List Said) (qs : List Ask) (ss : List LaneStep) (hidden : List Served) → AreOf b n served all qs ss → IsHidden qs ss hidden
    → (weigh h (entries_of qs ss) + weigh h hidden) + weigh h (lates_of qs ss) ≤ weigh h (map asks_for qs)
lane_all h b n served all qs [] hidden are (inl e) = let f : weigh h hidden ≡ 0 = ap (weigh h) e in omega arith
lane_all h b n served all qs [] hidden are (inr t) = let some = t.some in absurd (omega arith)
lane_all h b n served all [] (s ∷ ss) hidden are i = absurd are
lane_all h b n served all (a ∷ qs) (s ∷ []) hidden are (inl e) =
    let f : weigh h hidden ≡ 0 = ap (weigh h) e in
    let w = weigh_append h (entries_in a s) [] in
    let v = weigh_append h (lates_in a s) [] in
    let g = in_both h a s in
    omega (arith, f, w, v, g)
lane_all h b n served all (a ∷ qs) (s ∷ []) hidden are (inr t) =
    let f = last_weighs h a qs s hidden (inr t) in
    let w = weigh_append h (entries_in a s) [] in
    let v = weigh_append h (lates_in a s) [] in
    let g = hides_late h a s t.may in
    omega (arith, f, w, v, g)
lane_all h b n served all (a ∷ qs) (s ∷ t ∷ ss) hidden are i =
    let r = lane_all h b n served all qs (t ∷ ss) hidden are.1 (hidden_after a qs s t ss hidden i) in
    let w = weigh_append h (entries_in a s) (entries_of qs (t ∷ ss)) in
    let v = weigh_append h (lates_in a s) (lates_of qs (t ∷ ss)) in
    let f = in_both h a s in
    omega (arith, r, w, v, f)

-- ---- the numbers of a lane

abbrev pub weigh_some : (Served → ℕ) → Option Ask → ℕ
weigh_some h None = 0
weigh_some h (Some a) = h (asks_for a)

abbrev pub weigh_at : (Served → ℕ) → List Ask → List ℕ → ℕ
weigh_at h fs [] = 0
weigh_at h fs (k ∷ ks) = weigh_some h (slice_get fs k) + weigh_at h fs ks

pub at_append : (h : Served → ℕ) (fs : List Ask) (ks js : List ℕ) → weigh_at h fs (ks ++ js) ≡ weigh_at h fs ks + weigh_at h fs js
at_append h fs [] js = omega arith
at_append h fs (k ∷ ks) js = let e = at_append h fs ks js in omega arith

pub made_weighs : (h : Served → ℕ) (fs : List Ask) (ks : List ℕ) (made : List Ask) → AreAt fs ks made → weigh h (map asks_for made) ≡ weigh_at h fs ks
made_weighs h fs [] [] p = refl
made_weighs h fs [] (a ∷ made) p = absurd p
made_weighs h fs (k ∷ ks) [] p = absurd p
made_weighs h fs (k ∷ ks) (a ∷ made) p =
    let e : weigh_some h (slice_get fs k) ≡ h (asks_for a) = ap (weigh_some h) p.0 in
    let r = made_weighs h fs ks made p.1 in
    omega arith

-- ---- numbers that stand once

abbrev lower : List ℕ → List ℕ
lower [] = []
lower (zero ∷ ks) = lower ks
lower (suc k ∷ ks) = k ∷ lower ks

abbrev zeros : ℕ → List ℕ → ℕ
zeros c [] = 0
zeros c (zero ∷ ks) = c + zeros c ks
zeros c (suc k ∷ ks) = zeros c ks

parts_weigh : (h : Served → ℕ) (f : Ask) (fs : List Ask) (ks : List ℕ) → weigh_at h (f ∷ fs) ks ≡ zeros (h (asks_for f)) ks + weigh_at h fs (lower ks)
parts_weigh h f fs [] = omega arith
parts_weigh h f fs (zero ∷ ks) = let e = parts_weigh h f fs ks in omega arith
parts_weigh h f fs (suc k ∷ ks) = let e = parts_weigh h f fs ks in omega arith

is_one : (k : ℕ) → cond {A = ℕ} (nat_eq k k) 1 0 ≡ 1
is_one k = go (nat_eq k k) refl
  where
    go : (b : Bool) → nat_eq k k ≡ b → cond {A = ℕ} b 1 0 ≡ 1
    go true e = refl
    go false e = absurd (grind (arith, nat_tests))

is_none : (k x : ℕ) → k < x → cond {A = ℕ} (nat_eq k x) 1 0 ≡ 0
is_none k x l = go (nat_eq k x) refl
  where
    go : (b : Bool) → nat_eq k x ≡ b → cond {A = ℕ} b 1 0 ≡ 0
    go true e = absurd (grind (arith, nat_tests))
    go false e = refl

is_same : (k x : ℕ) → cond {A = ℕ} (nat_eq k x) 1 0 ≡ cond {A = ℕ} (nat_eq (suc k) (suc x)) 1 0
is_same k x = go (nat_eq k x) (nat_eq (suc k) (suc x)) refl refl
  where
    go : (b d : Bool) → nat_eq k x ≡ b → nat_eq (suc k) (suc x) ≡ d → cond {A = ℕ} b 1 0 ≡ cond {A = ℕ} d 1 0
    go true true e f = refl
    go true false e f = absurd (grind (arith, nat_tests))
    go false true e f = absurd (grind (arith, nat_tests))
    go false false e f = refl

times_lower : (x : ℕ) (ks : List ℕ) → times x (lower ks) ≡ times (suc x) ks
times_lower x [] = refl
times_lower x (zero ∷ ks) = let r = times_lower x ks in let z = is_none 0 (suc x) (omega arith) in omega arith
times_lower x (suc k ∷ ks) = let r = times_lower x ks in let z = is_same k x in omega arith

zeros_none : (c : ℕ) (ks : List ℕ) → times 0 ks ≡ 0 → zeros c ks ≡ 0
zeros_none c [] e = refl
zeros_none c (zero ∷ ks) e = let z = is_one 0 in absurd (omega arith)
zeros_none c (suc k ∷ ks) e = zeros_none c ks (omega arith)

zeros_one : (c : ℕ) (ks : List ℕ) → times 0 ks ≤ 1 → zeros c ks ≤ c
zeros_one c [] e = omega arith
zeros_one c (zero ∷ ks) e = let z = is_one 0 in let n = zeros_none c ks (omega arith) in omega arith
zeros_one c (suc k ∷ ks) e = zeros_one c ks (omega arith)

pub numbers_weigh : (h : Served → ℕ) (fs : List Ask) (ks : List ℕ) → ((x : ℕ) → times x ks ≤ 1) → ((x : ℕ) → length fs ≤ x → times x ks ≡ 0) → weigh_at h fs ks ≤ weigh h (map asks_for fs)
numbers_weigh h [] [] one out = omega arith
numbers_weigh h [] (k ∷ ks) one out = let z = out k (omega arith) in let o = is_one k in absurd (omega arith)
numbers_weigh h (f ∷ fs) ks one out =
    let e = parts_weigh h f fs ks in
    let z = zeros_one (h (asks_for f)) ks (one 0) in
    let r = numbers_weigh h fs (lower ks) (λ x. let t = times_lower x ks in let o = one (suc x) in omega arith) (λ x l. times_lower x ks ∙ out (suc x) (omega arith)) in
    omega arith

pub once_most : (x n : ℕ) → once_below x n ≤ 1
once_most x n = go (nat_lt x n)
  where
    go : (b : Bool) → cond {A = ℕ} b 1 0 ≤ 1
    go true = omega arith
    go false = omega arith

pub once_past : (x n : ℕ) → n ≤ x → once_below x n ≡ 0
once_past x n l = go (nat_lt x n) refl
  where
    go : (b : Bool) → nat_lt x n ≡ b → cond {A = ℕ} b 1 0 ≡ 0
    go true e = absurd (grind (arith, nat_tests))
    go false e = refl

-- ---- one lane as a step

entries_keys : (qs : List Ask) (ss : List LaneStep) → entries_of qs ss ≡ entries_all (keys_of qs ss)
entries_keys qs [] = refl
entries_keys [] (s ∷ ss) = refl
entries_keys (a ∷ qs) (step.Served p k d ∷ ss) = ap (λ l. served_of a.request ∷ l) (entries_keys qs ss)
entries_keys (a ∷ qs) (step.Expired p k ∷ ss) = entries_keys qs ss
entries_keys (a ∷ qs) (step.Failed e ∷ ss) = entries_keys qs ss

count_places : (ss : List LaneStep) → length (places_of ss) ≡ expired_count ss
count_places [] = refl
count_places (step.Served p k d ∷ ss) = let r = count_places ss in omega (arith, r)
count_places (step.Expired p k ∷ ss) = let r = count_places ss in omega (arith, r)
count_places (step.Failed e ∷ ss) = let r = count_places ss in omega (arith, r)

-- the events of its served steps are those of the blocks that it fetched
pub fetched_keys : (lane : ℕ) (b n : ClientTold) (served : List Served) (all : List Said) (qs : List Ask) (ss : List LaneStep) → AreOf b n served all qs ss → fetched_on lane ss ≡ fetched_all lane (keys_of qs ss)
fetched_keys lane b n served all qs [] are = refl
fetched_keys lane b n served all [] (s ∷ ss) are = absurd are
fetched_keys lane b n served all (a ∷ qs) (step.Served p k d ∷ ss) are =
    let r = fetched_keys lane b n served all qs ss are.1 in
    ap (λ (n : ℕ). Fetched lane n k ∷ fetched_on lane ss) are.0.0
    ∙ ap (λ (n : ℕ). Fetched lane a.request.acquisition.plan n ∷ fetched_on lane ss) are.0.1
    ∙ ap (λ (l : List Event). Fetched lane a.request.acquisition.plan a.request.index ∷ l) r
fetched_keys lane b n served all (a ∷ qs) (step.Expired p k ∷ ss) are = fetched_keys lane b n served all qs ss are.1
fetched_keys lane b n served all (a ∷ qs) (step.Failed e ∷ ss) are = fetched_keys lane b n served all qs ss are.1

-- and those of its expired ones those of their places
pub expired_places : (lane : ℕ) (ss : List LaneStep) → expired_on lane ss ≡ expired_all lane (places_of ss)
expired_places lane [] = refl
expired_places lane (step.Served p k d ∷ ss) = expired_places lane ss
expired_places lane (step.Expired p k ∷ ss) = ap (λ (l : List Event). Expired lane p k ∷ l) (expired_places lane ss)
expired_places lane (step.Failed e ∷ ss) = expired_places lane ss

-- the places of its Served steps are those of these blocks
got_keys : (b n : ClientTold) (served : List Served) (all : List Said) (qs : List Ask) (ss : List LaneStep) → AreOf b n served all qs ss → got_of ss ≡ places (keys_of qs ss)
got_keys b n served all qs [] are = refl
got_keys b n served all [] (s ∷ ss) are = absurd are
got_keys b n served all (a ∷ qs) (step.Served p k d ∷ ss) are =
    ap (λ (i : ℕ). (i, k) ∷ got_of ss) are.0.0 ∙ ap (λ (i : ℕ). (a.request.acquisition.plan, i) ∷ got_of ss) are.0.1 ∙ ap (λ (l : List Place). (a.request.acquisition.plan, a.request.index) ∷ l) (got_keys b n served all qs ss are.1)
got_keys b n served all (a ∷ qs) (step.Expired p k ∷ ss) are = got_keys b n served all qs ss are.1
got_keys b n served all (a ∷ qs) (step.Failed e ∷ ss) are = got_keys b n served all qs ss are.1

-- the places of the entries of its Expired steps are those that these steps name
late_keys : (b n : ClientTold) (served : List Served) (all : List Said) (qs : List Ask) (ss : List LaneStep) → AreOf b n served all qs ss → map place_of (lates_of qs ss) ≡ places_of ss
late_keys b n served all qs [] are = refl
late_keys b n served all [] (s ∷ ss) are = absurd are
late_keys b n served all (a ∷ qs) (step.Served p k d ∷ ss) are = late_keys b n served all qs ss are.1
late_keys b n served all (a ∷ qs) (step.Expired p k ∷ ss) are =
    ap (λ (l : List Place). (a.request.acquisition.plan, a.request.index) ∷ l) (late_keys b n served all qs ss are.1) ∙ ap (λ (i : ℕ). (i, a.request.index) ∷ places_of ss) (sym are.0.0) ∙ ap (λ (i : ℕ). (p, i) ∷ places_of ss) (sym are.0.1)
late_keys b n served all (a ∷ qs) (step.Failed e ∷ ss) are = late_keys b n served all qs ss are.1

lane_step : (b n : ClientTold) (qs : List Ask) (ss : List LaneStep) → (d : LaneDid b n qs ss) → JoinStep b n (entries_all (keys_of qs ss) ++ d.hidden) d.said (places_of ss ++ [])
lane_step b n qs ss d = record {
  goes_on = d.goes_on;
  asked = d.asked;
  quiet = d.quiet;
  pairs = subst (λ (l : List Served). IsPaired b n (l ++ d.hidden) d.said) (entries_keys qs ss) d.pairs;
  said_late = ap (λ (l : List Served). map place_of l) d.late ∙ late_keys b n (entries_of qs ss ++ d.hidden) d.said qs ss d.are ∙ sym (append-nil (places_of ss));
  expired = let e = d.expired in let c = count_places ss in let a = length-append (places_of ss) [] in omega (arith, e, c, a);
}

-- ---- its entries are of its fetches

get_all : (P : Served → Type 0) (qs : List Ask) (k : ℕ) (a : Ask) → All P (map asks_for qs) → slice_get qs k ≡ Some a → P (asks_for a)
get_all P [] k a h e = absurd (cc)
get_all P (q ∷ qs) zero a h e = let same : q ≡ a = cc in subst (λ (x : Ask). P (asks_for x)) same (All-head P (asks_for q) (map asks_for qs) h)
get_all P (q ∷ qs) (suc k) a h e = get_all P qs k a (All-tail P (asks_for q) (map asks_for qs) h) e

made_all : (P : Served → Type 0) (fs : List Ask) (ks : List ℕ) (made : List Ask) → All P (map asks_for fs) → AreAt fs ks made → All P (map asks_for made)
made_all P fs [] [] h p = All-nil P
made_all P fs [] (a ∷ made) h p = absurd p
made_all P fs (k ∷ ks) [] h p = absurd p
made_all P fs (k ∷ ks) (a ∷ made) h p = All-cons P (asks_for a) (map asks_for made) (get_all P fs k a h p.0) (made_all P fs ks made h p.1)

-- what holds of all fetches holds of those that a lane drew
get_of : (P : Ask → Type 0) (qs : List Ask) (k : ℕ) (a : Ask) → All P qs → slice_get qs k ≡ Some a → P a
get_of P [] k a h e = absurd (cc)
get_of P (q ∷ qs) zero a h e = let same : q ≡ a = cc in subst P same (All-head P q qs h)
get_of P (q ∷ qs) (suc k) a h e = get_of P qs k a (All-tail P q qs h) e

pub made_of : (P : Ask → Type 0) (fs : List Ask) (ks : List ℕ) (made : List Ask) → All P fs → AreAt fs ks made → All P made
made_of P fs [] [] h p = All-nil P
made_of P fs [] (a ∷ made) h p = absurd p
made_of P fs (k ∷ ks) [] h p = absurd p
made_of P fs (k ∷ ks) (a ∷ made) h p = All-cons P a made (get_of P fs k a h p.0) (made_of P fs ks made h p.1)

-- a fresh fetch's block is fresh
fresh_keys : (history : List Event) (b n : ClientTold) (served : List Served) (all : List Said) (qs : List Ask) (ss : List LaneStep) → AreOf b n served all qs ss → All (IsFreshAsk history) qs → AreFresh history (keys_of qs ss)
fresh_keys history b n served all qs [] are h = tt
fresh_keys history b n served all [] (s ∷ ss) are h = absurd are
fresh_keys history b n served all (a ∷ qs) (step.Served p k d ∷ ss) are h = let one = All-head (IsFreshAsk history) a qs h in (one.planned, one.fresh, fresh_keys history b n served all qs ss are.1 (All-tail (IsFreshAsk history) a qs h))
fresh_keys history b n served all (a ∷ qs) (step.Expired p k ∷ ss) are h = fresh_keys history b n served all qs ss are.1 (All-tail (IsFreshAsk history) a qs h)
fresh_keys history b n served all (a ∷ qs) (step.Failed e ∷ ss) are h = fresh_keys history b n served all qs ss are.1 (All-tail (IsFreshAsk history) a qs h)

in_all : (P : Served → Type 0) (a : Ask) (s : LaneStep) → P (asks_for a) → All P (entries_in a s)
in_all P a (step.Served p k d) h = All-cons P (asks_for a) [] h (All-nil P)
in_all P a (step.Expired p k) h = All-nil P
in_all P a (step.Failed e) h = All-nil P

entries_within : (P : Served → Type 0) (b n : ClientTold) (served : List Served) (all : List Said) (qs : List Ask) (ss : List LaneStep) → AreOf b n served all qs ss → All P (map asks_for qs) → All P (entries_of qs ss)
entries_within P b n served all qs [] are h = All-nil P
entries_within P b n served all [] (s ∷ ss) are h = absurd are
entries_within P b n served all (a ∷ qs) (s ∷ ss) are h =
    All-append P (entries_in a s) (entries_of qs ss) (in_all P a s (All-head P (asks_for a) (map asks_for qs) h)) (entries_within P b n served all qs ss are.1 (All-tail P (asks_for a) (map asks_for qs) h))

hidden_within : (P : Served → Type 0) (qs : List Ask) (ss : List LaneStep) (hidden : List Served) → IsHidden qs ss hidden → All P (map asks_for qs) → All P hidden
hidden_within P qs ss hidden (inl e) h = subst (λ (l : List Served). All P l) (sym e) (All-nil P)
hidden_within P qs ss hidden (inr t) h = subst (λ (l : List Served). All P l) (sym t.is) (All-cons P (asks_for t.ask) [] (get_all P qs (length ss - 1) t.ask h t.last) (All-nil P))

lane_within : (P : Served → Type 0) (b n : ClientTold) (qs : List Ask) (ss : List LaneStep) → (d : LaneDid b n qs ss) → All P (map asks_for qs) → All P (entries_all (keys_of qs ss) ++ d.hidden)
lane_within P b n qs ss d h =
    All-append P (entries_all (keys_of qs ss)) d.hidden
    (subst (λ (l : List Served). All P l) (entries_keys qs ss) (entries_within P b n (entries_of qs ss ++ d.hidden) d.said qs ss d.are h))
    (hidden_within P qs ss d.hidden d.at_most h)

-- ---- all lanes as a step

-- what the lanes did: the blocks that each fetched, what each has hidden, and how often each was answered that a URL had expired
pub record AreJoined (fs : List Ask) (bs ns : List ClientTold) (drawn : List (List ℕ)) (es : List (List LaneStep)) : Type 0 where
  pub keys : List (List Key)
  pub hidden : List (List Served)
  pub said : List (List Said)
  pub joined : EachJoined bs ns (lanes_entries keys hidden) said (lanes_late (map places_of es) (no_late bs))
  -- a list of hidden entries for each connection, and no more lanes than these
  pub each : length hidden ≡ length bs
  pub lanes : length keys ≤ length hidden
  pub ends : length es ≤ length bs
  pub fetched : (m : ℕ) → lanes_fetched m keys ≡ lane_events fetched_on m es
  pub expired : (m : ℕ) → lanes_expired m (map places_of es) ≡ lane_events expired_on m es
  pub got : flat_map got_of es ≡ flat_map places keys
  -- the data of Served steps is of answers that were heard
  pub found : (xs : List Exchange) → ArePaired bs xs → All IsFor fs
      → All (λ l. All (IsHeardStep fs bs (heard_join (lanes_entries keys hidden) said xs)) l) es
  -- nothing is hidden where no step may hide
  pub none : All HidesNone es → hidden ≡ no_hidden bs
  pub fresh : (history : List Event) → All (IsFreshAsk history) fs → EachFresh history keys

weigh_all : (h : Served → ℕ) (x : List Served) (xs : List (List Served)) → weigh h (all_of (x ∷ xs)) ≡ weigh h x + weigh h (all_of xs)
weigh_all h x xs = weigh_append h x (all_of xs)

none_joined : (bs : List ClientTold) → EachJoined bs bs (map (λ _. []) bs) (map (λ _. []) bs) (no_late bs)
none_joined [] = tt
none_joined (b ∷ bs) = (
  record {
    goes_on = record { store = refl; link = refl; faults = omega arith; expiries = omega arith };
    asked = refl;
    quiet = refl;
    pairs = record { serves = added_none b.served b.served refl; says = added_none b.said b.said refl; paired = refl };
    said_late = refl;
    expired = omega arith;
  },
  none_joined bs,
)

none_within : (P : Served → Type 0) (bs : List ClientTold) → All P (all_of (map (λ _. []) bs))
none_within P [] = All-nil P
none_within P (b ∷ bs) = none_within P bs

none_length : (bs : List ClientTold) → length {A = List Served} (map (λ _. []) bs) ≡ length bs
none_length [] = refl
none_length (b ∷ bs) = let r = none_length bs in omega (arith, r)

none_weigh : (h : Served → ℕ) (bs : List ClientTold) → weigh h (all_of (map (λ _. []) bs)) ≡ 0
none_weigh h [] = refl
none_weigh h (b ∷ bs) = none_weigh h bs

pub are_joined : (fs : List Ask) (bs ns : List ClientTold) (drawn : List (List ℕ)) (es : List (List LaneStep)) → EachDrew fs bs ns drawn es → AreJoined fs bs ns drawn es
are_joined fs bs ns [] [] e = record {
  keys = [];
  hidden = map (λ _. []) bs;
  said = map (λ _. []) bs;
  joined = subst (λ (l : List ClientTold). EachJoined bs l (map (λ _. []) bs) (map (λ _. []) bs) (no_late bs)) (sym e) (none_joined bs);
  each = none_length bs;
  lanes = omega arith;
  ends = omega arith;
  fetched = λ m. refl;
  expired = λ m. refl;
  got = refl;
  found = λ xs p own. All-nil (λ l. All (IsHeardStep fs bs (heard_join (map (λ _. []) bs) (map (λ _. []) bs) xs)) l);
  none = λ h. refl;
  fresh = λ history h. tt;
}
are_joined fs bs ns [] (ss ∷ es) e = absurd e
are_joined fs bs ns (d ∷ ds) [] e = absurd e
are_joined fs [] ns (d ∷ ds) (ss ∷ es) e = absurd e
are_joined fs (b ∷ bs) [] (d ∷ ds) (ss ∷ es) e = absurd e
are_joined fs (b ∷ bs) (n ∷ ns) (d ∷ ds) (ss ∷ es) e =
    let lane = e.0 in
    let did = lane.did in
    let rest = are_joined fs bs ns ds es e.1 in
    let keys = keys_of lane.made ss in
    let mine = entries_all keys ++ did.hidden in
    let r = rest.each in
    let q = rest.lanes in
    let u = rest.ends in
    record {
      keys = keys ∷ rest.keys;
      hidden = did.hidden ∷ rest.hidden;
      said = did.said ∷ rest.said;
      joined = (lane_step b n lane.made ss did, rest.joined);
      each = omega (arith, r);
      lanes = omega (arith, q);
      ends = omega (arith, u);
      fetched = λ m. ap (λ (l : List Event). l ++ lanes_fetched (m + 1) rest.keys) (sym (fetched_keys m b n (entries_of lane.made ss ++ did.hidden) did.said lane.made ss did.are)) ∙ ap (λ (l : List Event). fetched_on m ss ++ l) (rest.fetched (m + 1));
      expired = λ m. ap (λ (l : List Event). l ++ lanes_expired (m + 1) (map places_of es)) (sym (expired_places m ss)) ∙ ap (λ (l : List Event). expired_on m ss ++ l) (rest.expired (m + 1));
      got = ap (λ (l : List Place). l ++ flat_map got_of es) (got_keys b n (entries_of lane.made ss ++ did.hidden) did.said lane.made ss did.are) ∙ ap (λ (l : List Place). places keys ++ l) rest.got;
      found = λ xs p own.
          lanes_more fs b n bs mine did.said (lanes_entries rest.keys rest.hidden) rest.said d lane.made ss es lane.at
          (subst (λ (l : List Served). AreOf b n (l ++ did.hidden) did.said lane.made ss) (entries_keys lane.made ss) did.are) (made_of IsFor fs d lane.made own lane.at) (λ ys q. rest.found ys q own) xs p;
      none = λ h. ap (λ (l : List Served). l ∷ rest.hidden) (did.none (All-head HidesNone ss es h)) ∙ ap (λ (l : List (List Served)). [] ∷ l) (rest.none (All-tail HidesNone ss es h));
      fresh = λ history h. (fresh_keys history b n (entries_of lane.made ss ++ did.hidden) did.said lane.made ss did.are (made_of (IsFreshAsk history) fs d lane.made h lane.at), rest.fresh history h);
    }

-- what holds of the entries of all fetches holds of all that the lanes served
pub joined_among : (P : Served → Type 0) (fs : List Ask) (bs ns : List ClientTold) (drawn : List (List ℕ)) (es : List (List LaneStep)) → (e : EachDrew fs bs ns drawn es) → All P (map asks_for fs)
    → (let j = are_joined fs bs ns drawn es e in All P (all_of (lanes_entries j.keys j.hidden)))
unfolding are_joined
joined_among P fs bs ns [] [] e h = none_within P bs
joined_among P fs bs ns [] (ss ∷ es) e h = absurd e
joined_among P fs bs ns (d ∷ ds) [] e h = absurd e
joined_among P fs [] ns (d ∷ ds) (ss ∷ es) e h = absurd e
joined_among P fs (b ∷ bs) [] (d ∷ ds) (ss ∷ es) e h = absurd e
joined_among P fs (b ∷ bs) (n ∷ ns) (d ∷ ds) (ss ∷ es) e h =
    let lane = e.0 in
    let j = are_joined fs bs ns ds es e.1 in
    All-append P (entries_all (keys_of lane.made ss) ++ lane.did.hidden) (all_of (lanes_entries j.keys j.hidden)) (lane_within P b n lane.made ss lane.did (made_all P fs d lane.made h lane.at)) (joined_among P fs bs ns ds es e.1 h)

late_all : (P : Served → Type 0) (a : Ask) (s : LaneStep) → P (asks_for a) → All P (lates_in a s)
late_all P a (step.Served p k d) h = All-nil P
late_all P a (step.Expired p k) h = All-cons P (asks_for a) [] h (All-nil P)
late_all P a (step.Failed e) h = All-nil P

lates_within : (P : Served → Type 0) (b n : ClientTold) (served : List Served) (all : List Said) (qs : List Ask) (ss : List LaneStep) → AreOf b n served all qs ss → All P (map asks_for qs) → All P (lates_of qs ss)
lates_within P b n served all qs [] are h = All-nil P
lates_within P b n served all [] (s ∷ ss) are h = absurd are
lates_within P b n served all (a ∷ qs) (s ∷ ss) are h =
    All-append P (lates_in a s) (lates_of qs ss) (late_all P a s (All-head P (asks_for a) (map asks_for qs) h)) (lates_within P b n served all qs ss are.1 (All-tail P (asks_for a) (map asks_for qs) h))

abbrev LateAre : (Served → Type 0) → List Said → Type 0
LateAre P all = All P (late_in all)

none_late : (P : Served → Type 0) (bs : List ClientTold) → All (LateAre P) (map (λ _. []) bs)
none_late P [] = All-nil (LateAre P)
none_late P (b ∷ bs) = All-cons (LateAre P) [] (map (λ _. []) bs) (All-nil P) (none_late P bs)

-- and of all requests that were answered as expired
pub lates_among : (P : Served → Type 0) (fs : List Ask) (bs ns : List ClientTold) (drawn : List (List ℕ)) (es : List (List LaneStep)) → (e : EachDrew fs bs ns drawn es) → All P (map asks_for fs)
    → (let j = are_joined fs bs ns drawn es e in All (LateAre P) j.said)
unfolding are_joined
lates_among P fs bs ns [] [] e h = none_late P bs
lates_among P fs bs ns [] (ss ∷ es) e h = absurd e
lates_among P fs bs ns (d ∷ ds) [] e h = absurd e
lates_among P fs [] ns (d ∷ ds) (ss ∷ es) e h = absurd e
lates_among P fs (b ∷ bs) [] (d ∷ ds) (ss ∷ es) e h = absurd e
lates_among P fs (b ∷ bs) (n ∷ ns) (d ∷ ds) (ss ∷ es) e h =
    let lane = e.0 in
    let did = lane.did in
    let j = are_joined fs bs ns ds es e.1 in
    let all = lates_within P b n (entries_of lane.made ss ++ did.hidden) did.said lane.made ss did.are (made_all P fs d lane.made h lane.at) in
    All-cons (LateAre P) did.said j.said (subst (λ (l : List Served). All P l) (sym did.late) all) (lates_among P fs bs ns ds es e.1 h)

-- ---- no pair twice

counted : (p k : ℕ) (xs : List Served) → weigh (λ e. cond (is_pair p k e) 1 0) xs ≡ count_by (is_pair p k) xs
counted p k [] = refl
counted p k (x ∷ xs) = let r = counted p k xs in let c = count_by-cons (is_pair p k) x xs in omega (arith, r, c)

-- ---- blocks of one range

entries_count : (T : Served → Bool) (xs : List Served) → weigh (λ e. cond (T e) 1 0) xs ≡ count_by T xs
entries_count T [] = refl
entries_count T (x ∷ xs) = let h = entries_count T xs in let n = count_by-cons T x xs in omega (arith, h, n)

asks_count : (x : MerkleHash) (r : ChunkRange) (qs : List Ask) → weigh (λ e. cond (is_served x r e) 1 0) (map asks_for qs) ≡ count_by (is_block x r) (blocks_all (map key_of qs))
asks_count x r [] = refl
asks_count x r (a ∷ qs) = let h = asks_count x r qs in let k : Key = key_of a in let n = count_by-cons (is_block x r) k.2 (blocks_all (map key_of qs)) in omega (arith, h, n)

-- of each lane, by what its own connection said
pub each_failed : (fs : List Ask) (bs ns : List ClientTold) (drawn : List (List ℕ)) (es : List (List LaneStep)) (xs : List Exchange) → (e : EachDrew fs bs ns drawn es) → ArePaired bs xs
    → (let j = are_joined fs bs ns drawn es e in AreLaneEnds fs bs (heard_join (lanes_entries j.keys j.hidden) j.said xs) j.hidden es)
unfolding are_joined
each_failed fs bs ns [] [] xs e p = tt
each_failed fs bs ns [] (ss ∷ es) xs e p = absurd e
each_failed fs bs ns (d ∷ ds) [] xs e p = absurd e
each_failed fs [] ns (d ∷ ds) (ss ∷ es) xs e p = absurd e
each_failed fs (b ∷ bs) [] (d ∷ ds) (ss ∷ es) xs e p = absurd e
each_failed fs (b ∷ bs) (n ∷ ns) (d ∷ ds) (ss ∷ es) [] e p = absurd p
each_failed fs (b ∷ bs) (n ∷ ns) (d ∷ ds) (ss ∷ es) (x ∷ xs) e p =
    let lane = e.0 in
    let did = lane.did in
    let mine = lane_failed fs b n x (entries_of lane.made ss ++ did.hidden) did.hidden did.said d lane.made ss p.0 lane.at did.are did.at_most in
    (subst (λ (l : List Served). IfSome (slice_get ss (length ss - 1)) (IsLaneEnd fs b (record { asked = x.asked; served = x.served ++ (l ++ did.hidden); said = x.said ++ did.said }) did.hidden)) (entries_keys lane.made ss) mine, each_failed fs bs ns ds es xs e.1 p.1)

-- what each hides
pub each_hides : (fs : List Ask) (bs ns : List ClientTold) (drawn : List (List ℕ)) (es : List (List LaneStep)) → (e : EachDrew fs bs ns drawn es) → (let j = are_joined fs bs ns drawn es e in EachHides es j.hidden)
unfolding are_joined
each_hides fs bs ns [] [] e = tt
each_hides fs bs ns [] (ss ∷ es) e = absurd e
each_hides fs bs ns (d ∷ ds) [] e = absurd e
each_hides fs [] ns (d ∷ ds) (ss ∷ es) e = absurd e
each_hides fs (b ∷ bs) [] (d ∷ ds) (ss ∷ es) e = absurd e
each_hides fs (b ∷ bs) (n ∷ ns) (d ∷ ds) (ss ∷ es) e = (e.0.did.none, each_hides fs bs ns ds es e.1)

-- ---- all that the lanes were answered

abbrev pub lates_weigh : (Served → ℕ) → List (List Said) → ℕ
lates_weigh h [] = 0
lates_weigh h (a ∷ alls) = weigh h (late_in a) + lates_weigh h alls

no_lates : (h : Served → ℕ) (bs : List ClientTold) → lates_weigh h (map (λ _. []) bs) ≡ 0
no_lates h [] = refl
no_lates h (b ∷ bs) = let r = no_lates h bs in omega (arith, r)

-- with bytes or as expired, it is for no more than was drawn
all_weighs : (h : Served → ℕ) (fs : List Ask) (bs ns : List ClientTold) (drawn : List (List ℕ)) (es : List (List LaneStep)) → (e : EachDrew fs bs ns drawn es)
    → (let j = are_joined fs bs ns drawn es e in weigh h (all_of (lanes_entries j.keys j.hidden)) + lates_weigh h j.said ≤ weigh_at h fs (concat drawn))
unfolding are_joined
all_weighs h fs bs ns [] [] e = let z = none_weigh h bs in let y = no_lates h bs in omega (arith, z, y)
all_weighs h fs bs ns [] (ss ∷ es) e = absurd e
all_weighs h fs bs ns (d ∷ ds) [] e = absurd e
all_weighs h fs [] ns (d ∷ ds) (ss ∷ es) e = absurd e
all_weighs h fs (b ∷ bs) [] (d ∷ ds) (ss ∷ es) e = absurd e
all_weighs h fs (b ∷ bs) (n ∷ ns) (d ∷ ds) (ss ∷ es) e =
    let lane = e.0 in
    let did = lane.did in
    let j = are_joined fs bs ns ds es e.1 in
    let mine = entries_all (keys_of lane.made ss) ++ did.hidden in
    let l = lane_all h b n (entries_of lane.made ss ++ did.hidden) did.said lane.made ss did.hidden did.are did.at_most in
    let m = made_weighs h fs d lane.made lane.at in
    let s = at_append h fs d (concat ds) in
    let w = weigh_all h mine (lanes_entries j.keys j.hidden) in
    let x = weigh_append h (entries_all (keys_of lane.made ss)) did.hidden in
    let y = ap (weigh h) (entries_keys lane.made ss) in
    let v = ap (weigh h) did.late in
    let r = all_weighs h fs bs ns ds es e.1 in
    omega (arith, l, m, s, w, x, y, v, r)

-- a block was served no more often than the round's fetches ask for
pub served_among : (fs : List Ask) (bs ns : List ClientTold) (es : List (List LaneStep)) → (d : DrewApart fs bs ns es) → (p k : ℕ)
    → (let j = are_joined fs bs ns d.drawn es d.each in count_by (is_pair p k) (all_of (lanes_entries j.keys j.hidden)) ≤ count_by (is_pair p k) (map asks_for fs))
served_among fs bs ns es d p k =
    let j = are_joined fs bs ns d.drawn es d.each in
    let h : Served → ℕ = λ e. cond (is_pair p k e) 1 0 in
    let most = numbers_weigh h fs (concat d.drawn) (λ x. let a = d.apart x in let o = once_most x d.count in omega (arith, a, o)) (λ x l. let w = d.within in d.apart x ∙ once_past x d.count (omega (arith, w, l))) in
    let w = all_weighs h fs bs ns d.drawn es d.each in
    let a = counted p k (all_of (lanes_entries j.keys j.hidden)) in
    let c = counted p k (map asks_for fs) in
    omega (arith, most, w, a, c)

lates_ranges : (T : Served → Bool) (alls : List (List Said)) → lates_weigh (λ e. cond (T e) 1 0) alls ≡ count_by T (all_lates alls)
lates_ranges T [] = refl
lates_ranges T (a ∷ alls) =
    let r = lates_ranges T alls in
    let c = entries_count T (late_in a) in
    let d = count-append T (late_in a) (all_lates alls) in
    omega (arith, r, c, d)

-- of one range the lanes were given answers, with bytes or as expired, for no more blocks than the round's fetches
pub requests_among : (fs : List Ask) (bs ns : List ClientTold) (es : List (List LaneStep)) → (d : DrewApart fs bs ns es) → (x : MerkleHash) (r : ChunkRange)
    → (let j = are_joined fs bs ns d.drawn es d.each in count_by (is_served x r) (all_of (lanes_entries j.keys j.hidden)) + count_by (is_served x r) (all_lates j.said) ≤ count_by (is_block x r) (blocks_all (map key_of fs)))
requests_among fs bs ns es d x r =
    let j = are_joined fs bs ns d.drawn es d.each in
    let h : Served → ℕ = λ e. cond (is_served x r e) 1 0 in
    let most = numbers_weigh h fs (concat d.drawn) (λ y. let a = d.apart y in let o = once_most y d.count in omega (arith, a, o)) (λ y l. let w = d.within in d.apart y ∙ once_past y d.count (omega (arith, w, l))) in
    let w = all_weighs h fs bs ns d.drawn es d.each in
    let c = entries_count (is_served x r) (all_of (lanes_entries j.keys j.hidden)) in
    let l = lates_ranges (is_served x r) j.said in
    let q = asks_count x r fs in
    omega (arith, most, w, c, l, q)
