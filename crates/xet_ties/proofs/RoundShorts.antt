-- The ties where memory is wanting while a round is recorded: the first of its events are.
use Rattle.std.proofs.Common.{◌≡◌, ℕ, zero, suc, ◌+◌, ◌-◌, ◌<◌, ◌≤◌, Bool, true, false, cond, List, [], ◌∷◌, ◌++◌, length, take, drop, map, refl, sym, subst, ◌∙◌, ap, arith, append_assoc, ⊎_elim, None}
use Rattle.std.specs.Prelude.{All, count_by, nat_lt}
use Rattle.std.specs.List.{flat_map}
use Rattle.std.proofs.Math.Seq.{take-append-add, take-nil}
use Rattle.std.proofs.lemmas.Bool.{cases_lt}
use Rattle.std.proofs.lemmas.List.{append-nil, length-map, map-append, take-append-drop, take-append-le, take-map}
use Rattle.xet_base.specs.declared.cas_types.ChunkRange.{ChunkRange}
use Rattle.xet_base.specs.declared.merklehash.MerkleHash.{MerkleHash}
use Rattle.xet_outside.specs.Told.{ClientTold}
use Rattle.xet_outside.specs.declared.served.Served.{Served}
use Rattle.xet_events.specs.declared.event.Event.{Event}
use Rattle.xet_events.specs.declared.event.Event.TheVariants.{Expired, Fetched, Wrote}
use Rattle.xet_ties.specs.History.{fetches}
use Rattle.xet_ties.specs.Lanes.{Ask, DrewApart}
use Rattle.xet_ties.specs.InCall.{Exchange}
use Rattle.xet_ties.specs.Setup.{RunTold, Setup}
use Rattle.xet_ties.specs.Ties.{Slack, Ties, has_one, is_one, is_pair}
use Rattle.xet_ties.specs.declared.lane_step.LaneStep.{LaneStep}
use Rattle.xet_ties.specs.Moves.{heard_join, no_hidden, no_late}
use Rattle.xet_ties.specs.PartCalls.{total}
use Rattle.xet_ties.specs.Rounds.{IsPlanAsk}
use Rattle.xet_ties.specs.Recordings.{AreFresh, EachFresh, EachMayExpire, IsFreshAsk, Key, MayExpire, Place, asks_for, blocks_all, entries_all, expired_all, expired_on, fetched_all, fetched_on, key_of, lane_events, lanes_entries, lanes_expired, lanes_fetched, lanes_late, places_of, wrote_of}
use Rattle.xet_ties.proofs.LaneJoins.{are_joined}
use Rattle.xet_ties.proofs.LaneTies.{ArePassed, EachPassed, tie_lanes_expired, tie_lanes_fetched}
use Rattle.xet_ties.proofs.Recording.{tie_wrote}
use Rattle.xet_ties.proofs.RoundTies.{fetched_slack, joined_slack, late_places, round_fetched, round_joined, round_passed}
use Rattle.xet_ties.proofs.RoundAsks.{asked_may, some_same, some_taken}

-- ---- the first Fetched events

fresh_take : (es : List Event) (k : ℕ) (cs : List Key) → AreFresh es cs → AreFresh es (take k cs)
fresh_take es zero cs a = tt
fresh_take es (suc k) [] a = tt
fresh_take es (suc k) (c ∷ cs) a = (a.0, a.1, fresh_take es k cs a.2)

passed_take : (g : Setup) (xs : List Exchange) (k : ℕ) (cs : List Key) → ArePassed g xs cs → ArePassed g xs (take k cs)
passed_take g xs zero cs a = tt
passed_take g xs (suc k) [] a = tt
passed_take g xs (suc k) (c ∷ cs) a = (a.0, passed_take g xs k cs a.1)

-- a list that is mapped is what is mapped of its first ones, and of its last ones
split_map : {A B : Type 0} (f : A → B) (k : ℕ) (xs : List A) → map f xs ≡ map f (take k xs) ++ map f (drop k xs)
split_map f k xs = sym (ap (λ l. map f l) (take-append-drop k xs)) ∙ map-append f (take k xs) (drop k xs)

-- lanes of which the first blocks are recorded: the entries of the others go before those that stay hidden
record CutKeys (g : Setup) (xs : List Exchange) (es : List Event) (k m : ℕ) (css : List (List Key)) (hs : List (List Served)) : Type 0 where
  pub keys : List (List Key)
  pub hidden : List (List Served)
  pub fresh : EachFresh es keys
  pub passed : EachPassed g xs keys
  pub lanes : length keys ≤ length hidden
  pub entries : lanes_entries css hs ≡ lanes_entries keys hidden
  pub events : take k (lanes_fetched m css) ≡ lanes_fetched m keys

cut_keys : (g : Setup) (xs : List Exchange) (es : List Event) (k m : ℕ) (css : List (List Key)) (hs : List (List Served)) → EachFresh es css → EachPassed g xs css → length css ≤ length hs → CutKeys g xs es k m css hs
cut_keys g xs es k m [] hs a p some = record { keys = []; hidden = hs; fresh = tt; passed = tt; lanes = omega arith; entries = refl; events = take-nil k }
cut_keys g xs es k m (cs ∷ css) [] a p some = absurd (omega (arith, some))
cut_keys g xs es k m (cs ∷ css) (h ∷ hs) a p some =
    ⊎_elim
    (λ (over : length cs < k).
    let r = cut_keys g xs es (k - length cs) (m + 1) css hs a.1 p.1 (omega (arith, some)) in
    let l = r.lanes in
    let long : k ≡ length (fetched_all m cs) + (k - length cs) = omega (arith, over, length-map cs (λ (c : Key). Fetched m c.0 c.1)) in
    record {
      keys = cs ∷ r.keys;
      hidden = h ∷ r.hidden;
      fresh = (a.0, r.fresh);
      passed = (p.0, r.passed);
      lanes = omega (arith, l);
      entries = ap (λ (x : List (List Served)). (entries_all cs ++ h) ∷ x) r.entries;
      events = ap (λ (n : ℕ). take n (fetched_all m cs ++ lanes_fetched (m + 1) css)) long ∙ take-append-add (fetched_all m cs) (lanes_fetched (m + 1) css) (k - length cs) ∙ ap (λ (x : List Event). fetched_all m cs ++ x) r.events;
    })
    (λ (within : k ≤ length cs).
    let more = lanes_entries css hs in
    record {
      keys = take k cs ∷ [];
      hidden = (entries_all (drop k cs) ++ h) ∷ more;
      fresh = (fresh_take es k cs a.0, tt);
      passed = (passed_take g xs k cs p.0, tt);
      lanes = omega arith;
      entries = ap (λ (x : List Served). x ∷ more) (ap (λ (x : List Served). x ++ h) (split_map _ k cs) ∙ append_assoc (entries_all (take k cs)) (entries_all (drop k cs)) h);
      events = take-append-le k (fetched_all m cs) (lanes_fetched (m + 1) css) (omega (arith, within, length-map cs (λ (c : Key). Fetched m c.0 c.1))) ∙ take-map (λ (c : Key). Fetched m c.0 c.1) k cs ∙ sym (append-nil (fetched_all m (take k cs)));
    })
    (cases_lt (length cs) k)

-- ---- the first Expired events

may_take : (tries lane : ℕ) (es : List Event) (k : ℕ) (cs : List Place) → MayExpire tries lane es cs → MayExpire tries lane es (take k cs)
may_take tries lane es zero cs a = tt
may_take tries lane es (suc k) [] a = tt
may_take tries lane es (suc k) (c ∷ cs) a = (a.0, a.1, may_take tries lane (es ++ Expired lane c.0 c.1 ∷ []) k cs a.2)

record CutPlaces (tries m : ℕ) (es : List Event) (k : ℕ) (css js : List (List Place)) : Type 0 where
  pub places : List (List Place)
  pub late : List (List Place)
  pub may : EachMayExpire tries m es places
  pub lanes : length places ≤ length late
  pub counts : lanes_late css js ≡ lanes_late places late
  pub events : take k (lanes_expired m css) ≡ lanes_expired m places

cut_places : (tries m : ℕ) (es : List Event) (k : ℕ) (css js : List (List Place)) → EachMayExpire tries m es css → length css ≤ length js → CutPlaces tries m es k css js
cut_places tries m es k [] js a some = record { places = []; late = js; may = tt; lanes = omega arith; counts = refl; events = take-nil k }
cut_places tries m es k (cs ∷ css) [] a some = absurd (omega (arith, some))
cut_places tries m es k (cs ∷ css) (j ∷ js) a some =
    ⊎_elim
    (λ (over : length cs < k).
    let r = cut_places tries (m + 1) (es ++ expired_all m cs) (k - length cs) css js a.1 (omega (arith, some)) in
    let l = r.lanes in
    let long : k ≡ length (expired_all m cs) + (k - length cs) = omega (arith, over, length-map cs (λ (c : Place). Expired m c.0 c.1)) in
    record {
      places = cs ∷ r.places;
      late = j ∷ r.late;
      may = (a.0, r.may);
      lanes = omega (arith, l);
      counts = ap (λ (x : List (List Place)). (cs ++ j) ∷ x) r.counts;
      events = ap (λ (n : ℕ). take n (expired_all m cs ++ lanes_expired (m + 1) css)) long ∙ take-append-add (expired_all m cs) (lanes_expired (m + 1) css) (k - length cs) ∙ ap (λ (x : List Event). expired_all m cs ++ x) r.events;
    })
    (λ (within : k ≤ length cs).
    let same : cs ++ j ≡ take k cs ++ (drop k cs ++ j) = ap (λ (l : List Place). l ++ j) (sym (take-append-drop k cs)) ∙ append_assoc (take k cs) (drop k cs) j in
    record {
      places = take k cs ∷ [];
      late = (drop k cs ++ j) ∷ lanes_late css js;
      may = (may_take tries m es k cs a.0, tt);
      lanes = omega arith;
      counts = ap (λ (l : List Place). l ∷ lanes_late css js) same;
      events = take-append-le k (expired_all m cs) (lanes_expired (m + 1) css) (omega (arith, within, length-map cs (λ (c : Place). Expired m c.0 c.1))) ∙ take-map (λ (c : Place). Expired m c.0 c.1) k cs ∙ sym (append-nil (expired_all m (take k cs)));
    })
    (cases_lt (length cs) k)

-- ---- a round

-- wherever the recording of a round ends, what was recorded is tied
pub round_short : (g : Setup) (b at : RunTold) (es : List Event) (sl : Slack) (fs : List Ask) (ns : List ClientTold) (ls : List (List LaneStep)) (k : ℕ) → DrewApart fs at.clients ns ls
    → ((p i : ℕ) → count_by (fetches p i) es + count_by (is_pair p i) (map asks_for fs) ≤ 1) → All (IsFreshAsk es) fs
    → ((x : MerkleHash) (r : ChunkRange) → count_by (is_one x r) (blocks_all (map key_of fs)) ≤ count_by (is_one x r) sl.pending)
    → sl.hidden ≡ no_hidden b.clients → sl.late ≡ no_late b.clients → All (IsPlanAsk g sl.heard) fs
    → EachMayExpire g.tries 0 (es ++ lane_events fetched_on 0 ls) (map places_of ls) → (0 < length fs → 1 ≤ sl.spare)
    → Ties g b at es None sl
    → (to : Slack) × Ties g b (record at { clients = ns }) (es ++ take k (lane_events fetched_on 0 ls ++ lane_events expired_on 0 ls)) None to
round_short g b at es sl fs ns ls k d new fresh waits none_h none_l asks may asked t =
    let now : RunTold = record at { clients = ns } in
    let j = are_joined fs at.clients ns d.drawn ls d.each in
    let got = lane_events fetched_on 0 ls in
    let late = lane_events expired_on 0 ls in
    let first = round_joined g b at es sl fs ns ls d new fresh waits none_h none_l may t in
    ⊎_elim
    (λ (over : length got < k).
    let c = cut_places g.tries 0 (es ++ got) (k - length got) (map places_of ls) (no_late at.clients) may (late_places at.clients ls j.ends) in
    let from = round_fetched g b at es sl fs ns ls d new fresh waits none_h none_l asks may asked t in
    let mid : Slack = record (fetched_slack fs at.clients ns d.drawn ls j sl) { spare = from.left } in
    let all = tie_lanes_expired g b now (es ++ got) mid 0 c.places c.late [] c.may c.lanes refl c.counts
    (λ h. from.goes (asked_may expired_on (λ m. refl) es sl.spare fs at.clients ns d.drawn ls d.each asked (some_same (lanes_expired 0 (map places_of ls)) late (j.expired 0) (some_taken (k - length got) (lanes_expired 0 (map places_of ls)) (lanes_expired 0 c.places) c.events h)))) from.ties in
    let names : take k (got ++ late) ≡ got ++ lanes_expired 0 c.places =
    ap (λ (n : ℕ). take n (got ++ late)) (as_sum k got over) ∙ take-append-add got late (k - length got) ∙ ap (λ (l : List Event). got ++ take (k - length got) l) (sym (j.expired 0)) ∙ ap (λ (l : List Event). got ++ l) c.events in
    let events : (es ++ got) ++ lanes_expired 0 c.places ≡ es ++ take k (got ++ late) = append_assoc es got (lanes_expired 0 c.places) ∙ ap (λ (l : List Event). es ++ l) (sym names) in
    let to : Slack = record mid { late = c.late; spare = all.left } in
    (to, subst (λ (l : List Event). Ties g b now l None to) events all.ties))
    (λ (within : k ≤ length got).
    let heard = heard_join (lanes_entries j.keys j.hidden) j.said sl.heard in
    let c = cut_keys g heard es k 0 j.keys j.hidden (j.fresh es fresh) (round_passed g b at es sl fs ns ls d asks t) j.lanes in
    let all = tie_lanes_fetched g b now es (joined_slack fs at.clients ns d.drawn ls j sl) 0 c.keys c.hidden [] c.fresh c.lanes refl c.entries c.passed
    (λ h. asked_may fetched_on (λ m. refl) es sl.spare fs at.clients ns d.drawn ls d.each asked (some_same (lanes_fetched 0 j.keys) got (j.fetched 0) (some_taken k (lanes_fetched 0 j.keys) (lanes_fetched 0 c.keys) c.events h))) first in
    let names : take k (got ++ late) ≡ lanes_fetched 0 c.keys = take-append-le k got late within ∙ ap (λ (l : List Event). take k l) (sym (j.fetched 0)) ∙ c.events in
    let from = joined_slack fs at.clients ns d.drawn ls j sl in
    let to : Slack = record from { hidden = c.hidden; due = from.due + count_by has_one (flat_map blocks_all c.keys); spare = all.left } in
    (to, subst (λ (l : List Event). Ties g b now (es ++ l) None to) (sym names) all.ties))
    (cases_lt (length got) k)
  where
    as_sum : (n : ℕ) (xs : List Event) → length xs < n → n ≡ length xs + (n - length xs)
    as_sum n xs over = omega (arith, over)

-- ---- written terms

-- wherever the recording of written terms ends, what was recorded is tied
pub written_short : (g : Setup) (b n : RunTold) (es : List Event) (sl : Slack) (ns : List ℕ) (k : ℕ) → total ns ≤ sl.ahead → Ties g b n es None sl
    → (rest : ℕ) × Ties g b n (es ++ take k (wrote_of ns)) None (record sl { ahead = rest })
written_short g b n es sl [] k some t = (sl.ahead, subst (λ (l : List Event). Ties g b n l None sl) (sym (ap (λ (l : List Event). es ++ l) (take-nil k) ∙ append-nil es)) t)
written_short g b n es sl (m ∷ ns) k some t = by (nat_lt 0 m) k (λ fs to i a u. written_short g b n fs to ns i a u)
  where
    by : (v : Bool) (i : ℕ) → ((fs : List Event) (to : Slack) (i : ℕ) → total ns ≤ to.ahead → Ties g b n fs None to → (rest : ℕ) × Ties g b n (fs ++ take i (wrote_of ns)) None (record to { ahead = rest }))
        → (rest : ℕ) × Ties g b n (es ++ take i (cond v (Wrote m ∷ []) [] ++ wrote_of ns)) None (record sl { ahead = rest })
    by false i more = more es sl i (let f : total (m ∷ ns) ≡ m + total ns = refl in omega (arith, some, f)) t
    by true zero more = (sl.ahead, subst (λ (l : List Event). Ties g b n l None sl) (sym (append-nil es)) t)
    by true (suc i) more =
        let f : total (m ∷ ns) ≡ m + total ns = refl in
        let one = tie_wrote g b n es sl m (sl.ahead - m) (omega (arith, some, f)) t in
        let r = more (es ++ Wrote m ∷ []) (record sl { ahead = sl.ahead - m }) i (omega (arith, some, f)) one in
        (r.0, subst (λ (l : List Event). Ties g b n l None (record sl { ahead = r.0 })) (append_assoc es (Wrote m ∷ []) (take i (wrote_of ns))) r.1)
