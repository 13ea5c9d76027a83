-- The ties after a whole round: the lanes came back, and all that they did is recorded.
use Rattle.std.proofs.Common.{◌≡◌, ℕ, zero, suc, ◌+◌, ◌<◌, ◌≤◌, List, [], ◌∷◌, ◌++◌, length, map, refl, sym, subst, ◌∙◌, ap, arith, inl, inr, ⊎_elim, None, Some}
use Rattle.std.specs.Prelude.{Bool, cond, count_by, drop, false, true, All, slice_get}
use Rattle.std.specs.List.{flat_map}
use Rattle.xet_base.specs.declared.cas_types.ChunkRange.{ChunkRange}
use Rattle.xet_base.specs.declared.merklehash.MerkleHash.{MerkleHash}
use Rattle.xet_outside.specs.Told.{ClientTold}
use Rattle.xet_outside.specs.declared.served.Served.{Served}
use Rattle.std.proofs.lemmas.Grind.{flat_map-append}
use Rattle.xet_events.specs.declared.event.Event.{Event}
use Rattle.xet_events.specs.declared.event.PlannedBlock.{PlannedBlock}
use Rattle.xet_ties.specs.declared.lane_step.LaneStep.{LaneStep}
use Rattle.xet_ties.specs.declared.lane_step.LaneStep.TheVariants as step
use Rattle.xet_ties.specs.InCall.{EachGrew, Exchange, SomeOne}
use Rattle.xet_ties.specs.Lanes.{Ask, DrewApart, EachDrew, IsFor, any_faults}
use Rattle.xet_ties.specs.Saids.{HasPassed, IsServedData, PassedIn}
use Rattle.xet_ties.specs.Recordings.{AreFresh, asks_for, Key, Place, places, places_of, EachFresh, EachMayExpire, blocks_all, expired_on, fetched_on, lanes_entries, lane_events, lanes_late, IsFreshAsk, key_of, lanes_expired, lanes_fetched}
use Rattle.xet_ties.specs.Moves.{no_hidden, no_late, heard_join}
use Rattle.xet_ties.specs.Setup.{RunTold, Setup, most_lanes}
use Rattle.xet_ties.specs.Ties.{EachLane, FirstUnfailed, Slack, Ties, all_of, has_one, is_one, is_pair, is_served, IsPlannedEntry}
use Rattle.xet_ties.specs.History.{block_at, fetches}
use Rattle.xet_ties.specs.Rounds.{AfterRound, calm_after, IsHeardData, IsHeardStep, IsPlanAsk, blocks_at, got_of}
use Rattle.xet_ties.proofs.Heard.{block_more, grew_join, join_match, step_join}
use Rattle.xet_ties.proofs.ClientMoves.{tie_join}
use Rattle.xet_ties.proofs.Requests.{all_lates}
use Rattle.xet_ties.proofs.LaneJoins.{AreJoined, served_among, are_joined, requests_among, joined_among, lates_among}
use Rattle.xet_ties.proofs.LaneTies.{ArePassed, EachPassed, tie_lanes_expired, tie_lanes_fetched, InRound}
use Rattle.xet_ties.proofs.LaneJoins.{each_failed, each_hides}
use Rattle.xet_ties.proofs.Recording.{tie_rest}
use Rattle.xet_ties.proofs.RoundData.{are_paired}
use Rattle.xet_ties.proofs.RoundLates.{round_tries}
use Rattle.std.proofs.lemmas.List.Elements.{All-append, All-cons, All-head, All-map, All-nil, All-tail, All-weaker}
use Rattle.xet_offers.specs.declared.reconstruction_terms.xorb_block.XorbBlock.{XorbBlock}
use Rattle.xet_offers.specs.declared.reconstruction_terms.xorb_block.XorbBlockData.{XorbBlockData}
use Rattle.xet_ties.proofs.Telling.{all_left, all_right}
use Rattle.xet_ties.proofs.RoundAsks.{asked_may, some_same}

-- as many connections as at the start
same_late : (es : List Event) (l : ℕ) (bs ns : List ClientTold) (hs : List (List Served)) (ks : List (List Place)) → EachLane es l bs ns hs ks → no_late ns ≡ no_late bs
same_late es l [] [] [] [] t = refl
same_late es l (b ∷ bs) (n ∷ ns) (h ∷ hs) (k ∷ ks) t = ap (λ (x : List (List Place)). [] ∷ x) (same_late es (l + 1) bs ns hs ks t.1)
same_late es l [] [] [] (k ∷ ks) t = absurd t
same_late es l [] [] (h ∷ hs) ks t = absurd t
same_late es l [] (n ∷ ns) hs ks t = absurd t
same_late es l (b ∷ bs) [] hs ks t = absurd t
same_late es l (b ∷ bs) (n ∷ ns) [] ks t = absurd t
same_late es l (b ∷ bs) (n ∷ ns) (h ∷ hs) [] t = absurd t

late_length : (bs : List ClientTold) → length (no_late bs) ≡ length bs
late_length [] = refl
late_length (b ∷ bs) = let r = late_length bs in omega (arith, r)

places_length : (ls : List (List LaneStep)) → length (map places_of ls) ≡ length ls
places_length [] = refl
places_length (l ∷ ls) = let r = places_length ls in omega (arith, r)

same_hidden : (es : List Event) (l : ℕ) (bs ns : List ClientTold) (hs : List (List Served)) (ks : List (List Place)) → EachLane es l bs ns hs ks → no_hidden ns ≡ no_hidden bs
same_hidden es l [] [] [] [] t = refl
same_hidden es l (b ∷ bs) (n ∷ ns) (h ∷ hs) (k ∷ ks) t = ap (λ (x : List (List Served)). [] ∷ x) (same_hidden es (l + 1) bs ns hs ks t.1)
same_hidden es l [] [] [] (k ∷ ks) t = absurd t
same_hidden es l [] [] (h ∷ hs) ks t = absurd t
same_hidden es l [] (n ∷ ns) hs ks t = absurd t
same_hidden es l (b ∷ bs) [] hs ks t = absurd t
same_hidden es l (b ∷ bs) (n ∷ ns) [] ks t = absurd t
same_hidden es l (b ∷ bs) (n ∷ ns) (h ∷ hs) [] t = absurd t

-- the blocks at the places of fresh ones are these
fresh_blocks : (es : List Event) (cs : List Key) → AreFresh es cs → blocks_at es (places cs) ≡ blocks_all cs
fresh_blocks es [] a = refl
fresh_blocks es (c ∷ cs) a = ap (λ (l : List PlannedBlock). l ++ blocks_at es (places cs)) a.0 ∙ ap (λ (l : List PlannedBlock). c.2 ∷ l) (fresh_blocks es cs a.2)

each_blocks : (es : List Event) (css : List (List Key)) → EachFresh es css → blocks_at es (flat_map places css) ≡ flat_map blocks_all css
each_blocks es [] a = refl
each_blocks es (cs ∷ css) a =
    flat_map-append (λ (c : Place). block_at es c.0 c.1) (places cs) (flat_map places css) ∙ ap (λ (l : List PlannedBlock). l ++ blocks_at es (flat_map places css)) (fresh_blocks es cs a.0) ∙ ap (λ (l : List PlannedBlock). blocks_all cs ++ l) (each_blocks es css a.1)

-- what was told after the join, of which nothing is recorded
abbrev pub joined_slack : (fs : List Ask) (bs ns : List ClientTold) (drawn : List (List ℕ)) (ls : List (List LaneStep)) → AreJoined fs bs ns drawn ls → Slack → Slack
joined_slack fs bs ns drawn ls j sl = record sl {
  heard = heard_join (lanes_entries j.keys j.hidden) j.said sl.heard;
  hidden = lanes_entries j.keys j.hidden;
  late = lanes_late (map places_of ls) (no_late bs);
  pending = [];
  calm = calm_after sl.calm ls;
}

-- and after the Fetched events: what the lanes served goes from the hidden entries to the blocks that are to be offered, and
-- what they have hidden stays
abbrev pub fetched_slack : (fs : List Ask) (bs ns : List ClientTold) (drawn : List (List ℕ)) (ls : List (List LaneStep)) → AreJoined fs bs ns drawn ls → Slack → Slack
fetched_slack fs bs ns drawn ls j sl = record sl {
  heard = heard_join (lanes_entries j.keys j.hidden) j.said sl.heard;
  hidden = j.hidden;
  late = lanes_late (map places_of ls) (no_late bs);
  pending = [];
  due = sl.due + count_by has_one (flat_map blocks_all j.keys);
  calm = calm_after sl.calm ls;
}

-- no more lanes than connections
pub late_places : (bs : List ClientTold) (ls : List (List LaneStep)) → length ls ≤ length bs → length (map places_of ls) ≤ length (no_late bs)
late_places bs ls h = let u = places_length ls in let v = late_length bs in omega (arith, u, v, h)

-- connections past the lanes are as before
past_drew : (k : ℕ) (fs : List Ask) (bs ns : List ClientTold) (ds : List (List ℕ)) (es : List (List LaneStep)) → EachDrew fs bs ns ds es → length es ≤ k → drop k ns ≡ drop k bs
past_drew k fs bs ns [] [] e h = ap (λ (l : List ClientTold). drop k l) e
past_drew k fs bs ns [] (ss ∷ es) e h = absurd e
past_drew k fs bs ns (d ∷ ds) [] e h = absurd e
past_drew k fs [] ns (d ∷ ds) (ss ∷ es) e h = absurd e
past_drew k fs (b ∷ bs) [] (d ∷ ds) (ss ∷ es) e h = absurd e
past_drew zero fs (b ∷ bs) (n ∷ ns) (d ∷ ds) (ss ∷ es) e h = absurd (omega (arith, h))
past_drew (suc k) fs (b ∷ bs) (n ∷ ns) (d ∷ ds) (ss ∷ es) e h = past_drew k fs bs ns ds es e.1 (omega (arith, h))

-- the counts of the first connections, whose lanes had no failed call, are as before
drew_unfailed : (fs : List Ask) (i : ℕ) (bs ms ns : List ClientTold) (ds : List (List ℕ)) (es : List (List LaneStep)) → EachDrew fs ms ns ds es → FirstUnfailed i bs ms → FirstUnfailed (calm_after i es) bs ns
drew_unfailed fs zero bs ms ns ds es e h = tt
drew_unfailed fs (suc i) bs ms ns [] [] e h = subst (λ (l : List ClientTold). FirstUnfailed (suc i) bs l) (sym e) h
drew_unfailed fs (suc i) bs ms ns [] (ss ∷ es) e h = absurd e
drew_unfailed fs (suc i) bs ms ns (d ∷ ds) [] e h = absurd e
drew_unfailed fs (suc i) bs [] ns (d ∷ ds) (ss ∷ es) e h = absurd e
drew_unfailed fs (suc i) bs (m ∷ ms) [] (d ∷ ds) (ss ∷ es) e h = absurd e
drew_unfailed fs (suc i) [] (m ∷ ms) (n ∷ ns) (d ∷ ds) (ss ∷ es) e h = none (cond (any_faults ss) 0 (suc (calm_after i es)))
  where
    none : (k : ℕ) → FirstUnfailed k [] (n ∷ ns)
    none zero = tt
    none (suc k) = tt
drew_unfailed fs (suc i) (b ∷ bs) (m ∷ ms) (n ∷ ns) (d ∷ ds) (ss ∷ es) e h = by (any_faults ss) refl (drew_unfailed fs i bs ms ns ds es e.1 h.1)
  where
    by : (v : Bool) → any_faults ss ≡ v → FirstUnfailed (calm_after i es) bs ns → FirstUnfailed (cond v 0 (suc (calm_after i es))) (b ∷ bs) (n ∷ ns)
    by true f rest = tt
    by false f rest = (e.0.did.unfailed f ∙ h.0, rest)

-- the lanes came back
pub round_joined : (g : Setup) (b at : RunTold) (es : List Event) (sl : Slack) (fs : List Ask) (ns : List ClientTold) (ls : List (List LaneStep)) → (d : DrewApart fs at.clients ns ls)
    → ((p k : ℕ) → count_by (fetches p k) es + count_by (is_pair p k) (map asks_for fs) ≤ 1) → All (IsFreshAsk es) fs
    → ((x : MerkleHash) (r : ChunkRange) → count_by (is_one x r) (blocks_all (map key_of fs)) ≤ count_by (is_one x r) sl.pending)
    → sl.hidden ≡ no_hidden b.clients → sl.late ≡ no_late b.clients → EachMayExpire g.tries 0 (es ++ lane_events fetched_on 0 ls) (map places_of ls) → Ties g b at es None sl
    → Ties g b (record at { clients = ns }) es None (joined_slack fs at.clients ns d.drawn ls (are_joined fs at.clients ns d.drawn ls d.each) sl)
round_joined g b at es sl fs ns ls d new fresh waits none_h none_l may t =
    let j = are_joined fs at.clients ns d.drawn ls d.each in
    let served = lanes_entries j.keys j.hidden in
    let late = lanes_late (map places_of ls) (no_late at.clients) in
    let heard = heard_join served j.said sl.heard in
    let planned : All (IsPlannedEntry es) (map asks_for fs) = All-map (IsPlannedEntry es) asks_for fs (All-weaker (IsFreshAsk es) (λ a. IsPlannedEntry es (asks_for a)) (λ a h. ((key_of a).2, h.planned, refl)) fs fresh) in
    let entries = joined_among (IsPlannedEntry es) fs at.clients ns d.drawn ls d.each planned in
    let lates = lates_among (IsPlannedEntry es) fs at.clients ns d.drawn ls d.each planned in
    let once : (p k : ℕ) → count_by (fetches p k) es + count_by (is_pair p k) (all_of served) ≤ 1 = λ p k. let a = served_among fs at.clients ns ls d p k in let u = new p k in omega (arith, a, u) in
    let tried = round_tries g.tries es fs at.clients ns ls d may (λ p k. let o = t.tried.at_most p k in omega (arith, o)) in
    let among : (x : MerkleHash) (r : ChunkRange) → count_by (is_served x r) (all_of served) + count_by (is_served x r) (all_lates j.said) ≤ count_by (is_one x r) sl.pending = λ x r. let a = requests_among fs at.clients ns ls d x r in let w = waits x r in omega (arith, a, w) in
    tie_join g b at es sl ns served j.said late j.joined once tried entries lates (past_drew most_lanes fs at.clients ns d.drawn ls d.each d.few) none_h none_l among (calm_after sl.calm ls) (drew_unfailed fs sl.calm b.clients at.clients ns d.drawn ls d.each t.unfailed) t

-- ---- what was served has passed

ask_of_all : (P : Ask → Type 0) (fs : List Ask) (i : ℕ) (a : Ask) → slice_get fs i ≡ Some a → All P fs → P a
ask_of_all P [] i a h all = absurd (cc)
ask_of_all P (x ∷ fs) zero a h all = let same : x ≡ a = cc in subst P same (All-head P x fs all)
ask_of_all P (x ∷ fs) (suc i) a h all = ask_of_all P fs i a h (All-tail P x fs all)

some_passed : (b : XorbBlock) (p k : ℕ) (d : XorbBlockData) (xs : List Exchange) → SomeOne (λ x. IsServedData x p k b d) xs → SomeOne (PassedIn b p k) xs
some_passed b p k d [] h = absurd h
some_passed b p k d (x ∷ xs) h = ⊎_elim (λ (s : IsServedData x p k b d). inl (record { given = s.given; answer = s.answer; passes = s.passes })) (λ (s : SomeOne (λ y. IsServedData y p k b d) xs). inr (some_passed b p k d xs s)) h

step_passed : (g : Setup) (xs ys : List Exchange) (bs : List ClientTold) (fs : List Ask) (p k : ℕ) (d : XorbBlockData) → EachGrew xs ys → All (IsPlanAsk g xs) fs → IsHeardData fs bs ys p k d → HasPassed g ys p k
step_passed g xs ys bs fs p k d w all h =
    let a = ask_of_all (IsPlanAsk g xs) fs h.number h.ask h.at all in
    record {
      place = block_more g xs ys w a.place;
      own = h.plan ∙ a.own;
      index = h.index ∙ a.index;
      bytes = subst (λ (b : XorbBlock). SomeOne (PassedIn b p k) ys) (sym a.block) (some_passed h.ask.block p k d ys h.served);
    }

abbrev AtPassed : Setup → List Exchange → Place → Type 0
AtPassed g xs c = HasPassed g xs c.0 c.1

lane_passed : (g : Setup) (xs ys : List Exchange) (bs : List ClientTold) (fs : List Ask) (ss : List LaneStep) → EachGrew xs ys → All (IsPlanAsk g xs) fs → All (IsHeardStep fs bs ys) ss → All (AtPassed g ys) (got_of ss)
lane_passed g xs ys bs fs [] w all h = All-nil (AtPassed g ys)
lane_passed g xs ys bs fs (step.Served p k d ∷ ss) w all h =
    let H : LaneStep → Type 0 = IsHeardStep fs bs ys in
    All-cons (AtPassed g ys) (p, k) (got_of ss) (step_passed g xs ys bs fs p k d w all (All-head H (step.Served p k d) ss h)) (lane_passed g xs ys bs fs ss w all (All-tail H (step.Served p k d) ss h))
lane_passed g xs ys bs fs (step.Expired p k ∷ ss) w all h = lane_passed g xs ys bs fs ss w all (All-tail (IsHeardStep fs bs ys) (step.Expired p k) ss h)
lane_passed g xs ys bs fs (step.Failed e ∷ ss) w all h = lane_passed g xs ys bs fs ss w all (All-tail (IsHeardStep fs bs ys) (step.Failed e) ss h)

lanes_passed : (g : Setup) (xs ys : List Exchange) (bs : List ClientTold) (fs : List Ask) (ls : List (List LaneStep)) → EachGrew xs ys → All (IsPlanAsk g xs) fs → All (λ ss. All (IsHeardStep fs bs ys) ss) ls → All (AtPassed g ys) (flat_map got_of ls)
lanes_passed g xs ys bs fs [] w all h = All-nil (AtPassed g ys)
lanes_passed g xs ys bs fs (ss ∷ ls) w all h =
    let H : List LaneStep → Type 0 = λ ss. All (IsHeardStep fs bs ys) ss in
    All-append (AtPassed g ys) (got_of ss) (flat_map got_of ls) (lane_passed g xs ys bs fs ss w all (All-head H ss ls h)) (lanes_passed g xs ys bs fs ls w all (All-tail H ss ls h))

keys_passed : (g : Setup) (xs : List Exchange) (cs : List Key) → All (AtPassed g xs) (places cs) → ArePassed g xs cs
keys_passed g xs [] a = tt
keys_passed g xs (c ∷ cs) a = (All-head (AtPassed g xs) (c.0, c.1) (places cs) a, keys_passed g xs cs (All-tail (AtPassed g xs) (c.0, c.1) (places cs) a))

each_passed : (g : Setup) (xs : List Exchange) (css : List (List Key)) → All (AtPassed g xs) (flat_map places css) → EachPassed g xs css
each_passed g xs [] a = tt
each_passed g xs (cs ∷ css) a = (keys_passed g xs cs (all_left (AtPassed g xs) (places cs) (flat_map places css) a), each_passed g xs css (all_right (AtPassed g xs) (places cs) (flat_map places css) a))

for_blocks : (g : Setup) (xs : List Exchange) (fs : List Ask) → All (IsPlanAsk g xs) fs → All IsFor fs
for_blocks g xs fs all = All-weaker (IsPlanAsk g xs) IsFor (λ a h. h.for_block) fs all

-- of a round's fetches of blocks of the very plans of their numbers
pub round_passed : (g : Setup) (b at : RunTold) (es : List Event) (sl : Slack) (fs : List Ask) (ns : List ClientTold) (ls : List (List LaneStep)) → (d : DrewApart fs at.clients ns ls) → All (IsPlanAsk g sl.heard) fs → Ties g b at es None sl
    → (let j = are_joined fs at.clients ns d.drawn ls d.each in EachPassed g (heard_join (lanes_entries j.keys j.hidden) j.said sl.heard) j.keys)
round_passed g b at es sl fs ns ls d all t =
    let j = are_joined fs at.clients ns d.drawn ls d.each in
    let served = lanes_entries j.keys j.hidden in
    let heard = heard_join served j.said sl.heard in
    let match = join_match b.clients at.clients ns served j.said (lanes_late (map places_of ls) (no_late at.clients)) sl.heard j.joined t.heard in
    let found = j.found sl.heard (are_paired b.clients at.clients sl.heard t.heard) (for_blocks g sl.heard fs all) in
    each_passed g heard j.keys (subst (λ (cs : List Place). All (AtPassed g heard) cs) j.got (lanes_passed g sl.heard heard at.clients fs ls (grew_join served j.said sl.heard match) all found))

-- and their Fetched events are recorded
pub round_fetched : (g : Setup) (b at : RunTold) (es : List Event) (sl : Slack) (fs : List Ask) (ns : List ClientTold) (ls : List (List LaneStep)) → (d : DrewApart fs at.clients ns ls)
    → ((p k : ℕ) → count_by (fetches p k) es + count_by (is_pair p k) (map asks_for fs) ≤ 1) → All (IsFreshAsk es) fs
    → ((x : MerkleHash) (r : ChunkRange) → count_by (is_one x r) (blocks_all (map key_of fs)) ≤ count_by (is_one x r) sl.pending)
    → sl.hidden ≡ no_hidden b.clients → sl.late ≡ no_late b.clients → All (IsPlanAsk g sl.heard) fs → EachMayExpire g.tries 0 (es ++ lane_events fetched_on 0 ls) (map places_of ls) → (0 < length fs → 1 ≤ sl.spare) → Ties g b at es None sl
    → InRound g b (record at { clients = ns }) es (lane_events fetched_on 0 ls) sl.spare (λ i. record (fetched_slack fs at.clients ns d.drawn ls (are_joined fs at.clients ns d.drawn ls d.each) sl) { spare = i })
round_fetched g b at es sl fs ns ls d new fresh waits none_h none_l all may asked t =
    let j = are_joined fs at.clients ns d.drawn ls d.each in
    let now : RunTold = record at { clients = ns } in
    let first = round_joined g b at es sl fs ns ls d new fresh waits none_h none_l may t in
    let fetched = tie_lanes_fetched g b now es (joined_slack fs at.clients ns d.drawn ls j sl) 0 j.keys j.hidden [] (j.fresh es fresh) j.lanes refl refl (round_passed g b at es sl fs ns ls d all t)
    (λ h. asked_may fetched_on (λ m. refl) es sl.spare fs at.clients ns d.drawn ls d.each asked (some_same (lanes_fetched 0 j.keys) (lane_events fetched_on 0 ls) (j.fetched 0) h)) first in
    subst (λ (l : List Event). InRound g b now es l sl.spare (λ i. record (fetched_slack fs at.clients ns d.drawn ls j sl) { spare = i })) (j.fetched 0) fetched

-- all that the lanes did is recorded
pub round_tied : (g : Setup) (b at : RunTold) (es : List Event) (sl : Slack) (fs : List Ask) (ns : List ClientTold) (ls : List (List LaneStep)) → DrewApart fs at.clients ns ls
    → ((p k : ℕ) → count_by (fetches p k) es + count_by (is_pair p k) (map asks_for fs) ≤ 1) → All (IsFreshAsk es) fs
    → ((x : MerkleHash) (r : ChunkRange) → count_by (is_one x r) (blocks_all (map key_of fs)) ≤ count_by (is_one x r) sl.pending)
    → sl.hidden ≡ no_hidden b.clients → sl.late ≡ no_late b.clients → All (IsPlanAsk g sl.heard) fs
    → EachMayExpire g.tries 0 (es ++ lane_events fetched_on 0 ls) (map places_of ls) → (0 < length fs → 1 ≤ sl.spare)
    → Ties g b at es None sl
    → (to : Slack) × Ties g b (record at { clients = ns }) ((es ++ lane_events fetched_on 0 ls) ++ lane_events expired_on 0 ls) None to × AfterRound b.clients at.clients es fs ls sl to
round_tied g b at es sl fs ns ls d new fresh waits none_h none_l asks may asked t =
    let j = are_joined fs at.clients ns d.drawn ls d.each in
    let now : RunTold = record at { clients = ns } in
    let got = es ++ lane_events fetched_on 0 ls in
    let from = round_fetched g b at es sl fs ns ls d new fresh waits none_h none_l asks may asked t in
    let all = tie_lanes_expired g b now got (record (fetched_slack fs at.clients ns d.drawn ls j sl) { spare = from.left }) 0 (map places_of ls) (no_late at.clients) [] may (late_places at.clients ls j.ends) refl refl
    (λ h. from.goes (asked_may expired_on (λ m. refl) es sl.spare fs at.clients ns d.drawn ls d.each asked (some_same (lanes_expired 0 (map places_of ls)) (lane_events expired_on 0 ls) (j.expired 0) h))) from.ties in
    let to : Slack = record sl { heard = heard_join (lanes_entries j.keys j.hidden) j.said sl.heard; hidden = j.hidden; late = no_late b.clients; pending = []; due = sl.due + count_by has_one (flat_map blocks_all j.keys); spare = 0; calm = calm_after sl.calm ls } in
    let after_all = subst (λ (l : List Event). Ties g b now (got ++ l) None (record to { late = no_late at.clients; spare = all.left })) (j.expired 0) all.ties in
    let named = tie_rest g b now (got ++ lane_events expired_on 0 ls) (record to { late = no_late at.clients; spare = all.left }) [] 0 (λ x r. omega arith) (omega arith) after_all in
    let tied = subst (λ (l : List (List Place)). Ties g b now (got ++ lane_events expired_on 0 ls) None (record to { late = l })) (same_late es 0 b.clients at.clients sl.hidden sl.late t.served.lanes) named in
    let keys = j.fresh es fresh in
    let match = join_match b.clients at.clients ns (lanes_entries j.keys j.hidden) j.said (lanes_late (map places_of ls) (no_late at.clients)) sl.heard j.joined t.heard in
    let after : AfterRound b.clients at.clients es fs ls sl to = record {
      grew = grew_join (lanes_entries j.keys j.hidden) j.said sl.heard match;
      step = step_join (lanes_entries j.keys j.hidden) j.said sl.heard match;
      found = j.found sl.heard (are_paired b.clients at.clients sl.heard t.heard);
      failed = each_failed fs at.clients ns d.drawn ls sl.heard d.each (are_paired b.clients at.clients sl.heard t.heard);
      hides = each_hides fs at.clients ns d.drawn ls d.each;
      looks = refl;
      none = λ h. j.none h ∙ same_hidden es 0 b.clients at.clients sl.hidden sl.late t.served.lanes;
      late = refl;
      pending = refl;
      due = ap (λ (l : List PlannedBlock). sl.due + count_by has_one l) (sym (each_blocks es j.keys keys) ∙ sym (ap (λ (l : List Place). blocks_at es l) j.got));
      spare = refl;
      lost = refl;
      ahead = refl;
      calm = refl;
    } in
    (to, tied, after)
