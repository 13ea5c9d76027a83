-- The ties after a step of the connections.
use Rattle.std.proofs.Common.{◌≡◌, ℕ, zero, suc, ◌+◌, ◌≤◌, List, [], ◌∷◌, ◌++◌, refl, sym, subst, ◌∙◌, ap, arith, append_assoc, Some, None, Option}
use Rattle.std.specs.Prelude.{IsSome, count_by, drop, option_map, All}
use Rattle.std.proofs.lemmas.List.{append-nil}
use Rattle.xet_base.specs.Store.{Store, file_of}
use Rattle.xet_outside.specs.Answers.{late_in}
use Rattle.xet_outside.specs.Told.{ClientTold, Query}
use Rattle.xet_outside.specs.declared.served.Served.{Served}
use Rattle.xet_events.specs.declared.event.Event.{Event}
use Rattle.xet_events.specs.declared.event.Event.TheVariants.{Planned}
use Rattle.xet_events.specs.declared.event.PlannedBlock.{PlannedBlock}
use Rattle.xet_events.specs.declared.event.PlannedTerm.{PlannedTerm}
use Rattle.xet_events.specs.Events.{expires, plan_count, planned}
use Rattle.xet_history.specs.TrueHistory.{IsTrueEvent}
use Rattle.xet_base.specs.declared.cas_types.FileRange.{FileRange}
use Rattle.xet_base.specs.declared.cas_types.ChunkRange.{ChunkRange}
use Rattle.xet_base.specs.declared.merklehash.MerkleHash.{MerkleHash}
use Rattle.xet_ties.specs.History.{IsNumberedNext, IsOneCached, IsRenewed, asked_by, served_by, fetches, IsWithin}
use Rattle.xet_ties.specs.Moves.{EachJoined, FirstQuery, JoinStep, QueryStep, no_hidden, no_late, heard_first, heard_join}
use Rattle.xet_ties.specs.Setup.{AllTell, ClientGoesOn, IsOver, RunTold, Setup, download_of, most_lanes}
use Rattle.xet_ties.specs.Ties.{EachUnasked, FirstUnfailed, NoneLate, all_late, all_of, at_place, is_one, is_pair, is_served, EachLane, FirstAsked, FirstStarts, IsLane, Slack, Ties, IsLost, IsPlannedEntry, IsNextQuery, EachServed, lates_of, IsLooked}
use Rattle.xet_ties.proofs.Lanes.{served_same}
use Rattle.xet_ties.specs.InCall.{Place}
use Rattle.xet_ties.proofs.Gains.{gained_more}
use Rattle.xet_ties.proofs.Lates.{expired_join, expired_query, expired_same, joined_late, late_join, late_push, late_query, none_late}
use Rattle.xet_ties.proofs.Pushes.{first_push, limited_same, looked_push, offered_push, polled_push, recorded_same, taken_push, tried_push, true_push, cuts_push}
use Rattle.xet_ties.proofs.Numbers.{heard_joined, heard_push, heard_query}
use Rattle.xet_ties.proofs.Telling.{count-append, each-push}
use Rattle.std.proofs.lemmas.List.Elements.{All-push}
use Rattle.xet_outside.specs.declared.said.Said.{Said}
use Rattle.xet_ties.specs.Saids.{EventPassed, FirstRenewed}
use Rattle.xet_ties.proofs.CacheMoves.{taken_heard}
use Rattle.xet_ties.proofs.Renewed.{renewed_join, renewed_query}
use Rattle.xet_ties.proofs.Heard.{FirstEvent, exchange_join, exchange_query, grew_first, grew_join, join_match, passed_more, said_join, said_planned, said_query}
use Rattle.xet_ties.proofs.EarlyEnds.{ends_push}
use Rattle.xet_ties.proofs.Requests.{all_lates, lates_join, lates_query}
use Rattle.xet_ties.proofs.HeardServed.{heard_served_same, heard_served_join, heard_served_query}

-- ---- queries of the first connection

pub goes_then : (b m n : ClientTold) → ClientGoesOn b m → ClientGoesOn m n → ClientGoesOn b n
goes_then b m n p q = record {
  store = q.store ∙ p.store;
  link = q.link ∙ p.link;
  faults = let x = p.faults in let y = q.faults in omega (arith, x, y);
  expiries = let x = p.expiries in let y = q.expiries in omega (arith, x, y);
}

lane_query : (es : List Event) (l : ℕ) (b m n : ClientTold) (h : List Served) (k : List Place) (qs : List Query) (all : List Said) → QueryStep m n qs all → IsLane es l b m h k → IsLane es l b n h k
lane_query es l b m n h k qs all s t = record {
  goes_on = goes_then b m n t.goes_on s.goes_on;
  served = s.served ∙ t.served;
  expired = let x = t.expired in let y = s.goes_on.expiries in omega (arith, x, y);
}

lanes_query : (es : List Event) (q : List Query) (all : List Said) (bs ms ns : List ClientTold) (hs : List (List Served)) (ks : List (List Place)) → FirstQuery ms ns q all → EachLane es 0 bs ms hs ks → EachLane es 0 bs ns hs ks
lanes_query es q all [] [] ns hs ks f t = absurd f
lanes_query es q all (b ∷ bs) [] ns hs ks f t = absurd f
lanes_query es q all bs (m ∷ ms) [] hs ks f t = absurd f
lanes_query es q all [] (m ∷ ms) (n ∷ ns) hs ks f t = absurd t
lanes_query es q all (b ∷ bs) (m ∷ ms) (n ∷ ns) [] ks f t = absurd t
lanes_query es q all (b ∷ bs) (m ∷ ms) (n ∷ ns) (h ∷ hs) [] f t = absurd t
lanes_query es q all (b ∷ bs) (m ∷ ms) (n ∷ ns) (h ∷ hs) (k ∷ ks) f t =
    (lane_query es 0 b m n h k q all f.0 t.0, subst (λ (l : List ClientTold). EachLane es 1 bs l hs ks) (sym f.1) t.1)

asked_query : (f : MerkleHash) (es : List Event) (q : List Query) (all : List Said) (lost : List Query) (bs ms ns : List ClientTold) → FirstQuery ms ns q all → FirstAsked f es lost bs ms → FirstAsked f es (lost ++ q) bs ns
asked_query f es q all lost bs [] ns s t = absurd s
asked_query f es q all lost bs (m ∷ ms) [] s t = absurd s
asked_query f es q all lost [] (m ∷ ms) (n ∷ ns) s t = absurd t
asked_query f es q all lost (b ∷ bs) (m ∷ ms) (n ∷ ns) s t = (
  record { asked = s.0.asked ∙ ap (λ (o : Option (List Query)). option_map (λ xs. xs ++ q) o) t.0.asked ∙ twice b.asked },
  subst (λ (l : List ClientTold). EachUnasked bs l) (sym s.1) t.1,
)
  where
    twice : (o : Option (List Query)) → option_map (λ xs. xs ++ q) (option_map (λ ys. ys ++ (asked_by f es ++ lost)) o) ≡ option_map (λ ys. ys ++ (asked_by f es ++ (lost ++ q))) o
    twice None = refl
    twice (Some ys) = ap (λ (z : List Query). Some z) (append_assoc ys (asked_by f es ++ lost) (q) ∙ ap (λ (z : List Query). ys ++ z) (append_assoc (asked_by f es) lost (q)))

first_late : (ms ns : List ClientTold) (qs : List Query) (all : List Said) → FirstQuery ms ns qs all → late_in all ≡ []
first_late [] ns qs all f = absurd f
first_late (m ∷ ms) [] qs all f = absurd f
first_late (m ∷ ms) (n ∷ ns) qs all f = f.0.late

-- the connections past the lanes are as before
past_query : (bs ms ns : List ClientTold) (qs : List Query) (all : List Said) → FirstQuery ms ns qs all → drop most_lanes ms ≡ drop most_lanes bs → drop most_lanes ns ≡ drop most_lanes bs
past_query bs [] ns qs all f h = absurd f
past_query bs (m ∷ ms) [] qs all f h = absurd f
past_query bs (m ∷ ms) (n ∷ ns) qs all f h = ap (λ (l : List ClientTold). drop 65535 l) f.1 ∙ h

-- an answer of the first connection leaves the counts
pub first_unfailed : (i : ℕ) (bs : List ClientTold) (c n : ClientTold) (cs : List ClientTold) → n.faults ≡ c.faults → FirstUnfailed i bs (c ∷ cs) → FirstUnfailed i bs (n ∷ cs)
first_unfailed zero bs c n cs same h = tt
first_unfailed (suc i) [] c n cs same h = tt
first_unfailed (suc i) (b ∷ bs) c n cs same h = (same ∙ h.0, h.1)

-- the first connection was asked and said something, and no event says it yet
pub tie_query : (g : Setup) (b n : RunTold) (es : List Event) (sl : Slack) (to : List ClientTold) (qs : List Query) (all : List Said) → FirstQuery n.clients to qs all → IsLost g es (sl.lost ++ qs) → (calm : ℕ) → FirstUnfailed calm b.clients to → Ties g b n es None sl
    → Ties g b (record n { clients = to }) es None (record sl { heard = heard_first qs all sl.heard; lost = sl.lost ++ qs; calm = calm })
tie_query g b n es sl to qs all s l calm unfailed t = record {
  heard = exchange_query b.clients n.clients to sl.heard qs all s t.heard;
  true_of = t.true_of;
  cuts = t.cuts;
  within = t.within;
  starts = t.starts;
  ends = t.ends;
  numbers = t.numbers;
  stored = t.stored;
  served = record { lanes = lanes_query es qs all b.clients n.clients to sl.hidden sl.late s t.served.lanes; once = t.served.once; planned = t.served.planned; on_lanes = t.served.on_lanes; past = past_query b.clients n.clients to qs all s t.served.past };
  expired = expired_query es qs all sl.heard sl.late (first_late n.clients to qs all s) t.expired;
  late_planned = late_query es qs all sl.heard (first_late n.clients to qs all s) t.late_planned;
  heard_served = heard_served_query es qs all sl.heard sl.hidden t.heard_served;
  unfailed = unfailed;
  asked = asked_query g.file es qs all sl.lost b.clients n.clients to s t.asked;
  heard_asked = heard_query g.file es qs all sl.lost sl.heard t.heard_asked;
  lost = l;
  said = said_query g es qs all sl.heard t.said;
  tried = t.tried;
  renewed = t.renewed;
  refreshes = renewed_query g qs all sl.lost sl.heard t.refreshes;
  passed = passed_more g sl.heard (heard_first qs all sl.heard) es (grew_first qs all sl.heard) t.passed;
  one_cached = t.one_cached;
  looked = subst (λ (l : List Served). IsLooked es sl.pending (all_of sl.hidden ++ l) sl.looks b.clients b.cache n.cache) (sym (lates_query qs all sl.heard (first_late n.clients to qs all s))) t.looked;
  looked_entries = t.looked_entries;
  gained = gained_more g sl.heard (heard_first qs all sl.heard) b.cache n.cache (grew_first qs all sl.heard) t.gained;
  offered = t.offered;
  polled = t.polled;
  limited = t.limited;
  taken = taken_heard g es sl.heard (heard_first qs all sl.heard) sl.looks sl.ahead b.clients b.cache b.sink n.sink (grew_first qs all sl.heard) t.taken;
  recorded = t.recorded;
}

-- the plan of a query is recorded
pub tie_planned : (g : Setup) (b n : RunTold) (es : List Event) (sl : Slack) (spare plan : ℕ) (query : FileRange) (terms : List PlannedTerm) (blocks : List PlannedBlock)
    → sl.lost ≡ (g.file, query) ∷ [] → sl.spare ≡ spare + 1 → IsNextQuery g es query → IsWithin (Planned plan query terms blocks) → FirstStarts g.range.start (planned (es ++ Planned plan query terms blocks ∷ [])) → plan ≡ plan_count es + 1 → FirstEvent g sl.heard (Planned plan query terms blocks)
    → ((s : Store) → IsOver s b.clients → IsTrueEvent s g.file g.multirange (Planned plan query terms blocks))
    → ((s : Store) → AllTell s b.clients → IsSome (file_of s g.file)) → (FirstRenewed g sl.lost sl.heard → FirstRenewed g [] sl.heard)
    → Ties g b n es None sl → Ties g b n (es ++ Planned plan query terms blocks ∷ []) None (record sl { lost = []; spare = spare })
tie_planned g b n es sl spare plan query terms blocks lost polls next within starts number said honest stored renewed t =
    let e : Event = Planned plan query terms blocks in
    record {
      heard = t.heard;
      true_of = λ s o. true_push s (download_of g) es e next.cuts.from (honest s o) (t.true_of s o);
      cuts = cuts_push g es e query refl next.cuts;
      within = All-push IsWithin es e t.within within;
      starts = starts;
      ends = ends_push es e next.goes_on;
      numbers = each-push IsNumberedNext es e t.numbers number;
      stored = λ s tell k. stored s tell;
      served = served_same es e sl.hidden sl.late b.clients n.clients (λ l. refl) (λ l. refl) (λ p k. refl) (λ m. tt) t.served;
      expired = expired_same es e 0 sl.heard sl.late (λ l w. refl) t.expired;
      late_planned = late_push es e sl.heard t.late_planned;
      heard_served = heard_served_same es e 0 sl.heard sl.hidden (λ l w. refl) t.heard_served;
      unfailed = t.unfailed;
      asked = first_push g.file es e sl.lost [] b.clients n.clients lost t.asked;
      heard_asked = heard_push g.file es e sl.lost [] sl.heard lost t.heard_asked;
      lost = tt;
      said = said_planned g es e sl.heard said t.said;
      tried = tried_push g.tries es e sl.late (λ p k. let a = t.tried.at_most p k in omega (arith, a));
      renewed = each-push IsRenewed es e t.renewed tt;
      refreshes = renewed t.refreshes;
      passed = All-push (EventPassed g sl.heard) es e t.passed tt;
      one_cached = each-push IsOneCached es e t.one_cached tt;
      looked = looked_push es e sl.pending sl.pending (all_of sl.hidden ++ lates_of sl.heard) (all_of sl.hidden ++ lates_of sl.heard) sl.looks b.clients b.cache n.cache refl (λ x r. omega arith) t.looked;
      looked_entries = t.looked_entries;
      gained = t.gained;
      offered = offered_push es e sl.due sl.due b.cache n.cache (omega arith) t.offered;
      polled = polled_push es e sl.spare spare b.signal n.signal (omega (arith, polls)) t.polled;
      limited = limited_same es e b.limits n.limits refl t.limited;
      taken = taken_push g es e sl.heard sl.looks sl.ahead sl.ahead b.clients b.cache b.sink n.sink (omega arith) t.taken;
      recorded = recorded_same es e refl t.recorded;
    }

-- ---- joins

lane_join : (es : List Event) (l : ℕ) (b m n : ClientTold) (h : List Served) (a : List Said) (k : List Place) → JoinStep m n h a k → IsLane es l b m [] [] → IsLane es l b n h k
lane_join es l b m n h a k s t = record {
  goes_on = goes_then b m n t.goes_on s.goes_on;
  served = s.pairs.serves ∙ ap (λ (o : Option (List Served)). option_map (λ xs. xs ++ h) o) t.served ∙ twice b.served;
  expired = let x = t.expired in let y = s.expired in omega (arith, x, y);
}
  where
    twice : (o : Option (List Served)) → option_map (λ xs. xs ++ h) (option_map (λ xs. xs ++ (served_by l es ++ [])) o) ≡ option_map (λ xs. xs ++ (served_by l es ++ h)) o
    twice None = refl
    twice (Some ys) = ap (λ (z : List Served). Some z) (append_assoc ys (served_by l es ++ []) h ∙ ap (λ (z : List Served). ys ++ (z ++ h)) (append-nil (served_by l es)))

lanes_join : (es : List Event) (l : ℕ) (bs ms ns : List ClientTold) (hs : List (List Served)) (alls : List (List Said)) (ks : List (List Place)) → EachJoined ms ns hs alls ks → EachLane es l bs ms (no_hidden bs) (no_late bs) → EachLane es l bs ns hs ks
lanes_join es l [] [] [] [] [] [] j t = tt
lanes_join es l (b ∷ bs) (m ∷ ms) (n ∷ ns) (h ∷ hs) (a ∷ alls) (k ∷ ks) j t = (lane_join es l b m n h a k j.0 t.0, lanes_join es (l + 1) bs ms ns hs alls ks j.1 t.1)
lanes_join es l [] [] [] [] [] (k ∷ ks) j t = absurd j
lanes_join es l [] [] [] [] (a ∷ alls) ks j t = absurd j
lanes_join es l [] [] [] (h ∷ hs) alls ks j t = absurd j
lanes_join es l [] [] (n ∷ ns) hs alls ks j t = absurd j
lanes_join es l [] (m ∷ ms) ns hs alls ks j t = absurd t
lanes_join es l (b ∷ bs) [] ns hs alls ks j t = absurd t
lanes_join es l (b ∷ bs) (m ∷ ms) [] hs alls ks j t = absurd j
lanes_join es l (b ∷ bs) (m ∷ ms) (n ∷ ns) [] alls ks j t = absurd j
lanes_join es l (b ∷ bs) (m ∷ ms) (n ∷ ns) (h ∷ hs) [] ks j t = absurd j
lanes_join es l (b ∷ bs) (m ∷ ms) (n ∷ ns) (h ∷ hs) (a ∷ alls) [] j t = absurd j

unasked_join : (bs ms ns : List ClientTold) (hs : List (List Served)) (alls : List (List Said)) (ks : List (List Place)) → EachJoined ms ns hs alls ks → EachUnasked bs ms → EachUnasked bs ns
unasked_join [] [] [] hs alls ks j t = tt
unasked_join [] [] (n ∷ ns) hs alls ks j t = absurd j
unasked_join [] (m ∷ ms) ns hs alls ks j t = absurd t
unasked_join (b ∷ bs) [] ns hs alls ks j t = absurd t
unasked_join (b ∷ bs) (m ∷ ms) [] hs alls ks j t = absurd j
unasked_join (b ∷ bs) (m ∷ ms) (n ∷ ns) [] alls ks j t = absurd j
unasked_join (b ∷ bs) (m ∷ ms) (n ∷ ns) (h ∷ hs) [] ks j t = absurd j
unasked_join (b ∷ bs) (m ∷ ms) (n ∷ ns) (h ∷ hs) (a ∷ alls) [] j t = absurd j
unasked_join (b ∷ bs) (m ∷ ms) (n ∷ ns) (h ∷ hs) (a ∷ alls) (k ∷ ks) j t = (j.0.asked ∙ t.0, unasked_join bs ms ns hs alls ks j.1 t.1)

asked_join : (f : MerkleHash) (es : List Event) (lost : List Query) (bs ms ns : List ClientTold) (hs : List (List Served)) (alls : List (List Said)) (ks : List (List Place)) → EachJoined ms ns hs alls ks → FirstAsked f es lost bs ms → FirstAsked f es lost bs ns
asked_join f es lost [] ms ns hs alls ks j t = absurd t
asked_join f es lost (b ∷ bs) [] ns hs alls ks j t = absurd t
asked_join f es lost (b ∷ bs) (m ∷ ms) [] hs alls ks j t = absurd j
asked_join f es lost (b ∷ bs) (m ∷ ms) (n ∷ ns) [] alls ks j t = absurd j
asked_join f es lost (b ∷ bs) (m ∷ ms) (n ∷ ns) (h ∷ hs) [] ks j t = absurd j
asked_join f es lost (b ∷ bs) (m ∷ ms) (n ∷ ns) (h ∷ hs) (a ∷ alls) [] j t = absurd j
asked_join f es lost (b ∷ bs) (m ∷ ms) (n ∷ ns) (h ∷ hs) (a ∷ alls) (k ∷ ks) j t = (record { asked = j.0.asked ∙ t.0.asked }, unasked_join bs ms ns hs alls ks j.1 t.1)

-- the lanes came back from a join
pub tie_join : (g : Setup) (b n : RunTold) (es : List Event) (sl : Slack) (to : List ClientTold) (hs : List (List Served)) (alls : List (List Said)) (ks : List (List Place)) → EachJoined n.clients to hs alls ks
    → ((p k : ℕ) → count_by (fetches p k) es + count_by (is_pair p k) (all_of hs) ≤ 1)
    → ((p k : ℕ) → count_by (expires p k) es + count_by (at_place p k) (all_late ks) ≤ g.tries) → All (IsPlannedEntry es) (all_of hs) → All (λ all. All (IsPlannedEntry es) (late_in all)) alls → drop most_lanes to ≡ drop most_lanes n.clients → sl.hidden ≡ no_hidden b.clients → sl.late ≡ no_late b.clients
    → ((x : MerkleHash) (r : ChunkRange) → count_by (is_served x r) (all_of hs) + count_by (is_served x r) (all_lates alls) ≤ count_by (is_one x r) sl.pending) → (calm : ℕ) → FirstUnfailed calm b.clients to → Ties g b n es None sl
    → Ties g b (record n { clients = to }) es None (record sl { heard = heard_join hs alls sl.heard; hidden = hs; late = ks; pending = []; calm = calm })
tie_join g b n es sl to hs alls ks j once tried planned lates past no_h no_k waits calm unfailed t =
    let match = join_match b.clients n.clients to hs alls ks sl.heard j t.heard in
    record {
      heard = exchange_join b.clients n.clients to hs alls ks sl.heard j t.heard;
      true_of = t.true_of;
      cuts = t.cuts;
      within = t.within;
      starts = t.starts;
      ends = t.ends;
      numbers = t.numbers;
      stored = t.stored;
      served = record {
        lanes = lanes_join es 0 b.clients n.clients to hs alls ks j (subst (λ (l : List (List Place)). EachLane es 0 b.clients n.clients (no_hidden b.clients) l) no_k (subst (λ (l : List (List Served)). EachLane es 0 b.clients n.clients l sl.late) no_h t.served.lanes));
        once = once;
        planned = planned;
        on_lanes = t.served.on_lanes;
        past = past ∙ t.served.past;
      };
      expired = expired_join es 0 hs alls ks sl.late sl.heard match (joined_late n.clients to hs alls ks j) (subst (λ (l : List (List Place)). NoneLate l) (sym no_k) (none_late b.clients)) t.expired;
      late_planned = late_join es hs alls sl.heard match lates t.late_planned;
      heard_served = heard_served_join es 0 hs alls b.clients sl.heard match (subst (λ (l : List (List Served)). EachServed es 0 sl.heard l) no_h t.heard_served);
      unfailed = unfailed;
      asked = asked_join g.file es sl.lost b.clients n.clients to hs alls ks j t.asked;
      heard_asked = heard_joined g.file es sl.lost hs alls sl.heard match t.heard_asked;
      lost = t.lost;
      said = said_join g es hs alls sl.heard match t.said;
      tried = record { at_most = tried; spent = t.tried.spent };
      renewed = t.renewed;
      refreshes = renewed_join g hs alls sl.lost sl.heard match t.refreshes;
      passed = passed_more g sl.heard (heard_join hs alls sl.heard) es (grew_join hs alls sl.heard match) t.passed;
      one_cached = t.one_cached;
      looked = record {
        looked = t.looked.looked;
        cover = λ x r.
            let c = t.looked.cover x r in
            let w = waits x r in
            let l = lates_join (is_served x r) hs alls sl.heard match in
            let was = count-append (is_served x r) (all_of sl.hidden) (lates_of sl.heard) in
            let now = count-append (is_served x r) (all_of hs) (lates_of (heard_join hs alls sl.heard)) in
            let c0 = c.kept in
            record { kept = omega (arith, c0, w, l, was, now); cached = c.cached; honest = λ s o. let c2 = c.honest s o in omega (arith, c2, w, l, was, now) };
      };
      looked_entries = t.looked_entries;
      gained = gained_more g sl.heard (heard_join hs alls sl.heard) b.cache n.cache (grew_join hs alls sl.heard match) t.gained;
      offered = t.offered;
      polled = t.polled;
      limited = t.limited;
      taken = taken_heard g es sl.heard (heard_join hs alls sl.heard) sl.looks sl.ahead b.clients b.cache b.sink n.sink (grew_join hs alls sl.heard match) t.taken;
      recorded = t.recorded;
    }
