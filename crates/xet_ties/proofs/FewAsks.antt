-- The first connection's queries: those that cut the range, and no more others than expired answers.
use Rattle.std.proofs.Common.{◌≡◌, ℕ, ◌+◌, ◌≤◌, true, cond, List, [], ◌∷◌, ◌++◌, length, refl, sym, subst, arith, inl, length-append, ⊎_elim, Some, None, Option}
use Rattle.std.specs.Prelude.{All, count_by, map, option_to_list}
use Rattle.std.proofs.lemmas.List.{append-nil, length-map}
use Rattle.xet_base.specs.Lists.{first_some}
use Rattle.xet_base.specs.declared.cas_types.FileRange.{FileRange}
use Rattle.xet_base.specs.declared.merklehash.MerkleHash.{MerkleHash}
use Rattle.xet_outside.specs.Told.{ClientTold, Query}
use Rattle.xet_outside.proofs.CallerLemmas.{count_by-cons}
use Rattle.xet_events.specs.declared.event.Event.{Event}
use Rattle.xet_events.specs.declared.event.Event.TheVariants.{Planned, Admit, Fetched, Cached, Expired, Refreshed, Wrote, Fail, Cancel}
use Rattle.xet_events.specs.Allowed.{IsAllowedHistory}
use Rattle.xet_events.specs.Events.{is_stale}
use Rattle.xet_history.specs.TrueHistory.{queries, queries_in}
use Rattle.xet_ties.specs.Causes.{expired_answers}
use Rattle.xet_ties.specs.History.{IsWithin, asked_by, asked_in, is_expiry, is_refresh, range_at, range_in, telling}
use Rattle.xet_ties.specs.InCall.{Exchange}
use Rattle.xet_ties.specs.Cuts.{AskedCut}
use Rattle.xet_ties.specs.LegalWords.{AsksFew, FirstAsksFew}
use Rattle.xet_ties.specs.Setup.{RunTold, Setup}
use Rattle.xet_ties.specs.Ties.{CutsRange, IsLost, Slack, Stop, Ties, IsNextQuery, HeardAsked}
use Rattle.xet_ties.specs.Moves.{no_exchange}
use Rattle.xet_ties.proofs.Asks.{AreIn, asked_cut, none_in}
use Rattle.xet_ties.proofs.Expiries.{all_expired}
use Rattle.xet_ties.proofs.Renewals.{refreshes_few, stale_few}
use Rattle.xet_ties.proofs.EarlyEnds.{cuts_none}

-- ---- how many queries the events say

one_range : (o : Option FileRange) → length (option_to_list o) ≤ 1
one_range None = omega arith
one_range (Some r) = omega arith

event_few : (f : MerkleHash) (before : List Event) (e : Event) → length (asked_in f before e) ≤ length (queries_in e) + cond (is_refresh e) 1 0
event_few f before (Planned plan query terms blocks) = omega arith
event_few f before (Refreshed plan) =
    let n = length-map (range_at before plan) (λ (r : FileRange). let q : Query = (f, r) in q) in
    let o = one_range (first_some (map (range_in plan) before)) in
    omega (arith, n, o)
event_few f before (Admit limit) = omega arith
event_few f before (Fetched lane plan block) = omega arith
event_few f before (Cached plan block) = omega arith
event_few f before (Expired lane plan block) = omega arith
event_few f before (Wrote taken) = omega arith
event_few f before (Fail error) = omega arith
event_few f before Cancel = omega arith

asked_few : (f : MerkleHash) (before es : List Event) → length (telling (asked_in f) before es) ≤ length (queries es) + count_by is_refresh es
asked_few f before [] = omega arith
asked_few f before (e ∷ es) =
    let r = asked_few f (before ++ e ∷ []) es in
    let one = event_few f before e in
    let c = count_by-cons is_refresh e es in
    let a = length-append (asked_in f before e) (telling (asked_in f) (before ++ e ∷ []) es) in
    let q = length-append (queries_in e) (queries es) in
    omega (arith, r, one, c, a, q)

-- ---- with one that no event says

few_of : (g : Setup) (es : List Event) (tail : List Query) (cut : List FileRange) (more : ℕ) (xs : List Exchange)
    → All IsWithin es → CutsRange g (queries es ++ cut)
    → ((now : List FileRange) → AreIn g.file es now → AskedCut now tail cut)
    → count_by is_refresh es + more ≤ expired_answers xs → length tail ≤ length cut + more
    → AsksFew g xs (asked_by g.file es ++ tail)
few_of g es tail cut more xs within cuts rest few short =
    let q = asked_few g.file [] es in
    let a = length-append (asked_by g.file es) tail in
    let c = length-append (queries es) cut in
    record {
      cut = queries es ++ cut;
      cuts = cuts;
      asked = asked_cut g.file [] es [] tail cut (none_in g.file) within rest;
      few = omega (arith, q, a, c, few, short);
    }

-- a lost query of a stale plan has an expired answer of its own
asks_few : (g : Setup) (es : List Event) (lost : List Query) (xs : List Exchange) → IsAllowedHistory es
    → All IsWithin es → CutsRange g (queries es) → IsLost g es lost → count_by is_expiry es ≤ expired_answers xs
    → AsksFew g xs (asked_by g.file es ++ lost)
asks_few g es [] xs a within cuts l few =
    let r = refreshes_few es a in
    let now = subst (λ (qs : List FileRange). CutsRange g qs) (sym (append-nil (queries es))) cuts in
    few_of g es [] [] 0 xs within now (λ now h. refl) (omega (arith, r, few)) (omega arith)
asks_few g es (q ∷ []) xs a within cuts l few =
    ⊎_elim
    (λ (c : IsNextQuery g es q.1).
    let r = refreshes_few es a in
    few_of g es (q ∷ []) (q.1 ∷ []) 0 xs within c.cuts (λ now h. inl (refl, refl)) (omega (arith, r, few))
    (omega arith))
    (λ (s : (p : ℕ) × (range_at es p ≡ q.1 ∷ []) × (is_stale es p ≡ true)).
    let r = stale_few es s.0 a s.2 in
    let now = subst (λ (qs : List FileRange). CutsRange g qs) (sym (append-nil (queries es))) cuts in
    few_of g es (q ∷ []) [] 1 xs within now (λ now h. (h s.0 q.1 s.1, refl)) (omega (arith, r, few)) (omega arith))
    l.1
asks_few g es (q ∷ r ∷ qs) xs a within cuts l few = absurd l

-- ---- by what was heard

first_few : (g : Setup) (es : List Event) (lost : List Query) (xs : List Exchange) → HeardAsked g.file es lost xs → AsksFew g xs (asked_by g.file es ++ lost) → FirstAsksFew g xs
first_few g es lost [] h few = tt
first_few g es lost (x ∷ xs) h few = subst (λ (q : List Query). AsksFew g (x ∷ xs) q) (sym h) few

pub run_few : (g : Setup) (b n : RunTold) (es : List Event) (stop : Stop) (sl : Slack) → IsAllowedHistory es → Ties g b n es stop sl → FirstAsksFew g sl.heard
run_few g b n es stop sl a t =
    first_few g es sl.lost sl.heard t.heard_asked
    (asks_few g es sl.lost sl.heard a t.within t.cuts t.lost (all_expired g b n es stop sl t))

-- nothing was asked
pub none_few : (g : Setup) (bs : List ClientTold) → FirstAsksFew g (no_exchange bs)
none_few g [] = tt
none_few g (b ∷ bs) = record { cut = []; cuts = cuts_none g; asked = refl; few = omega arith }
