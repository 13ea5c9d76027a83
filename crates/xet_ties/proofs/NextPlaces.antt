-- The next query of the cut has the next number, and its answer is that number's.
use Rattle.std.proofs.Common.{◌≡◌, ℕ, ◌+◌, ◌-◌, ◌<◌, ◌≤◌, Bool, true, false, cond, List, [], ◌∷◌, ◌++◌, length, refl, sym, subst, ◌∙◌, ap, arith, ⊎_elim, Some}
use Rattle.std.specs.Prelude.{All, map, nat_le, slice_get}
use Rattle.std.proofs.lemmas.Bool.{le-leb, leb-true}
use Rattle.std.proofs.lemmas.List.{append-nil, length-append}
use Rattle.std.proofs.lemmas.List.Elements.{All-cons, All-contains, All-nil, All-weaker}
use Rattle.xet_base.specs.declared.cas_types.FileRange.{FileRange}
use Rattle.xet_outside.specs.Answers.{plans_in}
use Rattle.xet_outside.specs.Told.{Query}
use Rattle.xet_outside.specs.declared.plan.PlanAnswer.{PlanAnswer}
use Rattle.xet_outside.specs.declared.said.Said.TheVariants as said
use Rattle.xet_outside.proofs.CallerLemmas.{count_by-cons, plans_both}
use Rattle.xet_events.specs.declared.event.Event.{Event}
use Rattle.xet_events.specs.declared.event.Event.TheVariants.{Planned, Admit, Fetched, Cached, Expired, Refreshed, Wrote, Fail, Cancel}
use Rattle.xet_events.specs.Events.{is_plan, last_of, plan_count}
use Rattle.xet_history.specs.Queries.{CutFrom}
use Rattle.xet_history.specs.TrueHistory.{queries, queries_in}
use Rattle.xet_ties.specs.Cuts.{AskedCut, LiesInSome}
use Rattle.xet_ties.specs.History.{IsWithin, asked_by}
use Rattle.xet_ties.specs.InCall.{Exchange}
use Rattle.xet_ties.specs.Saids.{AnswerOf, InStep, IsCutAnswer, cut_places}
use Rattle.xet_ties.specs.Setup.{RunTold, Setup}
use Rattle.xet_ties.specs.Moves.{heard_first}
use Rattle.xet_ties.specs.Ties.{CutsRange, HeardAsked, Slack, Stop, Ties, IsNextQuery}
use Rattle.xet_ties.proofs.Asks.{asked_cut, none_in}
use Rattle.xet_ties.proofs.CutPlaces.{cut_end, next_at, places_append}

-- ---- as many plans as queries

one_query : (e : Event) → length (queries_in e) ≡ cond (is_plan e) 1 0
one_query (Planned plan query terms blocks) = refl
one_query (Admit limit) = refl
one_query (Fetched lane plan block) = refl
one_query (Cached plan block) = refl
one_query (Expired lane plan block) = refl
one_query (Refreshed plan) = refl
one_query (Wrote taken) = refl
one_query (Fail error) = refl
one_query Cancel = refl

pub query_count : (es : List Event) → plan_count es ≡ length (queries es)
query_count [] = refl
query_count (e ∷ es) =
    let next = query_count es in
    let one = one_query e in
    let both = length-append (queries_in e) (queries es) in
    count_by-cons is_plan e es ∙ omega (arith, next, one, both)

-- ---- the places of a cut

abbrev ends_at : ℕ → List FileRange → ℕ
ends_at from cut = last_of from (map (λ q. q.end) cut)

-- of queries that cut a range from a place on, and others that start where one of those does: as many places, and they
-- end no later than the cut
record PlacesOf (e from : ℕ) (qs : List Query) (cut : List FileRange) : Type 0 where
  pub count : (p : ℕ) → length (cut_places p e qs) ≡ length cut
  pub ends : cut_end e qs ≤ ends_at from cut

not_le : (a b : ℕ) → b < a → nat_le a b ≡ false
not_le a b h = go (nat_le a b) refl
  where
    go : (v : Bool) → nat_le a b ≡ v → v ≡ false
    go false e = refl
    go true e = absurd (let l = leb-true a b e in omega (arith, h, l))

-- one that starts before their end has no place
behind : (e from : ℕ) (q : Query) (qs : List Query) (cut : List FileRange) → q.1.start < e
    → PlacesOf e from qs cut → PlacesOf e from (q ∷ qs) cut
behind e from q qs cut h r =
    let off : nat_le e q.1.start ≡ false = not_le e q.1.start h in
    record {
      count = λ p.
          ap (λ (v : Bool). length (cond v (p ∷ cut_places (p + 1) q.1.end qs) (cut_places (p + 1) e qs))) off
          ∙ r.count (p + 1);
      ends = subst (λ (v : Bool). cond v (cut_end q.1.end qs) (cut_end e qs) ≤ ends_at from cut) (sym off) r.ends;
    }

-- the next one of the cut has
ahead : (e from : ℕ) (q : Query) (c : FileRange) (qs : List Query) (cut : List FileRange) → e ≤ q.1.start
    → q.1.end ≡ c.end → PlacesOf c.end c.end qs cut → PlacesOf e from (q ∷ qs) (c ∷ cut)
ahead e from q c qs cut h end r =
    let on : nat_le e q.1.start ≡ true = le-leb e q.1.start h in
    record {
      count = λ p.
          let n = r.count (p + 1) in
          let m = ap (λ (i : ℕ). length (cut_places (p + 1) i qs)) end in
          ap (λ (v : Bool). length (cond v (p ∷ cut_places (p + 1) q.1.end qs) (cut_places (p + 1) e qs))) on
          ∙ omega (arith, n, m);
      ends =
          subst (λ (v : Bool). cond v (cut_end q.1.end qs) (cut_end e qs) ≤ ends_at c.end cut) (sym on)
          (subst (λ (i : ℕ). cut_end i qs ≤ ends_at c.end cut) (sym end) r.ends);
    }

abbrev Below : ℕ → FileRange → Type 0
Below e p = p.start < e

lies_behind : (e : ℕ) (before : List FileRange) (q : Query) → All (Below e) before → LiesInSome before q
    → q.1.start < e
lies_behind e before q below l =
    let s = All-contains (Below e) before l.0 below l.1 in let x = l.2 in omega (arith, s, x)

places_of : (e from end bound : ℕ) (before : List FileRange) (qs : List Query) (cut : List FileRange)
    → All (Below e) before → e ≤ from → CutFrom from end bound cut → AskedCut before qs cut → PlacesOf e from qs cut
places_of e from end bound before [] cut below le c a =
    subst (λ (l : List FileRange). PlacesOf e from [] l) (sym a) (record { count = λ p. refl; ends = le })
places_of e from end bound before (q ∷ qs) [] below le c a =
    behind e from q qs [] (lies_behind e before q below a.0) (places_of e from end bound before qs [] below le c a.1)
places_of e from end bound before (q ∷ qs) (k ∷ cut) below le c a =
    ⊎_elim
    (λ (h : (q.1 ≡ k) × AskedCut (k ∷ before) qs cut).
    let at : q.1.start ≡ k.start = ap (λ (r : FileRange). r.start) h.0 in
    let first = c.0 in
    let some = c.1 in
    let weaker : (p : FileRange) → Below e p → Below k.end p = (λ p b. omega (arith, b, le, first, some)) in
    let later : All (Below k.end) (k ∷ before) =
    All-cons (Below k.end) k before some (All-weaker (Below e) (Below k.end) weaker before below) in
    ahead e from q k qs cut (omega (arith, at, first, le)) (ap (λ (r : FileRange). r.end) h.0)
    (places_of k.end k.end end bound (k ∷ before) qs cut later (omega arith) c.4 h.1))
    (λ (h : LiesInSome before q × AskedCut before qs (k ∷ cut)).
    behind e from q qs (k ∷ cut) (lies_behind e before q below h.0)
    (places_of e from end bound before qs (k ∷ cut) below le c h.1))
    a

-- the last query of a cut starts where those before it end
cut_next : (place end bound : ℕ) (qs : List FileRange) (q : FileRange) → CutFrom place end bound (qs ++ q ∷ [])
    → q.start ≡ ends_at place qs
cut_next place end bound [] q c = c.0
cut_next place end bound (r ∷ qs) q c = cut_next r.end end bound qs q c.4

-- ---- the next query

pub next_number : (g : Setup) (es : List Event) (q : FileRange) (asked : List Query) → All IsWithin es
    → CutsRange g (queries es) → CutsRange g (queries es ++ q ∷ []) → asked ≡ asked_by g.file es
    → slice_get (cut_places 0 0 (asked ++ (g.file, q) ∷ [])) ((plan_count es + 1) - 1) ≡ Some (length asked)
next_number g es q asked within cuts next is =
    let f = g.file in
    let all : AskedCut [] (asked_by f es ++ []) (queries es ++ []) =
    asked_cut f [] es [] [] [] (none_in f) within (λ now h. refl) in
    let cut : AskedCut [] asked (queries es) =
    subst (λ (l : List FileRange). AskedCut [] asked l) (append-nil (queries es))
    (subst (λ (l : List Query). AskedCut [] l (queries es ++ [])) (append-nil (asked_by f es) ∙ sym is) all) in
    let bound = g.greatest + g.least in
    let below = All-nil (Below 0) in
    let r = places_of 0 g.range.start g.range.end bound [] asked (queries es) below (omega arith) cuts.from cut in
    let start = cut_next g.range.start g.range.end (g.greatest + g.least) (queries es) q next.from in
    let ends = r.ends in
    let on : nat_le (cut_end 0 asked) q.start ≡ true = le-leb (cut_end 0 asked) q.start (omega (arith, ends, start)) in
    let z : 0 + length asked ≡ length asked = omega arith in
    let places : cut_places 0 0 (asked ++ (f, q) ∷ []) ≡ cut_places 0 0 asked ++ length asked ∷ [] =
    (places_append 0 0 asked ((f, q) ∷ [])
    ∙ ap (λ (v : Bool). cut_places 0 0 asked ++ cond v ((0 + length asked) ∷ []) []) on
    ∙ ap (λ (i : ℕ). cut_places 0 0 asked ++ i ∷ []) z) in
    let count = r.count 0 in
    let plans = query_count es in
    let number : (plan_count es + 1) - 1 ≡ length (cut_places 0 0 asked) = omega (arith, count, plans) in
    ap (λ (l : List ℕ). slice_get l ((plan_count es + 1) - 1)) places
    ∙ ap (λ (i : ℕ). slice_get (cut_places 0 0 asked ++ length asked ∷ []) i) number
    ∙ next_at (cut_places 0 0 asked) (length asked)

-- the answer to one more query of the cut is that of the next number
pub next_answer : (g : Setup) (es : List Event) (x : Exchange) (q : FileRange) (a : PlanAnswer) → All IsWithin es
    → CutsRange g (queries es) → CutsRange g (queries es ++ q ∷ []) → x.asked ≡ asked_by g.file es
    → length x.asked ≡ length (plans_in x.said)
    → AnswerOf (record { asked = x.asked ++ (g.file, q) ∷ []; served = x.served; said = x.said ++ said.Plan a ∷ [] })
    (plan_count es + 1) (g.file, q) a
next_answer g es x q a within cuts next is same = record {
  place = length x.asked;
  some = omega arith;
  at = next_number g es q x.asked within cuts next is;
  query = next_at x.asked (g.file, q);
  answer =
      subst (λ (l : List PlanAnswer). slice_get l (length x.asked) ≡ Some a)
      (sym (plans_both x.said (said.Plan a ∷ [])))
      (subst (λ (i : ℕ). slice_get (plans_in x.said ++ a ∷ []) i ≡ Some a) (sym same) (next_at (plans_in x.said) a));
}

-- so where all that was asked is recorded
pub asked_own : (g : Setup) (b n : RunTold) (es : List Event) (stop : Stop) (sl : Slack) (q : FileRange)
    (a : PlanAnswer)
    → Ties g b n es stop sl → sl.lost ≡ [] → InStep sl.heard → IsNextQuery g es q
    → IsCutAnswer g.file (heard_first ((g.file, q) ∷ []) (said.Plan a ∷ []) sl.heard) (plan_count es + 1) q a
asked_own g b n es stop sl q a t none step next = by sl.heard step t.heard_asked
  where
    by : (xs : List Exchange) → InStep xs → HeardAsked g.file es sl.lost xs
        → IsCutAnswer g.file (heard_first ((g.file, q) ∷ []) (said.Plan a ∷ []) xs) (plan_count es + 1) q a
    by [] s h = absurd s
    by (x ∷ xs) s h =
        let all = h ∙ ap (λ (l : List Query). asked_by g.file es ++ l) none ∙ append-nil (asked_by g.file es) in
        next_answer g es x q a t.within t.cuts next.cuts all s
