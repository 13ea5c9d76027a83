-- The log of a stream: its queries adjoin, so the number of each is its place.
use Rattle.std.proofs.Common.{◌≡◌, ℕ, zero, suc, ◌+◌, ◌-◌, ◌≤◌, ◌<◌, Bool, true, cond, List, [], ◌∷◌, ◌++◌, length, refl, sym, subst, ◌∙◌, ap, arith, Some, length-append}
use Rattle.std.specs.Prelude.{map, nat_le, slice_get}
use Rattle.std.proofs.lemmas.Bool.{le-leb}
use Rattle.std.proofs.lemmas.List.{length-map, map-append}
use Rattle.xet_base.specs.declared.cas_types.FileRange.{FileRange}
use Rattle.xet_base.specs.declared.merklehash.MerkleHash.{MerkleHash}
use Rattle.xet_outside.specs.Answers.{plans_in}
use Rattle.xet_outside.specs.Told.{Query}
use Rattle.xet_outside.specs.declared.plan.PlanAnswer.{PlanAnswer}
use Rattle.xet_outside.specs.declared.said.Said.TheVariants as said
use Rattle.xet_outside.proofs.CallerLemmas.{count_by-cons, plans_both}
use Rattle.xet_events.specs.declared.event.Event.{Event}
use Rattle.xet_events.specs.declared.event.Event.TheVariants.{Planned, Admit, Fetched, Cached, Expired, Refreshed, Wrote, Fail, Cancel}
use Rattle.xet_events.specs.Events.{is_plan, plan_count}
use Rattle.xet_history.specs.Queries.{CutFrom}
use Rattle.xet_history.specs.TrueHistory.{queries, queries_in}
use Rattle.xet_ties.specs.InCall.{Exchange}
use Rattle.xet_ties.specs.Saids.{AnswerOf, cut_places}
use Rattle.xet_ties.specs.Setup.{Setup}

-- ---- as many plans as queries

one_query : (e : Event) → length (queries_in e) ≡ cond (is_plan e) 1 0
one_query (Planned plan query terms blocks) = refl
one_query (Admit limit) = refl
one_query (Fetched lane plan block) = refl
one_query (Cached plan block) = refl
one_query (Expired lane plan block) = refl
one_query (Refreshed plan) = refl
one_query (Wrote taken) = refl
one_query (Fail error) = refl
one_query Cancel = refl

pub plans_asked : (es : List Event) → plan_count es ≡ length (queries es)
plans_asked [] = refl
plans_asked (e ∷ es) =
    let next = plans_asked es in
    let one = one_query e in
    let both = length-append (queries_in e) (queries es) in
    count_by-cons is_plan e es ∙ omega (arith, next, one, both)

-- ---- places

abbrev pub asks : MerkleHash → List FileRange → List Query
asks f qs = map (λ q. (f, q)) qs

-- of queries that adjoin each one has its own place
own_place : (f : MerkleHash) (k e lo end bound i : ℕ) (qs : List FileRange) → CutFrom lo end bound qs → e ≤ lo
    → i < length qs → slice_get (cut_places k e (asks f qs)) i ≡ Some (k + i)
own_place f k e lo end bound i [] c h w = absurd (omega (arith, w))
own_place f k e lo end bound zero (q ∷ qs) c h w =
    let start = c.0 in
    let on : nat_le e q.start ≡ true = le-leb e q.start (omega (arith, start, h)) in
    ap (λ (v : Bool). slice_get (cond v (k ∷ cut_places (k + 1) q.end (asks f qs)) (cut_places (k + 1) e (asks f qs)))
    zero) on ∙ ap (λ (n : ℕ). Some n) (omega arith)
own_place f k e lo end bound (suc i) (q ∷ qs) c h w =
    let start = c.0 in
    let on : nat_le e q.start ≡ true = le-leb e q.start (omega (arith, start, h)) in
    ap (λ (v : Bool). slice_get (cond v (k ∷ cut_places (k + 1) q.end (asks f qs)) (cut_places (k + 1) e (asks f qs)))
    (suc i)) on
    ∙ own_place f (k + 1) q.end q.end end bound i qs c.4 (omega arith) (omega (arith, w))
    ∙ ap (λ (n : ℕ). Some n) (omega arith)

pub last_at : {A : Type 0} (xs : List A) (x : A) → slice_get (xs ++ x ∷ []) (length xs) ≡ Some x
last_at [] x = refl
last_at (y ∷ ys) x = last_at ys x

-- the answer to one more query of the cut is that of the next plan's number
pub logged : (g : Setup) (es : List Event) (x : Exchange) (q : FileRange) (a : PlanAnswer)
    → CutFrom g.range.start g.range.end (g.greatest + g.least) (queries es ++ q ∷ [])
    → x.asked ≡ asks g.file (queries es) → length x.asked ≡ length (plans_in x.said)
    → AnswerOf (record { asked = x.asked ++ (g.file, q) ∷ []; served = x.served; said = x.said ++ said.Plan a ∷ [] })
    (plan_count es + 1) (g.file, q) a
logged g es x q a cuts is same =
    let qs = queries es in
    let n = length qs in
    let all : x.asked ++ (g.file, q) ∷ [] ≡ asks g.file (qs ++ q ∷ []) =
    ap (λ (l : List Query). l ++ (g.file, q) ∷ []) is ∙ sym (map-append (λ r. (g.file, r)) qs (q ∷ [])) in
    let count : length x.asked ≡ n = ap length is ∙ length-map qs (λ r. (g.file, r)) in
    let more = length-append qs (q ∷ []) in
    let own = own_place g.file 0 0 g.range.start g.range.end (g.greatest + g.least) n (qs ++ q ∷ []) cuts
    (omega arith) (omega (arith, more)) in
    let plans = plans_asked es in
    let number : (plan_count es + 1) - 1 ≡ n = omega (arith, plans) in
    record {
      place = length x.asked;
      some = omega arith;
      at = ap (λ (l : List Query). slice_get (cut_places 0 0 l) ((plan_count es + 1) - 1)) all
          ∙ ap (λ (i : ℕ). slice_get (cut_places 0 0 (asks g.file (qs ++ q ∷ []))) i) number ∙ own
          ∙ ap (λ (i : ℕ). Some i) (omega (arith, count));
      query = last_at x.asked (g.file, q);
      answer = subst (λ (l : List PlanAnswer). slice_get l (length x.asked) ≡ Some a)
          (sym (plans_both x.said (said.Plan a ∷ [])))
          (subst (λ (i : ℕ). slice_get (plans_in x.said ++ a ∷ []) i ≡ Some a) (sym same)
          (last_at (plans_in x.said) a));
    }
