-- A plan's number is its place among the queries, and what was heard is that these were asked.
use Rattle.std.proofs.Common.{◌≡◌, ℕ, zero, suc, ◌+◌, ◌≤◌, ◌==◌, Bool, true, false, cond, List, [], ◌∷◌, ◌++◌, refl, sym, subst, ◌∙◌, ap, arith, append_assoc, Some, None, Option}
use Rattle.std.specs.Prelude.{All, map, slice_get}
use Rattle.std.proofs.lemmas.Bool.{eqb-true}
use Rattle.std.proofs.lemmas.List.Elements.{All-head, All-tail}
use Rattle.xet_base.specs.declared.cas_types.FileRange.{FileRange}
use Rattle.xet_base.specs.declared.merklehash.MerkleHash.{MerkleHash}
use Rattle.xet_base.specs.Lists.{first_some}
use Rattle.xet_outside.specs.Told.{Query}
use Rattle.xet_outside.specs.declared.said.Said.{Said}
use Rattle.xet_outside.specs.declared.served.Served.{Served}
use Rattle.xet_events.specs.declared.event.Event.{Event}
use Rattle.xet_events.specs.declared.event.Event.TheVariants.{Planned, Admit, Fetched, Cached, Expired, Refreshed, Wrote, Fail, Cancel}
use Rattle.xet_events.specs.declared.event.PlannedBlock.{PlannedBlock}
use Rattle.xet_events.specs.declared.event.PlannedTerm.{PlannedTerm}
use Rattle.xet_events.specs.Events.{is_plan, plan_count}
use Rattle.xet_history.specs.Queries.{CutFrom}
use Rattle.xet_history.specs.TrueHistory.{queries}
use Rattle.xet_ties.specs.History.{EachAfter, IsNumberedNext, asked_by, asked_in, blocks_in}
use Rattle.xet_ties.specs.InCall.{Exchange}
use Rattle.xet_ties.specs.Moves.{heard_first, heard_join}
use Rattle.xet_ties.specs.Ties.{HeardAsked}
use Rattle.xet_ties.proofs.Heard.{Match}
use Rattle.xet_ties.proofs.Telling.{count-more, count-same, telling-push}

-- ---- one more event

-- an event that plans nothing numbers nothing
pub next_same : (es : List Event) (e : Event) → is_plan e ≡ false → IsNumberedNext es e
next_same es (Planned plan query terms blocks) h = absurd (cc)
next_same es (Admit limit) h = tt
next_same es (Fetched lane plan block) h = tt
next_same es (Cached plan block) h = tt
next_same es (Expired lane plan block) h = tt
next_same es (Refreshed plan) h = tt
next_same es (Wrote taken) h = tt
next_same es (Fail error) h = tt
next_same es Cancel h = tt

-- ---- what was heard

pub heard_push : (f : MerkleHash) (es : List Event) (e : Event) (lost rest : List Query) (xs : List Exchange) → lost ≡ asked_in f es e ++ rest → HeardAsked f es lost xs → HeardAsked f (es ++ e ∷ []) rest xs
heard_push f es e lost rest [] is t = absurd t
heard_push f es e lost rest (x ∷ xs) is t =
    t ∙ ap (λ (l : List Query). asked_by f es ++ l) is ∙ sym (append_assoc (asked_by f es) (asked_in f es e) rest) ∙ ap (λ (l : List Query). l ++ rest) (sym (telling-push (asked_in f) es e))

pub heard_query : (f : MerkleHash) (es : List Event) (qs : List Query) (all : List Said) (lost : List Query) (xs : List Exchange) → HeardAsked f es lost xs → HeardAsked f es (lost ++ qs) (heard_first qs all xs)
heard_query f es qs all lost [] t = absurd t
heard_query f es qs all lost (x ∷ xs) t = ap (λ (l : List Query). l ++ qs) t ∙ append_assoc (asked_by f es) lost qs

pub heard_joined : (f : MerkleHash) (es : List Event) (lost : List Query) (hs : List (List Served)) (alls : List (List Said)) (xs : List Exchange) → Match hs alls xs → HeardAsked f es lost xs → HeardAsked f es lost (heard_join hs alls xs)
heard_joined f es lost hs alls [] m t = absurd t
heard_joined f es lost [] [] (x ∷ xs) m t = absurd m
heard_joined f es lost [] (a ∷ alls) (x ∷ xs) m t = absurd m
heard_joined f es lost (h ∷ hs) [] (x ∷ xs) m t = absurd m
heard_joined f es lost (h ∷ hs) (a ∷ alls) (x ∷ xs) m t = t

-- ---- a plan by its number

-- the Planned event of a plan of this number, after so many others, with what is read from it
pub record PlanAt {A : Type 0} (of : FileRange → List PlannedTerm → List PlannedBlock → A) (P : Event → Type 0) (n p : ℕ) (es : List Event) (y : A) : Type 0 where
  pub query : FileRange
  pub terms : List PlannedTerm
  pub blocks : List PlannedBlock
  pub is : of query terms blocks ≡ y
  pub holds : P (Planned p query terms blocks)
  pub place : ℕ
  pub at : slice_get (queries es) place ≡ Some query
  pub number : p ≡ n + (place + 1)

-- what is read from the Planned events of this number
pub record Reads {A : Type 0} (of : FileRange → List PlannedTerm → List PlannedBlock → A) (p : ℕ) (F : Event → Option A) : Type 0 where
  pub planned : (plan : ℕ) (q : FileRange) (ts : List PlannedTerm) (bs : List PlannedBlock) → F (Planned plan q ts bs) ≡ cond (plan == p) (Some (of q ts bs)) None
  pub none : (e : Event) → is_plan e ≡ false → F e ≡ None

-- past an event that plans nothing
past : {A : Type 0} (of : FileRange → List PlannedTerm → List PlannedBlock → A) (P : Event → Type 0) (p : ℕ) (before es : List Event) (e : Event) (y : A) → is_plan e ≡ false → queries (e ∷ es) ≡ queries es
    → PlanAt of P (plan_count (before ++ e ∷ [])) p es y → PlanAt of P (plan_count before) p (e ∷ es) y
past of P p before es e y off same r = record {
  query = r.query;
  terms = r.terms;
  blocks = r.blocks;
  is = r.is;
  holds = r.holds;
  place = r.place;
  at = ap (λ (l : List FileRange). slice_get l r.place) same ∙ r.at;
  number = let n = r.number in let c = count-same is_plan before e off in omega (arith, n, c);
}

plan_step : {A : Type 0} (of : FileRange → List PlannedTerm → List PlannedBlock → A) (P : Event → Type 0) (p : ℕ) (F : Event → Option A) → Reads of p F → (before es : List Event) (y : A) (e : Event) → IsNumberedNext before e → P e
    → first_some (F e ∷ map F es) ≡ Some y → (first_some (map F es) ≡ Some y → PlanAt of P (plan_count (before ++ e ∷ [])) p es y) → PlanAt of P (plan_count before) p (e ∷ es) y
plan_step {A = A} of P p F reads before es y (Planned plan q ts bs) next holds h more = by (plan == p) refl
  where
    by : (v : Bool) → (plan == p) ≡ v → PlanAt of P (plan_count before) p (Planned plan q ts bs ∷ es) y
    by true e =
        let same : Some (of q ts bs) ≡ Some y = sym (ap (λ (o : Option A). first_some (o ∷ map F es)) (reads.planned plan q ts bs ∙ ap (λ (v : Bool). cond v (Some (of q ts bs)) None) e)) ∙ h in
        let number : plan ≡ p = eqb-true plan p e in
        record {
          query = q;
          terms = ts;
          blocks = bs;
          is = cc;
          holds = subst (λ (i : ℕ). P (Planned i q ts bs)) number holds;
          place = 0;
          at = refl;
          number = let n = next in omega (arith, n, number);
        }
    by false e =
        let r = more (sym (ap (λ (o : Option A). first_some (o ∷ map F es)) (reads.planned plan q ts bs ∙ ap (λ (v : Bool). cond v (Some (of q ts bs)) None) e)) ∙ h) in
        record {
          query = r.query;
          terms = r.terms;
          blocks = r.blocks;
          is = r.is;
          holds = r.holds;
          place = suc r.place;
          at = r.at;
          number = let n = r.number in let c = count-more is_plan before (Planned plan q ts bs) refl in omega (arith, n, c);
        }
plan_step {A = A} of P p F reads before es y (Admit limit) next holds h more = past of P p before es (Admit limit) y refl refl (more (sym (ap (λ (o : Option A). first_some (o ∷ map F es)) (reads.none (Admit limit) refl)) ∙ h))
plan_step {A = A} of P p F reads before es y (Fetched lane plan block) next holds h more = past of P p before es (Fetched lane plan block) y refl refl (more (sym (ap (λ (o : Option A). first_some (o ∷ map F es)) (reads.none (Fetched lane plan block) refl)) ∙ h))
plan_step {A = A} of P p F reads before es y (Cached plan block) next holds h more = past of P p before es (Cached plan block) y refl refl (more (sym (ap (λ (o : Option A). first_some (o ∷ map F es)) (reads.none (Cached plan block) refl)) ∙ h))
plan_step {A = A} of P p F reads before es y (Expired lane plan block) next holds h more = past of P p before es (Expired lane plan block) y refl refl (more (sym (ap (λ (o : Option A). first_some (o ∷ map F es)) (reads.none (Expired lane plan block) refl)) ∙ h))
plan_step {A = A} of P p F reads before es y (Refreshed plan) next holds h more = past of P p before es (Refreshed plan) y refl refl (more (sym (ap (λ (o : Option A). first_some (o ∷ map F es)) (reads.none (Refreshed plan) refl)) ∙ h))
plan_step {A = A} of P p F reads before es y (Wrote taken) next holds h more = past of P p before es (Wrote taken) y refl refl (more (sym (ap (λ (o : Option A). first_some (o ∷ map F es)) (reads.none (Wrote taken) refl)) ∙ h))
plan_step {A = A} of P p F reads before es y (Fail error) next holds h more = past of P p before es (Fail error) y refl refl (more (sym (ap (λ (o : Option A). first_some (o ∷ map F es)) (reads.none (Fail error) refl)) ∙ h))
plan_step {A = A} of P p F reads before es y Cancel next holds h more = past of P p before es Cancel y refl refl (more (sym (ap (λ (o : Option A). first_some (o ∷ map F es)) (reads.none Cancel refl)) ∙ h))

plan_after : {A : Type 0} (of : FileRange → List PlannedTerm → List PlannedBlock → A) (P : Event → Type 0) (p : ℕ) (F : Event → Option A) → Reads of p F → (before es : List Event) (y : A) → EachAfter IsNumberedNext before es → All P es
    → first_some (map F es) ≡ Some y → PlanAt of P (plan_count before) p es y
plan_after of P p F reads before [] y c a h = absurd (cc)
plan_after of P p F reads before (e ∷ es) y c a h = plan_step of P p F reads before es y e c.0 (All-head P e es a) h (λ k. plan_after of P p F reads (before ++ e ∷ []) es y c.1 (All-tail P e es a) k)

-- from the start
pub plan_at : {A : Type 0} (of : FileRange → List PlannedTerm → List PlannedBlock → A) (P : Event → Type 0) (p : ℕ) (F : Event → Option A) → Reads of p F → (es : List Event) (y : A) → EachAfter IsNumberedNext [] es → All P es
    → first_some (map F es) ≡ Some y → PlanAt of P 0 p es y
plan_at of P p F reads es y c a h = plan_after of P p F reads [] es y c a h

-- ---- blocks and ranges

pub reads_blocks : (p : ℕ) → Reads (λ q ts bs. bs) p (blocks_in p)
reads_blocks p = record { planned = λ plan q ts bs. refl; none = none }
  where
    none : (e : Event) → is_plan e ≡ false → blocks_in p e ≡ None
    none (Planned plan query terms blocks) h = absurd (cc)
    none (Admit limit) h = refl
    none (Fetched lane plan block) h = refl
    none (Cached plan block) h = refl
    none (Expired lane plan block) h = refl
    none (Refreshed plan) h = refl
    none (Wrote taken) h = refl
    none (Fail error) h = refl
    none Cancel h = refl

-- ---- a query of a cut

pub cut_within : (place end bound : ℕ) (qs : List FileRange) (i : ℕ) (q : FileRange) → CutFrom place end bound qs → slice_get qs i ≡ Some q → (place ≤ q.start) × (q.end ≤ end)
cut_within place end bound [] i q c h = absurd (cc)
cut_within place end bound (r ∷ qs) zero q c h =
    let same : r ≡ q = cc in
    subst (λ (v : FileRange). (place ≤ v.start) × (v.end ≤ end)) same ((let s = c.0 in omega (arith, s)), c.2)
cut_within place end bound (r ∷ qs) (suc i) q c h =
    let rest = cut_within r.end end bound qs i q c.4 h in
    let a = rest.0 in
    let s = c.0 in
    let f = c.1 in
    (omega (arith, a, s, f), rest.1)
