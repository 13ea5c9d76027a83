-- What stands behind a tap after one more call: the log of the connection against what the tap tells.
use Rattle.std.proofs.Common.{◌≡◌, ◌++◌, ◌∷◌, [], List, ℕ, zero, suc, Ok, Some, None, map, refl, ap, sym, subst, ◌∙◌, append_assoc}
use Rattle.std.specs.Prelude.{Option, option_map, slice_get}
use Rattle.std.proofs.lemmas.List.{append-nil}
use Rattle.xet_base.specs.Store.{Store}
use Rattle.xet_outside.proofs.CallerLemmas.{bytes_both, plans_both}
use Rattle.xet_outside.specs.Answers.{AnswerToQuery, block_said, block_served, bytes_in, plan_said, plans_in}
use Rattle.xet_outside.specs.Told.{Grew, IsHonest, Query, through_tap, to_store}
use Rattle.xet_outside.specs.declared.block.BlockAnswer.TheVariants.{Bytes}
use Rattle.xet_outside.specs.declared.block.BlockBytes.{BlockBytes}
use Rattle.xet_outside.specs.declared.block.BlockRequest.{BlockRequest}
use Rattle.xet_outside.specs.declared.plan.PlanAnswer.{PlanAnswer}
use Rattle.xet_outside.specs.declared.said.Said.{Said}
use Rattle.xet_outside.specs.declared.said.Said.TheVariants as said
use Rattle.xet_connections.specs.HonestPlans.{PlansAreHonest}
use Rattle.xet_store.specs.Taps.{AreGiven, PassCall, TapTold, said_behind}
use Rattle.xet_store.specs.declared.client_log.ClientLog.{ClientLog}

-- the log after a query, and after a block
abbrev pub with_plan : ClientLog → Query → PlanAnswer → ClientLog
with_plan log q a = record { asked = log.asked ++ q ∷ []; said = log.said ++ plan_said (Ok a); served = log.served }

abbrev pub with_block : ClientLog → BlockRequest → BlockBytes → ClientLog
with_block log r b = record {
  asked = log.asked;
  said = log.said ++ block_said r (Ok (Bytes b));
  served = log.served ++ block_served r (Ok (Bytes b));
}

-- the blocks that were given, as answers that were said
abbrev front : List BlockBytes → List Said
front gave = map (λ b. said.Block b) gave

-- one more answer
pub said_grew : (start : TapTold) (log after : ClientLog) (x : Said) → after.said ≡ log.said ++ x ∷ []
    → Grew (said_behind start log) (said_behind start after) x
said_grew start log after x e = rw e (more start.gave)
  where
    more : (o : Option (List BlockBytes)) → option_map (λ gave. front gave ++ (log.said ++ x ∷ [])) o
        ≡ option_map (λ (all : List Said). all ++ x ∷ []) (option_map (λ gave. front gave ++ log.said) o)
    more None = refl
    more (Some gave) = ap (λ (l : List Said). Some l) (sym (append_assoc (front gave) log.said (x ∷ [])))

-- ---- at first

bytes_front : (gave : List BlockBytes) → bytes_in (front gave ++ []) ≡ gave
bytes_front [] = refl
bytes_front (b ∷ gave) = ap (λ (l : List BlockBytes). b ∷ l) (bytes_front gave)

pub given_none : (start : TapTold) (log : ClientLog) → log ≡ record { asked = []; said = []; served = [] }
    → AreGiven (said_behind start log) start
given_none start log e = rw e (all start.gave)
  where
    all : (o : Option (List BlockBytes)) → option_map bytes_in (option_map (λ gave. front gave ++ []) o) ≡ o
    all None = refl
    all (Some gave) = ap (λ (l : List BlockBytes). Some l) (bytes_front gave)

pub honest_none : (s : Store) (log : ClientLog) → log ≡ record { asked = []; said = []; served = [] }
    → PlansAreHonest s log.asked (plans_in log.said)
honest_none s log e = rw e tt

-- ---- after a query

pub given_plan : (start now : TapTold) (log after : ClientLog) (q : Query) (a : PlanAnswer) → after ≡ with_plan log q a
    → AreGiven (said_behind start log) now → AreGiven (said_behind start after) now
given_plan start now log after q a e g = rw e (more start.gave g)
  where
    same : (bs : List BlockBytes) → bytes_in (front bs ++ (log.said ++ plan_said (Ok a))) ≡ bytes_in
        (front bs ++ log.said)
    same bs = ap bytes_in (sym (append_assoc (front bs) log.said (plan_said (Ok a))))
        ∙ bytes_both (front bs ++ log.said) (plan_said (Ok a)) ∙ append-nil (bytes_in (front bs ++ log.said))

    more : (o : Option (List BlockBytes)) → option_map bytes_in (option_map (λ bs. front bs ++ log.said) o) ≡ now.gave
        → option_map bytes_in (option_map (λ bs. front bs ++ (log.said ++ plan_said (Ok a))) o) ≡ now.gave
    more None h = h
    more (Some bs) h = ap (λ (l : List BlockBytes). Some l) (same bs) ∙ h

honest_push : (s : Store) (qs : List Query) (answers : List PlanAnswer) (q : Query) (a : PlanAnswer)
    → PlansAreHonest s qs answers
    → IsHonest s q.0 q.1 a → PlansAreHonest s (qs ++ q ∷ []) (answers ++ a ∷ [])
honest_push s [] [] q a h one = (one, tt)
honest_push s [] (b ∷ rest) q a h one = absurd h
honest_push s (p ∷ qs) [] q a h one = absurd h
honest_push s (p ∷ qs) (b ∷ rest) q a h one = (h.0, honest_push s qs rest q a h.1 one)

pub honest_plan : (s t : Store) (log after : ClientLog) (q : Query) (a : PlanAnswer)
    → ◌≡◌ {A = Option Store} (Some t) (Some s) → after ≡ with_plan log q a
    → IsHonest s q.0 q.1 a → PlansAreHonest s log.asked (plans_in log.said)
    → PlansAreHonest t after.asked (plans_in after.said)
honest_plan s t log after q a stays e one h =
    let same : s ≡ t = cc in
    let all = honest_push s log.asked (plans_in log.said) q a h one in
    rw e (subst (λ (u : Store). PlansAreHonest u (log.asked ++ q ∷ []) (plans_in (log.said ++ plan_said (Ok a)))) same
    (subst (λ (l : List PlanAnswer). PlansAreHonest s (log.asked ++ q ∷ []) l) (sym (plans_both log.said (plan_said
    (Ok a)))) all))

-- ---- after a block

pub given_block : (start before now : TapTold) (log after : ClientLog) (r : BlockRequest) (block b : BlockBytes)
    → after ≡ with_block log r b
    → PassCall before now r block (Ok b) → AreGiven (said_behind start log) before
    → AreGiven (said_behind start after) now
given_block start before now log after r block b e call g = rw e (more start.gave g ∙ sym call.gave)
  where
    same : (bs : List BlockBytes) → bytes_in (front bs ++ (log.said ++ block_said r (Ok (Bytes b)))) ≡ bytes_in
        (front bs ++ log.said) ++ b ∷ []
    same bs = ap bytes_in (sym (append_assoc (front bs) log.said (block_said r (Ok (Bytes b)))))
        ∙ bytes_both (front bs ++ log.said) (block_said r (Ok (Bytes b)))

    more : (o : Option (List BlockBytes)) → option_map bytes_in (option_map
        (λ bs. front bs ++ log.said) o) ≡ before.gave
        → option_map bytes_in (option_map (λ bs. front bs ++ (log.said ++ block_said r (Ok (Bytes b)))) o) ≡ option_map
        (λ xs. xs ++ b ∷ []) before.gave
    more None h = ap (option_map (λ (xs : List BlockBytes). xs ++ b ∷ [])) h
    more (Some bs) h = ap (λ (l : List BlockBytes). Some l) (same bs)
        ∙ ap (option_map (λ (xs : List BlockBytes). xs ++ b ∷ [])) h

pub honest_block : (s t : Store) (log after : ClientLog) (r : BlockRequest) (b : BlockBytes)
    → ◌≡◌ {A = Option Store} (Some t) (Some s) → after ≡ with_block log r b
    → PlansAreHonest s log.asked (plans_in log.said) → PlansAreHonest t after.asked (plans_in after.said)
honest_block s t log after r b stays e h =
    let same : s ≡ t = cc in
    let plans : plans_in (log.said ++ block_said r (Ok (Bytes b))) ≡ plans_in log.said = plans_both log.said (block_said r
    (Ok (Bytes b))) ∙ append-nil (plans_in log.said) in
    rw e (subst (λ (u : Store). PlansAreHonest u log.asked (plans_in (log.said ++ block_said r (Ok (Bytes b))))) same
    (subst (λ (l : List PlanAnswer). PlansAreHonest s log.asked l) (sym plans) h))

-- ---- what a caller has of it

-- the answer to a query is that of the store
pub honest_answer : (s : Store) (qs : List Query) (all : List Said) (q : Query) (a : PlanAnswer)
    → PlansAreHonest s qs (plans_in all)
    → AnswerToQuery qs all q a → IsHonest s q.0 q.1 a
honest_answer s qs all q a h t = at qs (plans_in all) t.place h t.query t.answer
  where
    at : (ps : List Query) (answers : List PlanAnswer) (k : ℕ) → PlansAreHonest s ps answers → slice_get ps k ≡ Some q
        → slice_get answers k ≡ Some a
        → IsHonest s q.0 q.1 a
    at [] answers k h e f = absurd (cc)
    at (p ∷ ps) [] k h e f = absurd (cc)
    at (p ∷ ps) (b ∷ answers) zero h e f =
        let same_query : p ≡ q = cc in
        let same_answer : b ≡ a = cc in
        rw (← same_query, ← same_answer) h.0
    at (p ∷ ps) (b ∷ answers) (suc k) h e f = at ps answers k h.1 e f

-- connections through one tap reference, made when it had given so many blocks, to one store
pub same_link : (x y i j : ℕ) (s t : Store) → through_tap x (through_tap i (to_store s)) ≡ through_tap y (through_tap j
    (to_store t)) → (x ≡ y) × (i ≡ j) × (s ≡ t)
same_link x y i j s t e = (cc, cc, cc)
