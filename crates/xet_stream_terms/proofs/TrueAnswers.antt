-- A plan that was honestly said, and the query that it answers.
use Rattle.std.proofs.Common.{◌≡◌, ⊎_elim, ℕ, zero, suc, ◌<◌, ◌≤◌, Bool, List, [], ◌∷◌, ◌++◌, length, take, drop, sym, ◌∙◌, ap, arith, Some}
use Rattle.std.specs.Prelude.{filter, map, nat_lt, slice_get}
use Rattle.xet_base.specs.declared.cas_types.FileRange.{FileRange}
use Rattle.xet_base.specs.Lists.{firsts}
use Rattle.xet_base.specs.Store.{Store, bytes_of}
use Rattle.xet_outside.specs.declared.plan.PlanAnswer.{PlanAnswer}
use Rattle.xet_outside.specs.declared.plan.PlanAnswer.TheVariants.{Found, NoFile, PastEnd}
use Rattle.xet_outside.specs.declared.plan.PlanTerm.{PlanTerm}
use Rattle.xet_outside.specs.Plan.{Shape, plan_of}
use Rattle.xet_outside.specs.Told.{IsHonest}
use Rattle.xet_offers.specs.Blocks.{blocks_of, same_block, term_block}
use Rattle.xet_blocks.specs.Terms.{terms_from, terms_of}
use Rattle.xet_events.specs.declared.event.Event.TheVariants.{Planned}
use Rattle.xet_events.specs.declared.event.PlannedBlock.{PlannedBlock}
use Rattle.xet_events.specs.declared.event.PlannedTerm.{PlannedTerm}
use Rattle.xet_history.specs.TrueHistory.{IsTrueEvent, planned_block, planned_term}
use Rattle.xet_terms.specs.Managers.{without_past}
use Rattle.xet_ties.specs.Saids.{IsMadeOf, IsMadeOfPlan}
use Rattle.xet_ties.specs.Setup.{Setup}

-- a plan without terms has no blocks
none_terms : (p : Shape) (q : FileRange) (multi : Bool) → p.terms ≡ [] → terms_of p q multi ≡ []
none_terms p q multi e = ap (λ (l : List PlanTerm). terms_from p q multi q.start p.offset l) e

none_blocks : (p : Shape) (multi : Bool) → p.terms ≡ [] → blocks_of p multi ≡ []
none_blocks p multi e = ap (λ (l : List PlanTerm). firsts same_block (map (term_block p multi) l)) e

-- over a store it is the store's, where past the file's end a plan has no terms
pub made_true : (s : Store) (g : Setup) (q : FileRange) (n : ℕ) (ts : List PlannedTerm) (bs : List PlannedBlock)
    (a : PlanAnswer) → (length (bytes_of s g.file) ≤ q.start → (plan_of s g.file q).terms ≡ [])
    → IsHonest s g.file q a → IsMadeOf g q ts bs a → IsTrueEvent s g.file g.multirange (Planned n q ts bs)
made_true s g q n ts bs NoFile past h m = absurd m
made_true s g q n ts bs PastEnd past h m =
    let none = past h.1 in (
      m.0 ∙ sym (ap (λ l. map planned_term l) (none_terms (plan_of s g.file q) q g.multirange none)),
      m.1 ∙ sym (ap (λ l. map planned_block l) (none_blocks (plan_of s g.file q) g.multirange none)),
    )
made_true s g q n ts bs (Found p) past h m = ⊎_elim empty full m
  where
    empty : (p.terms ≡ []) × (ts ≡ []) × (bs ≡ []) → IsTrueEvent s g.file g.multirange (Planned n q ts bs)
    empty e =
        let none : (plan_of s g.file q).terms ≡ [] = sym (ap (λ (z : Shape). z.terms) h.2) ∙ e.0 in (
          e.1 ∙ sym (ap (λ l. map planned_term l) (none_terms (plan_of s g.file q) q g.multirange none)),
          e.2 ∙ sym (ap (λ l. map planned_block l) (none_blocks (plan_of s g.file q) g.multirange none)),
        )

    full : IsMadeOfPlan g q ts bs p → IsTrueEvent s g.file g.multirange (Planned n q ts bs)
    full e = (
      e.terms ∙ ap (λ (z : Shape). map planned_term (terms_of z q g.multirange)) h.2,
      e.blocks ∙ ap (λ (z : Shape). map planned_block (blocks_of z g.multirange)) h.2,
    )

-- a query that was asked stays where it is
at_front : (xs ys : List FileRange) (k i : ℕ) (q : FileRange) → i < k → slice_get xs i ≡ Some q
    → slice_get (take k xs ++ ys) i ≡ Some q
at_front [] ys k i q h at = absurd (cc)
at_front (x ∷ xs) ys zero i q h at = absurd (omega (arith, h))
at_front (x ∷ xs) ys (suc k) zero q h at = at
at_front (x ∷ xs) ys (suc k) (suc i) q h at = at_front xs ys k i q (omega (arith, h)) at

pub asked_stays : (asked known : ℕ) (qs : List FileRange) (i : ℕ) (q : FileRange) → i < asked
    → slice_get qs i ≡ Some q → slice_get (without_past asked known qs) i ≡ Some q
asked_stays asked known qs i q h at =
    at_front qs (filter (λ (r : FileRange). nat_lt r.start known) (drop asked qs)) asked i q h at
