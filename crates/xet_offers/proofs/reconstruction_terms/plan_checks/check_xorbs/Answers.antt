use Rattle.std.proofs.Common.{◌≡◌, ◌++◌, ◌∷◌, [], ◌∙◌, ℕ, Bool, List, ap, get_or, map, sym, take, None, Some}
use Rattle.std.specs.Prelude.{is_none, option_map, position}
use Rattle.std.proofs.lemmas.List.{map-append, take_all, take_more}
use Rattle.xet_outside.specs.declared.plan.PlanTerm.{PlanTerm}
use Rattle.xet_outside.specs.Plan.{shape}
use Rattle.xet_error.specs.declared.error.Corruption.TheVariants.{NoXorb}
use Rattle.xet_offers.specs.Blocks.{plan_xorb_of}
use Rattle.xet_offers.specs.PlanChecks.{no_xorb_test}
use Rattle.xet_offers.specs.Offers.{xorb_place}
use Rattle.xet_offers.proofs.FirstFailures.{first_here, first_more, first_never, refuses}
use Rattle.xet_offers.proofs.Lookups.{some_not_none}
use Rattle.xet_offers.proofs.reconstruction_terms.plan_checks.check_xorbs.Goals as goal

-- what the code reads past the terms
abbrev no_term : PlanTerm
no_term = record { xorb = record { 0 = [] }; unpacked_length = 0; range = record { start = 0; end = 0 } }

pub returns-in_default-clause-refused : goal.returns-in_default-clause-refused
returns-in_default-clause-refused c =
    let plan = c.args.offers.now.plan.now in
    let items = c.as_slice-term-items.result.now in
    let i = c.loop-place.place in
    let lacks : PlanTerm → Bool = λ t. is_none (plan_xorb_of (shape plan) t.xorb) in
    let none : plan_xorb_of (shape plan) (get_or items i no_term).xorb ≡ None = c.in_default.ensures in
    let at : position lacks plan.terms ≡ Some i =
    ap (λ (l : List PlanTerm). position lacks l) (sym c.as_slice-term-items.ensures)
    ∙ first_here lacks items i no_term c.loop-place-test.true (ap is_none none) c.loop-place.invariant.first in
    refuses (no_xorb_test (shape plan)) (NoXorb i) (ap (λ o. option_map (λ i. NoXorb i) o) at)

pub loop-place-preserved : goal.loop-place-preserved
loop-place-preserved c =
    let plan = c.args.offers.now.plan.now in
    let items = c.as_slice-term-items.result.now in
    let i = c.loop-place.place in
    let term = get_or items i no_term in
    let f : PlanTerm → ℕ = λ t. xorb_place plan t.xorb in
    let at : c.in-Some.number ≡ f term = c.in-Some.ensures.1 in
    let numbers = c.loop-place.invariant.numbers in
    record {
      numbers = c.in_ok-push.ensures.ok ∙ (λ j. numbers j ++ at j ∷ [])
          ∙ sym (ap (λ (l : List PlanTerm). map f l) (take_more items i no_term c.loop-place-test.true) ∙ map-append f (take i items) (term ∷ []));
      first = first_more (λ t. is_none (plan_xorb_of (shape plan) t.xorb)) items i no_term c.loop-place-test.true (some_not_none (plan_xorb_of (shape plan) term.xorb) c.in-Some.ensures.0) c.loop-place.invariant.first;
    }

pub returns-clause-numbers : goal.returns-clause-numbers
returns-clause-numbers c =
    let plan = c.args.offers.now.plan.now in
    let items = c.as_slice-term-items.result.now in
    let i = c.loop-place.place in
    let lacks : PlanTerm → Bool = λ t. is_none (plan_xorb_of (shape plan) t.xorb) in
    let never : position lacks plan.terms ≡ None =
    ap (λ (l : List PlanTerm). position lacks l) (sym c.as_slice-term-items.ensures) ∙ first_never lacks items i c.loop-place-test.false c.loop-place.invariant.first in (
      ap (λ o. option_map (λ i. NoXorb i) o) never,
      c.loop-place.invariant.numbers ∙ ap (λ (l : List PlanTerm). map (λ t. xorb_place plan t.xorb) l) (take_all i items c.loop-place-test.false ∙ c.as_slice-term-items.ensures),
    )
