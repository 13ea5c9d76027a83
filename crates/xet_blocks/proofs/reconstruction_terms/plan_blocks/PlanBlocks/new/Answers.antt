use Rattle.std.proofs.Common.{◌≡◌, ◌∙◌, ◌<◌, [], ℕ, Bool, List, ap, get_or, length, map, subst, sym, take, None, Some}
use Rattle.std.specs.Prelude.{is_none, option_map, position}
use Rattle.std.proofs.lemmas.List.{get_or-map, take_all, take_more}
use Rattle.xet_outside.specs.declared.plan.PlanTerm.{PlanTerm}
use Rattle.xet_outside.specs.Plan.{shape}
use Rattle.xet_error.specs.declared.error.Corruption.TheVariants.{NoRange}
use Rattle.xet_offers.specs.Blocks.{block_of_term}
use Rattle.xet_offers.specs.PlanChecks.{no_range_test}
use Rattle.xet_blocks.specs.steps.BlockKeys.{IsBlockOf}
use Rattle.xet_offers.specs.Offers.{offered, offer_of_term, xorb_place}
use Rattle.xet_blocks.proofs.BlockWalk.{has_no_offer, has_offer, starts_in_offer, told_apart, walk_more, walk_planned}
use Rattle.xet_offers.proofs.CallerLemmas.{first_here, first_more, first_never, refuses}
use Rattle.xet_blocks.proofs.reconstruction_terms.plan_blocks.PlanBlocks.new.Goals as goal

-- what the code reads past the terms
abbrev no_term : PlanTerm
no_term = record { xorb = record { 0 = [] }; unpacked_length = 0; range = record { start = 0; end = 0 } }

-- the place of a term's xorb is the one that was handed in
placed : (f : PlanTerm → ℕ) (places : List ℕ) (terms items : List PlanTerm) (i : ℕ) → places ≡ map f terms → items ≡ terms → i < length items → get_or places i 0 ≡ f (get_or items i no_term)
placed f places terms items i numbered same l =
    ap (λ (l : List ℕ). get_or l i 0) (numbered ∙ ap (λ (l : List PlanTerm). map f l) (sym same)) ∙ get_or-map f items i no_term 0 l

pub find-requires : goal.find-requires
find-requires c =
    let plan = c.args.offers.now.plan.now in
    placed (λ t. xorb_place plan t.xorb) c.args.xorbs.now plan.terms c.as_slice-term-items.result.now c.loop-number.number c.requires.numbered c.as_slice-term-items.ensures c.loop-number-test.true

pub returns-in_default-clause-refused : goal.returns-in_default-clause-refused
returns-in_default-clause-refused c =
    let plan = c.args.offers.now.plan.now in
    let multi = c.args.offers.now.multirange in
    let items = c.as_slice-term-items.result.now in
    let i = c.loop-number.number in
    let lacks : PlanTerm → Bool = λ t. is_none (block_of_term (shape plan) multi t) in
    let none : offer_of_term plan multi (get_or items i no_term) ≡ None = sym c.in_default.ensures in
    let at : position lacks plan.terms ≡ Some i =
    ap (λ (l : List PlanTerm). position lacks l) (sym c.as_slice-term-items.ensures)
    ∙ first_here lacks items i no_term c.loop-number-test.true (has_no_offer plan multi (get_or items i no_term) none) c.loop-number.invariant.first in
    refuses (no_range_test (shape plan) multi) (NoRange i) (ap (λ o. option_map (λ i. NoRange i) o) at)

pub add_term-requires-clause-inside : goal.add_term-requires-clause-inside
add_term-requires-clause-inside c =
    let term = get_or c.as_slice-term-items.result.now c.loop-number.number no_term in
    starts_in_offer c.args.offers.now.plan.now c.args.offers.now.multirange term (offered c.in-Some.offer) (sym c.in-Some.ensures)

pub add_term-requires-clause-apart : goal.add_term-requires-clause-apart
add_term-requires-clause-apart c =
    let plan = c.args.offers.now.plan.now in
    let multi = c.args.offers.now.multirange in
    let items = c.as_slice-term-items.result.now in
    let i = c.loop-number.number in
    let term = get_or items i no_term in
    let offer = offered c.in-Some.offer in
    let block = c.new-block.result in
    let at = placed (λ t. xorb_place plan t.xorb) c.args.xorbs.now plan.terms items i c.requires.numbered c.as_slice-term-items.ensures c.loop-number-test.true in
    let of : IsBlockOf term.xorb (xorb_place plan term.xorb) offer block = subst (λ (n : ℕ). IsBlockOf term.xorb n offer block) at c.new-block.ensures in
    told_apart plan multi block c.loop-number.made.blocks (record { term = term; offer = offer; found = sym c.in-Some.ensures; block = of }) c.loop-number.invariant.walk.of_terms

pub loop-number-preserved : goal.loop-number-preserved
loop-number-preserved c =
    let plan = c.args.offers.now.plan.now in
    let multi = c.args.offers.now.multirange in
    let items = c.as_slice-term-items.result.now in
    let i = c.loop-number.number in
    let term = get_or items i no_term in
    let offer = offered c.in-Some.offer in
    let block = c.new-block.result in
    let found : offer_of_term plan multi term ≡ Some offer = sym c.in-Some.ensures in
    let at = placed (λ t. xorb_place plan t.xorb) c.args.xorbs.now plan.terms items i c.requires.numbered c.as_slice-term-items.ensures c.loop-number-test.true in
    let of : IsBlockOf term.xorb (xorb_place plan term.xorb) offer block = subst (λ (n : ℕ). IsBlockOf term.xorb n offer block) at c.new-block.ensures in
    record {
      walk = walk_more plan multi (take i items) _ c.loop-number.made c.add_term.new.self term offer block
          c.loop-number.invariant.walk (take_more items i no_term c.loop-number-test.true) of found c.in_ok-add_term.ensures c.requires.ordered;
      first = first_more (λ t. is_none (block_of_term (shape plan) multi t)) items i no_term c.loop-number-test.true (has_offer plan multi term offer found) c.loop-number.invariant.first;
    }

pub returns-clause-planned : goal.returns-clause-planned
returns-clause-planned c =
    let plan = c.args.offers.now.plan.now in
    let multi = c.args.offers.now.multirange in
    let items = c.as_slice-term-items.result.now in
    let i = c.loop-number.number in
    let lacks : PlanTerm → Bool = λ t. is_none (block_of_term (shape plan) multi t) in
    let never : position lacks plan.terms ≡ None =
    ap (λ (l : List PlanTerm). position lacks l) (sym c.as_slice-term-items.ensures) ∙ first_never lacks items i c.loop-number-test.false c.loop-number.invariant.first in (
      ap (λ o. option_map (λ i. NoRange i) o) never,
      walk_planned plan multi (take i items) c.loop-number.made c.loop-number.invariant.walk (take_all i items c.loop-number-test.false ∙ c.as_slice-term-items.ensures),
    )
