use Rattle.std.proofs.Common.{◌≡◌, ◌∙◌, ◌+◌, ◌∷◌, ap, cond, drop, List, map, sym, true, rules, None, Some}
use Rattle.std.proofs.lemmas.List.{drop_more}
use Rattle.xet_base.specs.Lists.{first_some}
use Rattle.xet_outside.specs.declared.plan.PlanXorb.{PlanXorb}
use Rattle.xet_outside.specs.Plan.{xorb_shape}
use Rattle.xet_error.specs.declared.error.Corruption.TheVariants.{Ranges}
use Rattle.xet_offers.specs.PlanChecks.{failed_ranges}
use Rattle.xet_offers.proofs.EntryTests.{entries_fail, entries_pass}
use Rattle.xet_offers.proofs.reconstruction_terms.plan_checks.check_entries.Goals as goal

pub returns-in-Some : goal.returns-in-Some
returns-in-Some c =
    let items = c.as_slice-xorb-items.result.now in
    let i = c.loop-xorb.xorb-index in
    let x = c.xorb-item.result in
    let on : c.args.multirange ≡ true = search rules in
    let rest = drop_more items i x c.loop-xorb-test.true ∙ ap (λ (y : PlanXorb). y ∷ drop (i + 1) items) (sym c.xorb-item.is) in
    let fails : first_some (map failed_ranges (map xorb_shape items)) ≡ Some (Ranges x.xorb c.in-Some.entry) =
    sym c.loop-xorb.invariant ∙ ap (λ (l : List PlanXorb). first_some (map failed_ranges (map xorb_shape l))) rest
    ∙ entries_fail x (drop (i + 1) items) c.in-Some.entry c.in-Some.ensures in
    sym ((λ j. cond (on j) (first_some (map failed_ranges (map xorb_shape (sym c.as_slice-xorb-items.ensures j)))) None) ∙ fails)

pub loop-xorb-preserved : goal.loop-xorb-preserved
loop-xorb-preserved c =
    let items = c.as_slice-xorb-items.result.now in
    let i = c.loop-xorb.xorb-index in
    let x = c.xorb-item.result in
    let rest = drop_more items i x c.loop-xorb-test.true ∙ ap (λ (y : PlanXorb). y ∷ drop (i + 1) items) (sym c.xorb-item.is) in
    sym (ap (λ (l : List PlanXorb). first_some (map failed_ranges (map xorb_shape l))) rest ∙ entries_pass x (drop (i + 1) items) c.in_default.ensures) ∙ c.loop-xorb.invariant
