use Rattle.std.proofs.Common.{◌≡◌, ◌∙◌, sym, ap, suc, ◌+◌, cond, eqb, ltb, ◌&&◌, length, refl, Some, None, arith, rules}
use Rattle.std.specs.Prelude.{slice_get}
use Rattle.std.proofs.lemmas.Bool.{ltb-true}
use Rattle.std.proofs.lemmas.Option.{slice_get_past, slice_get_read}
use Rattle.xet_offers.proofs.AscendingSearch.{then_some-cond}
use Rattle.xet_offers.proofs.ReachedSums.{bridge_found, bridge_in}
use Rattle.xet_offers.proofs.reconstruction_terms.reached_sizes.bridge_of.Goals as goal

pub returns-in_err-range : goal.returns-in_err-range
returns-in_err-range c =
    let ranges = c.args.ranges.now in
    let end = c.args.end in
    let i = c.count_before-number.result in
    let found = bridge_found ranges end i c.requires c.count_before-number.ensures in
    let got : slice_get ranges i ≡ None = slice_get_past ranges i c.in_err-range.ensures.lookup.3 in
    c.from_residual.ensures ∙ sym (found ∙ ap (λ o. bridge_in end o (slice_get ranges (suc i))) got)

pub returns-in_err-next : goal.returns-in_err-next
returns-in_err-next c =
    let ranges = c.args.ranges.now in
    let end = c.args.end in
    let i = c.count_before-number.result in
    let range = c.in_ok-range.range.now in
    let found = bridge_found ranges end i c.requires c.count_before-number.ensures in
    let got : slice_get ranges i ≡ Some range = slice_get_read ranges (length ranges) i range refl (ltb-true i (length ranges) (sym c.in_ok-range.ensures.lookup.0)) c.in_ok-range.ensures.lookup.1 in
    let one : i + 1 ≡ suc i = omega arith in
    let none : slice_get ranges (suc i) ≡ None = ap (λ k. slice_get ranges k) (sym one) ∙ slice_get_past ranges (i + 1) c.in_err-next.ensures.lookup.3 in
    c.from_residual-in_err-next.ensures ∙ sym (found ∙ (λ j. bridge_in end (got j) (none j)))

pub returns : goal.returns
returns c =
    let ranges = c.args.ranges.now in
    let end = c.args.end in
    let i = c.count_before-number.result in
    let range = c.in_ok-range.range.now in
    let next = c.in_ok-next.next.now in
    let found = bridge_found ranges end i c.requires c.count_before-number.ensures in
    let got : slice_get ranges i ≡ Some range = slice_get_read ranges (length ranges) i range refl (ltb-true i (length ranges) (sym c.in_ok-range.ensures.lookup.0)) c.in_ok-range.ensures.lookup.1 in
    let one : i + 1 ≡ suc i = omega arith in
    let after : slice_get ranges (suc i) ≡ Some next = ap (λ k. slice_get ranges k) (sym one) ∙ slice_get_read ranges (length ranges) (i + 1) next refl (ltb-true (i + 1) (length ranges) (sym c.in_ok-next.ensures.lookup.0)) c.in_ok-next.ensures.lookup.1 in
    let test : c.if-range-end.then_some ≡ (eqb range.end end && ltb end next.start) = search rules in
    c.then_some.ensures ∙ then_some-cond c.if-range-end.then_some next.start ∙ ap (λ b. cond b (Some next.start) None) test
    ∙ sym (found ∙ (λ j. bridge_in end (got j) (after j)))
