use Rattle.std.proofs.Common.{◌≡◌, ◌∙◌, sym, refl, ap, Bool, cond, length, Some, None}
use Rattle.std.specs.Prelude.{Option, option_and_then, slice_get}
use Rattle.std.proofs.lemmas.Bool.{ltb-true}
use Rattle.std.proofs.lemmas.Option.{slice_get_past, slice_get_read}
use Rattle.xet_offers.specs.declared.reconstruction_terms.listed_offers.Offer.{Offer}
use Rattle.xet_offers.specs.Blocks.{lies_in}
use Rattle.xet_offers.proofs.AscendingSearch as ascending
use Rattle.xet_offers.proofs.reconstruction_terms.listed_offers.find_by_halves.Goals as goal

pub returns : goal.returns
returns c =
    let offers = c.args.offers.now in
    let term = c.args.term.now in
    let place = c.count_before.result in
    let offer = c.in_ok-offer.field-0.now in
    let found = ascending.find_by_halves (λ o. o.range) offers term place c.requires c.count_before.ensures in
    let got : slice_get offers place ≡ Some offer =
    slice_get_read offers (length offers) place offer refl (ltb-true place (length offers) (sym c.in_ok-offer.ensures.lookup.0)) c.in_ok-offer.ensures.lookup.1 in
    c.then_some.ensures ∙ ascending.then_some-cond c.lies_in.result offer ∙ ap (λ (b : Bool). cond b (Some offer) None) c.lies_in.ensures
    ∙ sym (found ∙ ap (λ (o : Option Offer). option_and_then (λ x. cond (lies_in term x.range) (Some x) None) o) got)

pub returns-in_err-offer : goal.returns-in_err-offer
returns-in_err-offer c =
    let offers = c.args.offers.now in
    let term = c.args.term.now in
    let place = c.count_before.result in
    let found = ascending.find_by_halves (λ o. o.range) offers term place c.requires c.count_before.ensures in
    let got : slice_get offers place ≡ None = slice_get_past offers place c.in_err-offer.ensures.lookup.3 in
    c.from_residual.ensures ∙ sym (found ∙ ap (λ (o : Option Offer). option_and_then (λ x. cond (lies_in term x.range) (Some x) None) o) got)
