use Rattle.std.proofs.Common.{◌≡◌, ◌∙◌, sym, refl, ap, List, length, map, Some, None}
use Rattle.std.specs.Prelude.{Option, find, option_and_then, option_map, slice_get}
use Rattle.std.proofs.lemmas.Bool.{ltb-true}
use Rattle.std.proofs.lemmas.Option.{slice_get-map, slice_get_past, slice_get_read}
use Rattle.xet_offers.specs.declared.reconstruction_terms.plan_offers.XorbOffers.{XorbOffers}
use Rattle.xet_offers.specs.Blocks.{lies_in}
use Rattle.xet_offers.specs.Offers.{Offered, offered, offer_of_term}
use Rattle.xet_offers.specs.steps.OfferLists.{offers_of}
use Rattle.xet_offers.proofs.TermOffers.{offer_at}
use Rattle.xet_offers.proofs.reconstruction_terms.plan_offers.PlanOffers.find.Goals as goal

pub returns : goal.returns
returns c =
    let offers = c.args.self.now in
    let term = c.args.term.now in
    let number = c.args.xorb in
    let xorb = c.in_ok-get.field-0.now in
    let got : slice_get offers.xorbs number ≡ Some xorb =
    ap (λ l. slice_get l number) (sym c.as_slice.ensures)
    ∙ slice_get_read c.as_slice.result.now (length c.as_slice.result.now) number xorb refl (ltb-true number (length c.as_slice.result.now) (sym c.in_ok-get.ensures.lookup.0)) c.in_ok-get.ensures.lookup.1 in
    let lists : Option (List Offered) = slice_get (map (λ (x : XorbOffers). offers_of x.offers) offers.xorbs) number in
    let list : lists ≡ Some (offers_of xorb.offers) = slice_get-map (λ (x : XorbOffers). offers_of x.offers) offers.xorbs number ∙ ap (λ o. option_map (λ (x : XorbOffers). offers_of x.offers) o) got in
    let found : offer_of_term offers.plan.now offers.multirange term ≡ find (λ o. lies_in term o.range) (offers_of xorb.offers) =
    offer_at offers.plan.now offers.multirange (map (λ (x : XorbOffers). offers_of x.offers) offers.xorbs) offers.offered term number c.requires
    ∙ ap (λ o. option_and_then (λ os. find (λ o. lies_in term o.range) os) o) list in
    c.find.ensures ∙ sym found

pub returns-in_err-get : goal.returns-in_err-get
returns-in_err-get c =
    let offers = c.args.self.now in
    let term = c.args.term.now in
    let number = c.args.xorb in
    let got : slice_get offers.xorbs number ≡ None = ap (λ l. slice_get l number) (sym c.as_slice.ensures) ∙ slice_get_past c.as_slice.result.now number c.in_err-get.ensures.lookup.3 in
    let found = offer_at offers.plan.now offers.multirange (map (λ (x : XorbOffers). offers_of x.offers) offers.xorbs) offers.offered term number c.requires in
    ap (λ o. option_map offered o) c.from_residual.ensures
    ∙ sym (found ∙ ap (λ o. option_and_then (λ os. find (λ o. lies_in term o.range) os) o) (slice_get-map (λ (x : XorbOffers). offers_of x.offers) offers.xorbs number ∙ ap (λ o. option_map (λ (x : XorbOffers). offers_of x.offers) o) got))
