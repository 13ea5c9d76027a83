use Rattle.std.proofs.Common.{◌∙◌, ap, sym}
use Rattle.std.specs.Prelude.{find, option_map}
use Rattle.xet_offers.specs.declared.reconstruction_terms.plan_offers.OfferList.{OfferList}
use Rattle.xet_offers.specs.Blocks.{lies_in}
use Rattle.xet_offers.specs.steps.OfferLists.{offers_of}
use Rattle.xet_offers.specs.Offers.{Offered, offered}
use Rattle.xet_offers.proofs.Lookups.{find-map}
use Rattle.xet_offers.proofs.reconstruction_terms.plan_offers.XorbOffers.find.Goals as goal

pub returns-in-Listed : goal.returns-in-Listed
returns-in-Listed c =
    let term = c.args.term.now in
    ap (λ o. option_map offered o) c.find-in-Listed.ensures
    ∙ sym (ap (λ (l : OfferList). find (λ (o : Offered). lies_in term o.range) (offers_of l)) c.in-Listed.is ∙ find-map offered (λ (o : Offered). lies_in term o.range) c.in-Listed.offers.offers)
