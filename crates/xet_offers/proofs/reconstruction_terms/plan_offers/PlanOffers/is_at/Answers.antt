use Rattle.std.proofs.Common.{◌≡◌, ◌∙◌, List, Some, ap, length, refl, sym}
use Rattle.std.specs.Prelude.{slice_get}
use Rattle.std.proofs.lemmas.Bool.{ltb-true}
use Rattle.std.proofs.lemmas.Option.{slice_get_read}
use Rattle.xet_offers.specs.declared.reconstruction_terms.plan_offers.XorbOffers.{XorbOffers}
use Rattle.xet_offers.proofs.NearXorbs.{near_is}
use Rattle.xet_offers.proofs.reconstruction_terms.plan_offers.PlanOffers.is_at.Goals as goal

pub returns-in-Some : goal.returns-in-Some
returns-in-Some c h =
    let offers = c.args.self.now in
    let number = c.args.number in
    let read = c.as_slice.result.now in
    let at : slice_get offers.xorbs number ≡ Some c.in-Some.offers.now =
    ap (λ (l : List XorbOffers). slice_get l number) (sym c.as_slice.ensures)
    ∙ slice_get_read read (length read) number c.in-Some.offers.now refl (ltb-true number (length read) (sym c.in-Some.ensures.lookup.0)) c.in-Some.ensures.lookup.1 in
    near_is offers.plan.now.xorbs offers.xorbs number c.in-Some.offers.now c.args.xorb.now offers.hashed at (sym c.are_of.ensures ∙ h)
