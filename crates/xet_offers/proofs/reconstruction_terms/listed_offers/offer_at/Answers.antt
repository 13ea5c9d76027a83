use Rattle.std.proofs.Common.{◌≡◌, Bool, false, length, refl, subst, sym, ◌∙◌, true, Some}
use Rattle.std.specs.Prelude.{IfSome, Option, find, slice_get}
use Rattle.std.specs.Bool.{then_some}
use Rattle.std.proofs.lemmas.Bool.{ltb-true}
use Rattle.std.proofs.lemmas.Option.{slice_get_read}
use Rattle.xet_offers.specs.declared.reconstruction_terms.listed_offers.Offer.{Offer}
use Rattle.xet_offers.specs.Blocks.{lies_in}
use Rattle.xet_offers.proofs.AscendingSearch.{find_there}
use Rattle.xet_offers.proofs.reconstruction_terms.listed_offers.offer_at.Goals as goal

-- what a test keeps
kept : (b : Bool) (x : Offer) (P : Offer → Type 0) → (b ≡ true → P x) → IfSome (then_some b x) P
kept true x P h = h refl
kept false x P h = tt

pub returns : goal.returns
returns c =
    let offers = c.args.offers.now in
    let term = c.args.term.now in
    let place = c.args.place in
    let offer = c.in_ok-offer.field-0.now in
    let P : Offer → Type 0 = λ x. find (λ (o : Offer). lies_in term o.range) offers ≡ Some x in
    let got : slice_get offers place ≡ Some offer =
    slice_get_read offers (length offers) place offer refl (ltb-true place (length offers) (sym c.in_ok-offer.ensures.lookup.0)) c.in_ok-offer.ensures.lookup.1 in
    subst (λ (r : Option Offer). IfSome r P) (sym c.then_some.ensures)
    (kept c.lies_in.result offer P (λ e. find_there (λ (o : Offer). o.range) offers term place offer c.requires got (sym c.lies_in.ensures ∙ e)))

pub returns-in_err-offer : goal.returns-in_err-offer
returns-in_err-offer c =
    let P : Offer → Type 0 = λ x. find (λ (o : Offer). lies_in c.args.term.now o.range) c.args.offers.now ≡ Some x in
    subst (λ (r : Option Offer). IfSome r P) (sym c.from_residual.ensures) tt
