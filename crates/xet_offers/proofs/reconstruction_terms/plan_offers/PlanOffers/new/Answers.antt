use Rattle.std.proofs.Common.{◌≡◌, ◌+◌, ◌++◌, ◌∷◌, [], ◌∙◌, sym, ap, List, take, map}
use Rattle.std.specs.Prelude.{find, is_none}
use Rattle.std.proofs.lemmas.List.{take_more, take_all}
use Rattle.xet_base.specs.Hashes.{hash_eq}
use Rattle.xet_base.specs.declared.merklehash.MerkleHash.{MerkleHash}
use Rattle.xet_outside.specs.declared.plan.PlanXorb.{PlanXorb}
use Rattle.xet_offers.specs.declared.reconstruction_terms.plan_offers.XorbOffers.{XorbOffers}
use Rattle.xet_offers.specs.Offers.{first_xorbs, xorb_offers}
use Rattle.xet_offers.proofs.TermOffers.{listed_more}
use Rattle.xet_offers.proofs.reconstruction_terms.plan_offers.PlanOffers.new.Goals as goal

pub invariant_of-result : goal.invariant_of-result
invariant_of-result c =
    let all : take c.loop-xorb.xorb-index c.as_slice-xorb-items.result.now ≡ c.args.plan.now.xorbs =
    take_all c.loop-xorb.xorb-index c.as_slice-xorb-items.result.now c.loop-xorb-test.false ∙ c.as_slice-xorb-items.ensures in
    record {
      hashed = c.loop-xorb.invariant.hashed ∙ ap (λ (l : List PlanXorb). map (λ x. x.xorb) (first_xorbs l)) all;
      offered = c.loop-xorb.invariant.listed ∙ ap (λ (l : List PlanXorb). map (xorb_offers c.args.multirange) (first_xorbs l)) all;
    }

pub loop-xorb-preserved : goal.loop-xorb-preserved
loop-xorb-preserved c =
    let items = c.as_slice-xorb-items.result.now in
    let i = c.loop-xorb.xorb-index in
    let x = c.xorb-item.result in
    let made = c.loop-xorb.xorbs in
    let longer : take (i + 1) items ≡ take i items ++ x ∷ [] =
    take_more items i x c.loop-xorb-test.true ∙ ap (λ (y : PlanXorb). take i items ++ y ∷ []) (sym c.xorb-item.is) in
    let v = c.in_ok-new.field-0 in
    let own : v.xorb ≡ x.xorb = c.in_ok-new.ensures.xorb in
    let none : is_none (find (λ (w : XorbOffers). hash_eq w.xorb x.xorb) made) ≡ c.in_ok-add_new.field-0 =
    ap (λ (h : MerkleHash). is_none (find (λ (w : XorbOffers). hash_eq w.xorb h) made)) (sym own) ∙ sym c.in_ok-add_new.ensures.new in
    listed_more c.args.multirange (take i items) (take (i + 1) items) x made c.add_new.new.self v c.in_ok-add_new.field-0
    c.loop-xorb.invariant longer none own c.in_ok-new.ensures.offers c.in_ok-add_new.ensures.list
