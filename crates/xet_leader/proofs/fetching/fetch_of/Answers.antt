use Rattle.std.proofs.Common.{◌∙◌, List, ap, get_or, refl}
use Rattle.xet_offers.specs.declared.reconstruction_terms.xorb_block.XorbBlock.{XorbBlock}
use Rattle.xet_lane.proofs.CallerLemmas.{made_by}
use Rattle.xet_leader.proofs.AskedBlocks.{read_block}
use Rattle.xet_leader.proofs.fetching.fetch_of.Goals as goal

pub returns : goal.returns
returns c =
    let r = read_block c.args.plans.now.items c.args.place c.plan_index.result c.index-plan.result.now
    c.index-as_slice-place.result c.requires c.plan_index.ensures c.index-plan.ensures
    (c.index-as_slice-place.is ∙ ap (λ (xs : List XorbBlock). get_or xs c.args.place.block
    c.index-as_slice-place.result) c.as_slice.ensures) in
    record {
      plan = c.index-plan.result.now;
      at = r.0;
      of_plan = r.1;
      request_is = made_by c.index-as_slice-place.result c.index-plan.result.now.block.urls r.2;
      numbered = refl;
    }
