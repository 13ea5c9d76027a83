use Rattle.std.proofs.Common.{◌∙◌, ◌++◌, ap, length, map}
use Rattle.xet_outside.specs.declared.plan.FetchEntry.{FetchEntry}
use Rattle.xet_offers.specs.Offers.{entry_candidates, offered, offers_from}
use Rattle.xet_offers.proofs.TermOffers.{more_entry}
use Rattle.xet_offers.proofs.reconstruction_terms.listed_offers.ListedOffers.new.Goals as goal

pub loop-entry-preserved : goal.loop-entry-preserved
loop-entry-preserved c =
    more_entry c.loop-entry.offers c.add_entry.new.offers c.args.multirange c.as_slice-entry-items.result.now c.loop-entry.entry-index c.entry-item.result _ c.loop-entry-test.true
    (c.in_ok-add_entry.ensures ∙ ap (λ (e : FetchEntry). map offered c.loop-entry.offers ++ offers_from (length c.loop-entry.offers) (entry_candidates c.args.multirange e)) c.entry-item.is)
    c.loop-entry.invariant
