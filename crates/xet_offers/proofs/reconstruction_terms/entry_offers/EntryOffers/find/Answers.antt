use Rattle.std.proofs.Common.{◌≡◌, ◌∙◌, List, false, leb, subst, sym, true}
use Rattle.std.specs.List.Sorted.{IsPartitionPoint}
use Rattle.xet_outside.specs.declared.plan.FetchRange.{FetchRange}
use Rattle.xet_offers.specs.Offers.{offered}
use Rattle.xet_offers.proofs.EntryOffers.{found_by_halves, found_near}
use Rattle.xet_offers.proofs.reconstruction_terms.entry_offers.EntryOffers.find.Goals as goal

pub returns-in-Some : goal.returns-in-Some
returns-in-Some c = sym (found_near c.args.self.now.entry.now c.args.self.now.ordered c.args.term.now c.args.near (offered c.in-Some.offer) (sym c.in-Some.ensures))

pub returns-in-None : goal.returns-in-None
returns-in-None c =
    let e = c.args.self.now.entry.now in
    let start = c.args.term.now.range.start in
    let i = c.count_before.result in
    let part : IsPartitionPoint (λ (r : FetchRange). leb r.chunks.end start ≡ true) (λ (r : FetchRange). leb r.chunks.end start ≡ false) e.ranges i =
    subst (λ (l : List FetchRange). IsPartitionPoint (λ (r : FetchRange). leb r.chunks.end start ≡ true) (λ (r : FetchRange). leb r.chunks.end start ≡ false) l i)
    c.as_slice-ranges.ensures c.count_before.ensures in
    c.offer_at-in-None.ensures ∙ sym (found_by_halves e c.args.self.now.ordered c.args.term.now i part)
