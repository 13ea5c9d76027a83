use Rattle.xet_document.specs.steps.Placed.{IsPlaced}
use Rattle.xet_document.specs.steps.Reads.{ListsXorb}
use Rattle.xet_document.proofs.Listings.{lists_all}
use Rattle.xet_document.proofs.PlainDocuments.{listed_all, listing_has}
use Rattle.xet_document.proofs.listing.listing_of_text.Goals as goal

pub listing_of-requires : goal.listing_of-requires
listing_of-requires c =
    let l = c.in-Some.listed in
    let xorbs = (rw c.in-Some.is at c.in_ok-listed.ensures).found.xorbs in
    lists_all (λ k. k.text.now) (ListsXorb l.xorbs.joined) (λ e. IsPlaced l.xorbs.joined.bytes.items l.xorbs.joined.ends.items e.1) (λ k d e h. h.0) xorbs.0 l.xorbs.places.entries xorbs.2

pub returns-in_default-2-clause-listed : goal.returns-in_default-2-clause-listed
returns-in_default-2-clause-listed c = rw c.in-Ok.ensures.cases.0 at (rw c.in_default-2.is at c.in_ok-listed.ensures)

pub returns : goal.returns
returns c =
    let cases = c.in-Ok.ensures.cases in
    let read = rw c.in-Some.is at c.in_ok-listed.ensures in
    let made = c.in_ok-listing_of.ensures in
    record {
      listed = listing_has c.args.text.now c.in-Some.listed c.in_ok-listing_of.field-0 cases.1 (rw cases.0 at read) made.xorbs made.files;
      uncounted = listed_all c.args.text.now c.in-Some.listed c.in_ok-listing_of.field-0 (rw cases.0 at read) made.files;
    }
