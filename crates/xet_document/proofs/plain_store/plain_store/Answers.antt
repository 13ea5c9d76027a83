use Rattle.xet_document.specs.steps.Placed.{IsPlaced}
use Rattle.xet_document.specs.steps.Reads.{ListsXorb}
use Rattle.xet_document.proofs.Listings.{lists_all}
use Rattle.xet_document.proofs.PlainDocuments.{no_part, stored}
use Rattle.xet_document.proofs.plain_store.plain_store.Goals as goal

pub listed_store-requires : goal.listed_store-requires
listed_store-requires c =
    let l = c.in-Some.listed in
    let xorbs = (rw c.in-Some.is at c.in_ok-listed.ensures).found.xorbs in
    lists_all (λ k. k.text.now) (ListsXorb l.xorbs.joined) (λ e. IsPlaced l.xorbs.joined.bytes.items l.xorbs.joined.ends.items e.1) (λ k d e h. h.0) xorbs.0 l.xorbs.places.entries xorbs.2

pub returns-in_default-2 : goal.returns-in_default-2
returns-in_default-2 c = no_part c.args.text.now (rw c.in-Ok.ensures.cases.0 at (rw c.in_default-2.is at c.in_ok-listed.ensures))

pub returns : goal.returns
returns c =
    let cases = c.in-Ok.ensures.cases in
    let read = rw c.in-Some.is at c.in_ok-listed.ensures in
    stored c.args.text.now c.in-Some.listed c.in_ok-listed_store.field-0 cases.1 (rw cases.0 at read) c.in_ok-listed_store.ensures
