use Rattle.std.proofs.Common.{◌∙◌, arith}
use Rattle.xet_store.proofs.JoinedChunks.{joined_count}
use Rattle.xet_store.proofs.SharedPlaces.{joined_offsets}
use Rattle.xet_store.proofs.stored_xorb.StoredXorb.offsets_of.Goals as goal

pub of_shared-requires-clause-inside : goal.of_shared-requires-clause-inside
of_shared-requires-clause-inside c =
    let count = joined_count _ _ _ c.self.invariant in
    let inside = rw (← c.self.view_is) at c.requires.inside in
    rw c.in_ok-places.ensures (omega (arith, count, inside))

pub returns : goal.returns
returns c =
    let inside = rw (← c.self.view_is) at c.requires.inside in
    let base = rw (← c.self.view_is) at c.place-base.ensures in
    let shared = rw c.in_ok-places.ensures at c.of_shared.ensures in
    rw (← c.self.view_is) (shared ∙ joined_offsets _ _ _ c.self.invariant c.args.from c.args.to c.place-base.result
    c.requires.some inside base)
