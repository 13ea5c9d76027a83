use Rattle.std.proofs.Common.{ap, arith, length}
use Rattle.xet_store.proofs.JoinedParts.{joined-count, joined-short, parts-joined}
use Rattle.xet_store.proofs.stored_xorb.StoredXorb.of_joined.Goals as goal

pub short_places-requires-clause-short : goal.short_places-requires-clause-short
short_places-requires-clause-short c =
    let found = c.into_parts-bytes.result in
    let made = c.into_parts-bytes.ensures in
    let short = joined-short found.0 found.1 found.2.items made.ends c.args.xorb made.xorb c.requires in
    omega (arith, short, c.len.ensures.value)

pub overflow_cast-count : goal.overflow_cast-count
overflow_cast-count c =
    let found = c.into_parts-bytes.result in
    let made = c.into_parts-bytes.ensures in
    let count = joined-count found.0 found.1 found.2.items made.ends c.args.xorb made.xorb c.requires in
    omega (arith, count, c.requires.chunk_count, c.len-count.ensures)

pub invariant_of-result : goal.invariant_of-result
invariant_of-result c =
    let read = ap (λ v. length v.items) c.in_ok-places-2.ensures.ok in
    let short = ap length c.in_ok-places.ensures in
    omega (arith, read, short, ap length c.as_slice.ensures.value, c.len-count.ensures)

pub invariant_of-result-2 : goal.invariant_of-result-2
invariant_of-result-2 c =
    let found = c.into_parts-bytes.result in
    let made = c.into_parts-bytes.ensures in
    rw (c.in_ok-places-2.ensures.ok, c.in_ok-places.ensures, c.as_slice.ensures.value)
    (parts-joined found.0 found.1 found.2.items made.ends c.args.xorb made.xorb c.requires)
