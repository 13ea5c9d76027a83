use Rattle.std.proofs.Common.{arith, ap, length, ◌∙◌}
use Rattle.xet_store.proofs.ChunkMarks.{first_kept, range_alone, refilled}
use Rattle.xet_store.proofs.touched_chunks.TouchedChunks.of_range.Goals as goal

pub mark_range-requires : goal.mark_range-requires
mark_range-requires c = omega (arith, c.requires, c.as_mut_slice.ensures.len, c.in_ok-marks.ensures.len)

pub invariant_of-result : goal.invariant_of-result
invariant_of-result c =
    let vec = c.in_ok-marks.marks in
    let ns = c.mark_range.new.marks in
    let old = c.as_mut_slice.ensures.value in
    let range = c.args.range in
    let count = c.mark_range.auto.marks ∙ c.as_mut_slice.ensures.len ∙ c.in_ok-marks.ensures.len in
    rw (refilled vec.len vec.items ns vec.ok.0 (c.mark_range.auto.marks ∙ ap length old), c.min.ensures)
    (first_kept ns range.start range.end c.args.chunk_count count c.ranges.chunk_count.fits c.requires
    (range_alone c.as_mut_slice.result.now ns c.args.chunk_count range.start range.end
    (old ∙ c.in_ok-marks.ensures.items_if_clones_equal (λ y h. h)) c.mark_range.ensures))

pub returns-clause-length : goal.returns-clause-length
returns-clause-length c =
    let vec = c.in_ok-marks.marks in
    let same = c.mark_range.auto.marks in
    ap length (refilled vec.len vec.items c.mark_range.new.marks vec.ok.0
    (same ∙ ap length c.as_mut_slice.ensures.value))
    ∙ same ∙ c.as_mut_slice.ensures.len ∙ c.in_ok-marks.ensures.len

pub returns-clause-marks : goal.returns-clause-marks
returns-clause-marks c =
    let vec = c.in_ok-marks.marks in
    let ns = c.mark_range.new.marks in
    let old = c.as_mut_slice.ensures.value in
    let range = c.args.range in
    rw (refilled vec.len vec.items ns vec.ok.0 (c.mark_range.auto.marks ∙ ap length old))
    (range_alone c.as_mut_slice.result.now ns c.args.chunk_count range.start range.end
    (old ∙ c.in_ok-marks.ensures.items_if_clones_equal (λ y h. h)) c.mark_range.ensures)
