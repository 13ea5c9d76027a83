use Rattle.xet_shelves.proofs.HashNotes.{kept-more, noted-more}
use Rattle.xet_shelves.proofs.put_hashes.note_all.Goals as goal

pub loop-place-preserved : goal.loop-place-preserved
loop-place-preserved c =
    let hashes = c.args.hashes.now in
    let more = c.args.more.now in
    let before = c.args.numbers.now in
    let now = c.loop-place.numbers in
    let after = c.note.new.numbers in
    let place = c.loop-place.place in
    let within = c.loop-place-test.true in
    let one = c.in_ok-note.ensures.ok in
    let kept = c.loop-place.invariant.0 in (
      kept-more hashes more before now after place _ within one kept,
      noted-more hashes more before now after place _ within one kept c.loop-place.invariant.1,
    )
