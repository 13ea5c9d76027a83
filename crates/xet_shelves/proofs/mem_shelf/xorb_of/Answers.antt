use Rattle.std.proofs.Common.{◌<◌, length, arith}
use Rattle.xet_shelves.proofs.WholeXorbs.{chunks_more}
use Rattle.xet_shelves.proofs.mem_shelf.xorb_of.Goals as goal

pub loop-number-preserved : goal.loop-number-preserved
loop-number-preserved c =
    let chunks = c.args.stored.now.chunks in
    let count = c.chunk_count-count.ensures.count in
    let within : c.loop-number.number < length chunks = omega (arith, count, c.loop-number-test.true) in
    chunks_more chunks c.loop-number.chunks c.push.new.self c.loop-number.number c.in_ok-bytes_of.field-0 within
    c.loop-number.invariant c.in_ok-bytes_of.ensures c.in_ok-push.ensures.ok
