use Rattle.std.proofs.Common.{◌≡◌, ◌-◌, ◌^◌, arith, length, min}
use Rattle.xet_shelves.proofs.ByteCounts.{bytes-counted}
use Rattle.xet_shelves.proofs.mem_shelf.byte_count.Goals as goal

pub returns-in_ok-bytes-in-Some : goal.returns-in_ok-bytes-in-Some
returns-in_ok-bytes-in-Some c =
    let found = c.in-Some.ensures in
    let part = c.in_ok-bytes-in-Some in
    let is : c.min.result ≡ min (length part.bytes) (2 ^ 32 - 1) = omega (arith, c.min.ensures, c.len.ensures.value) in
    bytes-counted c.args.store.now c.args.term.now c.in-Some.xorb.now found.found found.valid part.bytes c.min.result
    part.ensures is
