use Rattle.std.proofs.Common.{arith}
use Rattle.xet_store.proofs.JoinedParts.{length-parts}
use Rattle.xet_store.proofs.joined_xorb.JoinedXorb.chunk_count.Goals as goal

pub returns : goal.returns
returns c =
    let count = length-parts c.self.inside.bytes 0 c.self.inside.ends.items in
    rw (← c.self.view_is) (omega (arith, c.len.ensures, count, c.self.inside.ends.ok.0))
