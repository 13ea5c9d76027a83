use Rattle.xet_shelves.proofs.LogIndexes.{indexed-xorb}
use Rattle.xet_shelves.proofs.put_log.PutLog.push_xorb.Goals as goal

pub invariant_of-self-2 : goal.invariant_of-self-2
invariant_of-self-2 c =
    let inside = c.self.inside in
    rw (c.push_reserved.ensures.items, c.in_ok-reserve.ensures.items, c.in_ok-extend.ensures.ok)
    (indexed-xorb inside.puts.items inside.xorbs inside.files c.self.invariant c.in_ok-copy.copy)
