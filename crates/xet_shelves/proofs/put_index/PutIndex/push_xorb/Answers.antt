use Rattle.xet_shelves.proofs.LogIndexes.{indexed-xorb}
use Rattle.xet_shelves.proofs.put_index.PutIndex.push_xorb.Goals as goal

pub invariant_of-self-2 : goal.invariant_of-self-2
invariant_of-self-2 c =
    let inside = c.self.inside in
    rw (c.push_xorb.ensures, c.in_ok-extend.ensures.ok)
    (indexed-xorb inside.puts.told inside.xorbs inside.files c.self.invariant c.args.xorb.now)
