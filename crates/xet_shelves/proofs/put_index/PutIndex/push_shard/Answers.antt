use Rattle.xet_shelves.proofs.LogIndexes.{indexed-shard}
use Rattle.xet_shelves.proofs.put_index.PutIndex.push_shard.Goals as goal

pub invariant_of-self-2 : goal.invariant_of-self-2
invariant_of-self-2 c =
    let inside = c.self.inside in
    rw (
      c.push_shard.ensures,
      c.in_ok-extend.ensures.ok,
      c.as_slice-2.ensures.value,
      c.in_ok-hashes.ensures,
      c.as_slice.ensures,
    )
    (indexed-shard inside.puts.told inside.xorbs inside.files c.self.invariant c.args.shard.now)
