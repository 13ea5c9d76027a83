use Rattle.std.proofs.Common.{rules, refl}
use Rattle.xet_shards.proofs.Runs.{find_in-run}
use Rattle.xet_shards.proofs.mem_shards.MemShardsShardStore.find.Goals as goal

pub returns : goal.returns
returns c = record {
  reads = record { records = search rules; faults = search rules; failed = search rules };
  run = rw c.find_in.ensures (find_in-run c.args.self.now.xorbs c.args.hashes.now);
  found = rw c.find_in.ensures refl;
}
