use Rattle.xet_uploader.proofs.NotedChunks.{places-take}
use Rattle.xet_uploader.proofs.xorb_records.XorbRecords.truncate.Goals as goal

pub invariant_of-self : goal.invariant_of-self
invariant_of-self c = rw c.truncate.ensures.items (places-take c.self.inside.records.items c.args.count c.self.inside.places c.self.invariant)
