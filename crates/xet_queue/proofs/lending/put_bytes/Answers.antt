use Rattle.xet_queue.proofs.Terms.{put_is}
use Rattle.xet_queue.proofs.lending.put_bytes.Goals as goal

pub returns-clause-items : goal.returns-clause-items
returns-clause-items c = put_is c.args.queue.now.items c.args.place c.args.bytes c.index_mut.result.now c.requires c.index_mut.ensures.value
