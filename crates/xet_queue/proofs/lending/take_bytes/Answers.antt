use Rattle.std.proofs.Common.{rules, ◌≡◌, None, Some}
use Rattle.xet_queue.proofs.Lent.{taken_is}
use Rattle.xet_queue.proofs.lending.take_bytes.Goals as goal

pub returns-clause-items : goal.returns-clause-items
returns-clause-items c p e h =
    let f : c.index_mut.result.now.bytes ≡ Some p = search rules in
    let n : c.take.new.self ≡ None = search rules in
    rw n (taken_is c.args.queue.now.items c.args.place c.index_mut.result.now p c.requires c.index_mut.ensures.value f h)
