use Rattle.std.proofs.Common.{map}
use Rattle.xet_serve.proofs.Ranges.{RangesSoFar}
use Rattle.xet_serve.proofs.answer.add_ranges.Given as goal

abbrev pub invariant-loop-range : goal.invariant-loop-range
invariant-loop-range g l =
    RangesSoFar l.file l.ranges l.range-index
    (record { clients = map g.C.Client.told l.fn.clients; cache = g.K.ChunkCache.told l.fn.cache })
    (record { clients = map g.C.Client.told l.clients; cache = g.K.ChunkCache.told l.cache })
    l.fn.reply.items l.reply.items
