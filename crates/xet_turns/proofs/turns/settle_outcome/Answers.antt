use Rattle.xet_turns.proofs.FirstSettles.{first_settled}
use Rattle.xet_turns.proofs.turns.settle_outcome.Goals as goal

pub returns : goal.returns
returns g c =
    first_settled g.C.Client.told c.args.clients.now c.index-clients-0.result c.settle.new.client c.args.multirange
    c.args.outcome.now c.as_slice-served.result.now c.as_slice-stale.result.now
    (g.K.ChunkCache.told c.args.cache.now) (g.K.ChunkCache.told c.settle.new.cache) c.args.core.now
    c.settle.new.core c.args.leader.now c.settle.new.leader c.settle.result
    c.requires.some c.as_slice-served.ensures.value c.as_slice-stale.ensures.value c.settle.ensures.turn
    c.settle.ensures.leads
