use Rattle.xet_waiting.proofs.Kept.{kept-more}
use Rattle.xet_waiting.proofs.aggregator.DataAggregator.push_chunk.Goals as goal

pub invariant_of-self-2 : goal.invariant_of-self-2
invariant_of-self-2 c =
    let within = rw (← c.self.view_is) at c.requires.within in
    let kept = kept-more c.self.inside.chunks.items c.self.inside.infos.items c.self.inside.num_bytes c.self.inside.files.items c.args.chunk c.self.invariant within c.requires.some in
    rw (c.push_reserved-2.ensures.items, c.push_reserved.ensures.items, c.in_ok-reserve-2.ensures.items, c.in_ok-reserve.ensures.items, c.from.ensures, c.requires.info) kept
