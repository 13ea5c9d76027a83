use Rattle.xet_sinks.proofs.Buffered.{held_lacks}
use Rattle.xet_sinks.proofs.buffered_sink.BufferedSink.into_inner.Goals as goal

pub returns-clause-lacks : goal.returns-clause-lacks
returns-clause-lacks g c = held_lacks _ _ c.args.self.buffer.items c.args.self.out c.args.self.stopped
    c.args.self.stands
