use Rattle.xet_outside.proofs.PlacedBytes.{taken_written}
use Rattle.xet_outside.proofs.place_sink.place_follows.Goals as goal

pub returns : goal.returns
returns g c = λ n bytes t l. taken_written (g.F.Sink.told c.args.file.now) n bytes (g.met.F.PlaceSink.counted c.args.file.now) t l
