use Rattle.xet_sinks.proofs.DigitsOut.{hex_misses, hex_prefix}
use Rattle.xet_sinks.proofs.hex_sink.HexSink.into_inner.Goals as goal

pub returns-clause-text : goal.returns-clause-text
returns-clause-text g c = hex_prefix _ _ _ _ c.args.self.at c.args.self.stopped c.args.self.stands

pub returns-clause-missing : goal.returns-clause-missing
returns-clause-missing g c =
    let told = g.O.Sink.told in
    let s = c.args.self in
    hex_misses (told s.start.value).took (told s.known.value).took (told s.inner).took s.digits
