use Rattle.std.proofs.Common.{rules, ◌≡◌, [], Some, ap}
use Rattle.xet_outside.specs.Told.{SinkTold}
use Rattle.xet_sinks.specs.declared.vec_sink.VecSink.{VecSink}
use Rattle.xet_pattern.specs.Patterns.{pattern}
use Rattle.xet_roundtrip.proofs.Trips.{took_pattern}
use Rattle.xet_roundtrip.proofs.trip.comes_back.Goals as goal

pub returns : goal.returns
returns g c =
    let told : VecSink → SinkTold =
    λ s. record { took = Some s.taken.items; flushed = Some s.flushed; faults = 0; link = [] } in
    let took = took_pattern c.args.size c.args.info.now c.args.store.now (told c.new-writer.result)
    (told c.download.new.writer) c.requires (rw c.in_ok-download.was at c.download.ensures)
    (ap (λ (t : SinkTold). t.took) c.new-writer.ensures) in
    let came : c.taken.result.now ≡ pattern c.args.size = search (took, rules) in
    let wanted : c.as_slice.result.now ≡ pattern c.args.size = search rules in
    search (came, wanted, rules)

pub download-requires-clause-sent : goal.download-requires-clause-sent
download-requires-clause-sent g c = λ κs later. (c.args.size, c.requires)
