use Rattle.std.proofs.Common.{refl}
use Rattle.xet_sinks.proofs.Buffered.{held_more, held_write}
use Rattle.xet_sinks.proofs.buffered_sink.BufferedSink.hold.Goals as goal

pub invariant_of-self : goal.invariant_of-self
invariant_of-self g c =
    let told = g.O.Sink.told in
    let s = c.args.self.now in
    let ok = c.extend_from_slice.ensures.succeeds c.requires.room in
    let items = rw ok at c.extend_from_slice.ensures.items in
    record {
      stands = rw items (held_more (told s.known.value).took (told s.inner).took s.buffer.items
          c.args.piece.now s.out s.stopped s.stands);
    }

pub returns : goal.returns
returns g c =
    let told = g.O.Sink.told in
    let s = c.args.self.now in
    record {
      call = rw c.in-Ok.ensures.items (held_write (told s.start.value) (told s.known.value) (told s.inner)
          s.buffer.items c.args.piece.now);
      below = refl;
      runs = refl;
      capacity = c.in-Ok.ensures.capacity;
    }
