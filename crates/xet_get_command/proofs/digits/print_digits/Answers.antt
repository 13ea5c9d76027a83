use Rattle.std.proofs.Common.{rules, ◌≡◌, map, refl}
use Rattle.xet_outside.specs.Told.{SinkTold}
use Rattle.xet_sinks.specs.HexText.{hex_told}
use Rattle.xet_room.specs.LaterFlushes.{borrowed_told, later_told}
use Rattle.xet_get_command.specs.steps.PrintedDigits.{DigitsBehind}
use Rattle.xet_get_command.proofs.PrintedDigits.{digits_of}
use Rattle.xet_get_command.proofs.digits.print_digits.Goals as goal

pub returns : goal.returns
returns g c =
    let told = g.O.Sink.told in
    let s = c.new-digits.result in
    let n = c.drive-printed.new.digits in
    let bt = told c.args.out.now in
    let nt = told n.inner.inner.now in
    let t0 : SinkTold = hex_told
    (later_told (borrowed_told (told s.start.value.flushed.value.now) s.start.value.flushed.value.ghost_name) (borrowed_told (told s.start.value.inner.now) s.start.value.inner.ghost_name))
    (later_told (borrowed_told (told s.known.value.flushed.value.now) s.known.value.flushed.value.ghost_name) (borrowed_told (told s.known.value.inner.now) s.known.value.inner.ghost_name))
    (later_told (borrowed_told (told s.inner.flushed.value.now) s.inner.flushed.value.ghost_name) (borrowed_told (told s.inner.inner.now) s.inner.inner.ghost_name)) s.digits in
    let t1 : SinkTold = hex_told
    (later_told (borrowed_told (told n.start.value.flushed.value.now) n.start.value.flushed.value.ghost_name) (borrowed_told (told n.start.value.inner.now) n.start.value.inner.ghost_name))
    (later_told (borrowed_told (told n.known.value.flushed.value.now) n.known.value.flushed.value.ghost_name) (borrowed_told (told n.known.value.inner.now) n.known.value.inner.ghost_name))
    (later_told (borrowed_told (told n.inner.flushed.value.now) n.inner.flushed.value.ghost_name) (borrowed_told (told n.inner.inner.now) n.inner.inner.ghost_name)) n.digits in
    let r = digits_of c.args.store.now c.args.wanted (map g.T.Tap.told c.args.taps.now.items) (map g.T.Tap.told c.drive-printed.new.taps.items) bt nt t0 t1
    (told n.start.value.inner.now).took s.inner.inner.ghost_name n.inner.inner.ghost_name c.drive-printed.result
    (search rules) (search rules) (search rules) refl refl c.drive-printed.ensures c.into_inner.ensures.text in
    let name : n.inner.inner.ghost_name ≡ s.inner.inner.ghost_name = r.1 in
    let run : DigitsBehind c.args.store.now c.args.wanted (map g.T.Tap.told c.args.taps.now.items) (map g.T.Tap.told c.drive-printed.new.taps.items) bt nt c.drive-printed.result = r.0 in
    search rules
