use Rattle.xet_outside.specs.Told.{SinkTold}
use Rattle.xet_sinks.specs.HexText.{hex_told}
use Rattle.xet_get_command.proofs.PrintedDigits.{driven_err, driven_ok}
use Rattle.xet_get_command.proofs.digits.drive.Goals as goal

pub returns-in-Ok : goal.returns-in-Ok
returns-in-Ok g c =
    let told = g.O.Sink.told in
    let n = c.flush.new.self in
    let d : SinkTold = hex_told (told n.start.value) (told n.known.value) (told n.inner) n.digits in
    driven_ok c.args.store.now c.args.wanted _ _ _ _ d _ _ _ c.run-printed.ensures (rw c.in-Ok.is at c.flush.ensures.call) (rw c.in-Ok.is at c.flush.ensures.text)

pub returns-in-Err : goal.returns-in-Err
returns-in-Err g c =
    let told = g.O.Sink.told in
    let m = c.run-printed.new.out in
    let n = c.flush.new.self in
    let b : SinkTold = hex_told (told m.start.value) (told m.known.value) (told m.inner) m.digits in
    let d : SinkTold = hex_told (told n.start.value) (told n.known.value) (told n.inner) n.digits in
    driven_err c.args.store.now c.args.wanted _ _ _ b d _ _ _ _ c.run-printed.ensures (rw c.in-Err.is at c.flush.ensures.call)

pub returns-in-Stopped : goal.returns-in-Stopped
returns-in-Stopped g c = record { ran = c.run-printed.ensures; text = rw c.in-Stopped.is tt }
