use Rattle.std.proofs.Common.{◌∷◌, []}
use Rattle.xet_room.proofs.TwoTexts.{finished_err, finished_more}
use Rattle.xet_room.proofs.printing.finish.Goals as goal

pub returns-in-Ok-clause-text : goal.returns-in-Ok-clause-text
returns-in-Ok-clause-text g c =
    let told = g.O.Sink.told in
    let w = rw c.in-Ok.is at c.write_plainly.ensures in
    finished_more (told c.args.out.now) (told c.write_plainly.new.sink) (told c.print_text.new.out) (10 ∷ []) c.args.line.now _ _ w.took w.faults c.print_text.ensures.text

pub returns-in-Err-clause-text : goal.returns-in-Err-clause-text
returns-in-Err-clause-text g c =
    let told = g.O.Sink.told in
    rw c.stopped.ensures (finished_err (told c.args.out.now) (told c.write_plainly.new.sink) (10 ∷ []) c.args.line.now c.args.status c.in-Err.error (rw c.in-Err.is at c.write_plainly.ensures))
