use Rattle.std.proofs.Common.{◌∷◌, ap, Err}
use Rattle.xet_room.specs.declared.status.Status.TheVariants.{Done}
use Rattle.xet_room.proofs.CallerLemmas.{finished_err, finished_more, short_after, stopped_flushed, stopped_short, stopped_unfailed, unfailed_after}
use Rattle.xet_resume_command.proofs.printing.print_both.Goals as goal

pub returns-in-Ok-clause-text : goal.returns-in-Ok-clause-text
returns-in-Ok-clause-text g c =
    let told = g.O.Sink.told in
    let w = rw c.in-Ok.is at c.write_plainly.ensures in
    finished_more (told c.args.out.now) (told c.write_plainly.new.sink) (told c.finish.new.out) c.args.text.now (10 ∷ c.args.last.now) _ _
    w.took w.faults c.finish.ensures.text

pub returns-in-Ok-clause-unfailed : goal.returns-in-Ok-clause-unfailed
returns-in-Ok-clause-unfailed g c =
    let told = g.O.Sink.told in
    let w = rw c.in-Ok.is at c.write_plainly.ensures in
    unfailed_after (told c.args.out.now) (told c.write_plainly.new.sink) (told c.finish.new.out) _ w.unfailed c.finish.ensures.unfailed

pub returns-in-Ok-clause-short : goal.returns-in-Ok-clause-short
returns-in-Ok-clause-short g c =
    let told = g.O.Sink.told in
    let w = rw c.in-Ok.is at c.write_plainly.ensures in
    short_after (told c.args.out.now) (told c.write_plainly.new.sink) (told c.finish.new.out) _ w.unfailed c.finish.ensures.short

pub returns-in-Err-clause-text : goal.returns-in-Err-clause-text
returns-in-Err-clause-text g c =
    let told = g.O.Sink.told in
    rw c.stopped.ensures (finished_err (told c.args.out.now) (told c.write_plainly.new.sink) c.args.text.now (10 ∷ c.args.last.now) Done
    c.in-Err.error (rw c.in-Err.is at c.write_plainly.ensures))

pub returns-in-Err-clause-flushed : goal.returns-in-Err-clause-flushed
returns-in-Err-clause-flushed g c = rw c.stopped.ensures (stopped_flushed (g.O.Sink.told c.write_plainly.new.sink) c.in-Err.error)

pub returns-in-Err-clause-unfailed : goal.returns-in-Err-clause-unfailed
returns-in-Err-clause-unfailed g c =
    let told = g.O.Sink.told in
    rw c.stopped.ensures (stopped_unfailed (told c.args.out.now) (told c.write_plainly.new.sink) c.in-Err.error)

pub returns-in-Err-clause-short : goal.returns-in-Err-clause-short
returns-in-Err-clause-short g c =
    let told = g.O.Sink.told in
    let w = rw c.in-Err.is at c.write_plainly.ensures in
    rw c.stopped.ensures (stopped_short (told c.args.out.now) (told c.write_plainly.new.sink) c.in-Err.error (λ e. w.short (ap Err e)))
