use Rattle.std.proofs.Common.{rules, ◌≡◌, []}
use Rattle.xet_track.specs.Turns.{TurnOf}
use Rattle.xet_track.specs.declared.script.Turn.TheVariants.{Printed, Unread, Ended}
use Rattle.xet_track_command.proofs.TrackOutcomes.{printing_end, printing_line, printing_memory, printing_stopped, printing_unread}
use Rattle.xet_track_command.proofs.command.print.Goals as goal

pub returns-in-Err-write_plainly-clause-printed : goal.returns-in-Err-write_plainly-clause-printed
returns-in-Err-write_plainly-clause-printed g c =
    let told = g.O.Sink.told in
    let turn : TurnOf c.lines.run c.step.new.self [] c.step.new.out.items Printed = search rules in
    let text : c.as_slice.result.now ≡ c.step.new.out.items = search rules in
    rw c.stopped.ensures (
    printing_stopped c.args.script.now c.lines.run (told c.args.out.now) (told c.lines.out) (told c.write_plainly.new.sink) c.lines.invariant c.step.new.self c.step.new.out.items c.in-Err-write_plainly.error turn
    (rw (text, c.in-Err-write_plainly.is) at c.write_plainly.ensures)
    )

pub lines-preserved : goal.lines-preserved
lines-preserved g c =
    let told = g.O.Sink.told in
    let turn : TurnOf c.lines.run c.step.new.self [] c.step.new.out.items Printed = search rules in
    let text : c.as_slice.result.now ≡ c.step.new.out.items = search rules in
    let w = rw (text, c.in_default.is) at c.write_plainly.ensures in
    printing_line c.args.script.now c.lines.run (told c.args.out.now) (told c.lines.out) (told c.write_plainly.new.sink) c.lines.invariant c.step.new.self c.step.new.out.items turn w.took w.unfailed

pub returns-in-Ok-Unread-clause-printed : goal.returns-in-Ok-Unread-clause-printed
returns-in-Ok-Unread-clause-printed g c =
    let told = g.O.Sink.told in
    let turn : TurnOf c.lines.run c.step.new.self [] c.step.new.out.items Unread = search rules in
    let text : c.as_slice-in-Ok-Unread.result.now ≡ c.step.new.out.items = search rules in
    printing_unread c.args.script.now c.lines.run (told c.args.out.now) (told c.lines.out) (told c.print_text.new.out) c.lines.invariant c.step.new.self c.step.new.out.items c.print_text.result turn
    (rw text at c.print_text.ensures.text)

pub returns-in-Ok-Ended-clause-printed : goal.returns-in-Ok-Ended-clause-printed
returns-in-Ok-Ended-clause-printed g c =
    let told = g.O.Sink.told in
    let turn : TurnOf c.lines.run c.step.new.self [] c.step.new.out.items Ended = search rules in
    printing_end c.args.script.now c.lines.run (told c.args.out.now) (told c.lines.out) (told c.print_text-in-Ok-Ended.new.out) c.lines.invariant c.print_text-in-Ok-Ended.result turn.0 c.print_text-in-Ok-Ended.ensures.text

pub returns-in-Err-clause-printed : goal.returns-in-Err-clause-printed
returns-in-Err-clause-printed g c =
    let told = g.O.Sink.told in
    printing_memory c.args.script.now c.lines.run (told c.args.out.now) (told c.lines.out) (told c.say.new.out) c.lines.invariant c.say.result c.say.ensures.text
