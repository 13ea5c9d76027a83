use Rattle.std.proofs.Common.{map, rules, ◌≡◌}
use Rattle.xet_room.specs.Texts.{block_line, ok_line}
use Rattle.xet_get_command.proofs.Ends.{memory_unfailed, stopped_flushed, stopped_unfailed, unfailed_more}
use Rattle.xet_get_command.proofs.GetOutcomes.{tap_all, tap_all_cut, tap_bad, tap_bad_cut, tap_no_file, tap_part, tap_settings, tap_stopped}
use Rattle.xet_get_command.proofs.command.print.Goals as goal

pub returns-in-Ok-clause-printed : goal.returns-in-Ok-clause-printed
returns-in-Ok-clause-printed g c =
    let told = g.O.Sink.told in
    let text : c.as_bytes.result.now ≡ ok_line c.in-All.count = search rules in
    tap_all c.args.store.now c.args.wanted (map g.T.Tap.told c.args.taps.now.items) (map g.T.Tap.told c.print_digits.new.taps.items) (told c.args.out.now) (told c.print_digits.new.out) (told c.finish.new.out) c.in-All.count c.finish.result (rw c.in-All.is at c.print_digits.ensures) (rw text at c.finish.ensures.text)

pub returns-in-Err-clause-printed : goal.returns-in-Err-clause-printed
returns-in-Err-clause-printed g c =
    let told = g.O.Sink.told in
    tap_all_cut c.args.store.now c.args.wanted (map g.T.Tap.told c.args.taps.now.items) (map g.T.Tap.told c.print_digits.new.taps.items) (told c.args.out.now) (told c.print_digits.new.out) (told c.say_after.new.out) c.in-All.count c.say_after.result (rw c.in-All.is at c.print_digits.ensures) c.say_after.ensures.text

pub returns-in-NoFile-clause-printed : goal.returns-in-NoFile-clause-printed
returns-in-NoFile-clause-printed g c =
    let told = g.O.Sink.told in
    tap_no_file c.args.store.now c.args.wanted (map g.T.Tap.told c.args.taps.now.items) (map g.T.Tap.told c.print_digits.new.taps.items) (told c.args.out.now) (told c.print_digits.new.out) (told c.say_after-in-NoFile.new.out) c.say_after-in-NoFile.result (rw c.in-NoFile.is at c.print_digits.ensures) c.say_after-in-NoFile.ensures.text

pub returns-in-Part-clause-printed : goal.returns-in-Part-clause-printed
returns-in-Part-clause-printed g c =
    let told = g.O.Sink.told in
    tap_part c.args.store.now c.args.wanted (map g.T.Tap.told c.args.taps.now.items) (map g.T.Tap.told c.print_digits.new.taps.items) (told c.args.out.now) (told c.print_digits.new.out) (told c.say_after-in-Part.new.out) c.say_after-in-Part.result (rw c.in-Part.is at c.print_digits.ensures) c.say_after-in-Part.ensures.text

pub returns-in-Stopped-clause-printed : goal.returns-in-Stopped-clause-printed
returns-in-Stopped-clause-printed g c =
    let told = g.O.Sink.told in
    rw c.stopped.ensures (tap_stopped c.args.store.now c.args.wanted (map g.T.Tap.told c.args.taps.now.items) (map g.T.Tap.told c.print_digits.new.taps.items) (told c.args.out.now) (told c.print_digits.new.out) c.in-Stopped.error (rw c.in-Stopped.is at c.print_digits.ensures))

pub returns-in-Ok-format-clause-printed : goal.returns-in-Ok-format-clause-printed
returns-in-Ok-format-clause-printed g c =
    let told = g.O.Sink.told in
    let text : c.as_bytes-in-Ok-format.result.now ≡ block_line c.in-BadBlock.test = search rules in
    tap_bad c.args.store.now c.args.wanted (map g.T.Tap.told c.args.taps.now.items) (map g.T.Tap.told c.print_digits.new.taps.items) (told c.args.out.now) (told c.print_digits.new.out) (told c.finish-in-Ok-format.new.out) c.in-BadBlock.test c.finish-in-Ok-format.result (rw c.in-BadBlock.is at c.print_digits.ensures) (rw text at c.finish-in-Ok-format.ensures.text)

pub returns-in-Err-format-clause-printed : goal.returns-in-Err-format-clause-printed
returns-in-Err-format-clause-printed g c =
    let told = g.O.Sink.told in
    tap_bad_cut c.args.store.now c.args.wanted (map g.T.Tap.told c.args.taps.now.items) (map g.T.Tap.told c.print_digits.new.taps.items) (told c.args.out.now) (told c.print_digits.new.out) (told c.say_after-in-Err-format.new.out) c.in-BadBlock.test c.say_after-in-Err-format.result (rw c.in-BadBlock.is at c.print_digits.ensures) c.say_after-in-Err-format.ensures.text

pub returns-in-BadSettings-clause-printed : goal.returns-in-BadSettings-clause-printed
returns-in-BadSettings-clause-printed g c =
    let told = g.O.Sink.told in
    tap_settings c.args.store.now c.args.wanted (map g.T.Tap.told c.args.taps.now.items) (map g.T.Tap.told c.print_digits.new.taps.items) (told c.args.out.now) (told c.print_digits.new.out) (told c.say_after-in-BadSettings.new.out) c.in-BadSettings.setting c.say_after-in-BadSettings.result (rw c.in-BadSettings.is at c.print_digits.ensures) c.say_after-in-BadSettings.ensures.text

pub returns-in-Ok-clause-flushed : goal.returns-in-Ok-clause-flushed
returns-in-Ok-clause-flushed g c = c.finish.ensures.flushed

pub returns-in-Ok-clause-unfailed : goal.returns-in-Ok-clause-unfailed
returns-in-Ok-clause-unfailed g c = unfailed_more (g.O.Sink.told c.args.out.now) (g.O.Sink.told c.print_digits.new.out) (g.O.Sink.told c.finish.new.out) _ (rw c.in-All.is at c.print_digits.ensures).unfailed c.finish.ensures.unfailed

pub returns-in-Err-clause-flushed : goal.returns-in-Err-clause-flushed
returns-in-Err-clause-flushed g c = c.say_after.ensures.flushed

pub returns-in-Err-clause-unfailed : goal.returns-in-Err-clause-unfailed
returns-in-Err-clause-unfailed g c = memory_unfailed (g.O.Sink.told c.args.out.now) (g.O.Sink.told c.print_digits.new.out) (g.O.Sink.told c.say_after.new.out) _ _ c.say_after.ensures.text

pub returns-in-NoFile-clause-flushed : goal.returns-in-NoFile-clause-flushed
returns-in-NoFile-clause-flushed g c = c.say_after-in-NoFile.ensures.flushed

pub returns-in-NoFile-clause-unfailed : goal.returns-in-NoFile-clause-unfailed
returns-in-NoFile-clause-unfailed g c = unfailed_more (g.O.Sink.told c.args.out.now) (g.O.Sink.told c.print_digits.new.out) (g.O.Sink.told c.say_after-in-NoFile.new.out) _ (rw c.in-NoFile.is at c.print_digits.ensures).unfailed c.say_after-in-NoFile.ensures.unfailed

pub returns-in-Part-clause-flushed : goal.returns-in-Part-clause-flushed
returns-in-Part-clause-flushed g c = c.say_after-in-Part.ensures.flushed

pub returns-in-Part-clause-unfailed : goal.returns-in-Part-clause-unfailed
returns-in-Part-clause-unfailed g c = memory_unfailed (g.O.Sink.told c.args.out.now) (g.O.Sink.told c.print_digits.new.out) (g.O.Sink.told c.say_after-in-Part.new.out) _ _ c.say_after-in-Part.ensures.text

pub returns-in-Stopped-clause-flushed : goal.returns-in-Stopped-clause-flushed
returns-in-Stopped-clause-flushed g c = rw c.stopped.ensures (stopped_flushed (g.O.Sink.told c.print_digits.new.out) c.in-Stopped.error)

pub returns-in-Stopped-clause-unfailed : goal.returns-in-Stopped-clause-unfailed
returns-in-Stopped-clause-unfailed g c = rw c.stopped.ensures (stopped_unfailed (g.O.Sink.told c.args.out.now) (g.O.Sink.told c.print_digits.new.out) c.in-Stopped.error)

pub returns-in-Ok-format-clause-flushed : goal.returns-in-Ok-format-clause-flushed
returns-in-Ok-format-clause-flushed g c = c.finish-in-Ok-format.ensures.flushed

pub returns-in-Ok-format-clause-unfailed : goal.returns-in-Ok-format-clause-unfailed
returns-in-Ok-format-clause-unfailed g c = unfailed_more (g.O.Sink.told c.args.out.now) (g.O.Sink.told c.print_digits.new.out) (g.O.Sink.told c.finish-in-Ok-format.new.out) _ (rw c.in-BadBlock.is at c.print_digits.ensures).unfailed c.finish-in-Ok-format.ensures.unfailed

pub returns-in-Err-format-clause-flushed : goal.returns-in-Err-format-clause-flushed
returns-in-Err-format-clause-flushed g c = c.say_after-in-Err-format.ensures.flushed

pub returns-in-Err-format-clause-unfailed : goal.returns-in-Err-format-clause-unfailed
returns-in-Err-format-clause-unfailed g c = memory_unfailed (g.O.Sink.told c.args.out.now) (g.O.Sink.told c.print_digits.new.out) (g.O.Sink.told c.say_after-in-Err-format.new.out) _ _ c.say_after-in-Err-format.ensures.text

pub returns-in-BadSettings-clause-flushed : goal.returns-in-BadSettings-clause-flushed
returns-in-BadSettings-clause-flushed g c = c.say_after-in-BadSettings.ensures.flushed

pub returns-in-BadSettings-clause-unfailed : goal.returns-in-BadSettings-clause-unfailed
returns-in-BadSettings-clause-unfailed g c = unfailed_more (g.O.Sink.told c.args.out.now) (g.O.Sink.told c.print_digits.new.out) (g.O.Sink.told c.say_after-in-BadSettings.new.out) _ (rw c.in-BadSettings.is at c.print_digits.ensures).unfailed c.say_after-in-BadSettings.ensures.unfailed
