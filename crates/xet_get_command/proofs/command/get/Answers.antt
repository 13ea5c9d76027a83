use Rattle.std.proofs.Common.{map, refl, rules}
use Rattle.xet_room.specs.Ends.{Told}
use Rattle.xet_get_command.proofs.GetOutcomes.{got_from, got_no_memory, got_no_store, got_read_fault, got_too_long}
use Rattle.xet_get_command.proofs.command.get.Goals as goal

pub returns-in-Err-OutOfMemory-clause-outcome : goal.returns-in-Err-OutOfMemory-clause-outcome
returns-in-Err-OutOfMemory-clause-outcome g c =
    let b : Told = record { source = g.I.Source.told c.args.input.now; sink = g.O.Sink.told c.args.out.now; taps = map g.T.Tap.told c.args.taps.now.items } in
    let n : Told = record { source = g.I.Source.told c.read_to_end.new.input; sink = g.O.Sink.told c.say.new.out; taps = map g.T.Tap.told c.args.taps.now.items } in
    got_no_memory _ _ b n c.say.result refl c.say.ensures.text

pub returns-in-Err-Fault-clause-outcome : goal.returns-in-Err-Fault-clause-outcome
returns-in-Err-Fault-clause-outcome g c =
    let b : Told = record { source = g.I.Source.told c.args.input.now; sink = g.O.Sink.told c.args.out.now; taps = map g.T.Tap.told c.args.taps.now.items } in
    let n : Told = record { source = g.I.Source.told c.read_to_end.new.input; sink = g.O.Sink.told c.say-in-Err-Fault.new.out; taps = map g.T.Tap.told c.args.taps.now.items } in
    let read = rw (c.in-Err-Fault.is, c.in-Err-Fault.field-0-is) at c.read_to_end.ensures in
    got_read_fault _ _ b n c.say-in-Err-Fault.result (read.fault refl) refl c.say-in-Err-Fault.ensures.text

pub returns-in-Err-TooLong-clause-outcome : goal.returns-in-Err-TooLong-clause-outcome
returns-in-Err-TooLong-clause-outcome g c =
    let b : Told = record { source = g.I.Source.told c.args.input.now; sink = g.O.Sink.told c.args.out.now; taps = map g.T.Tap.told c.args.taps.now.items } in
    let n : Told = record { source = g.I.Source.told c.read_to_end.new.input; sink = g.O.Sink.told c.say-in-Err-TooLong.new.out; taps = map g.T.Tap.told c.args.taps.now.items } in
    let read = rw (c.in-Err-TooLong.is, c.in-Err-TooLong.field-0-is) at c.read_to_end.ensures in
    got_too_long _ _ b n c.say-in-Err-TooLong.result (λ text e. read.too_long text e refl) refl c.say-in-Err-TooLong.ensures.text

pub returns-in-Ok-Some-clause-outcome : goal.returns-in-Ok-Some-clause-outcome
returns-in-Ok-Some-clause-outcome g c =
    let b : Told = record { source = g.I.Source.told c.args.input.now; sink = g.O.Sink.told c.args.out.now; taps = map g.T.Tap.told c.args.taps.now.items } in
    let n : Told = record { source = g.I.Source.told c.read_to_end.new.input; sink = g.O.Sink.told c.print_within-status.new.out; taps = map g.T.Tap.told c.print_within-status.new.taps.items } in
    got_from _ _ b n c.in-Ok.text.items c.in-Ok-Some.store c.print_within-status.result (rw c.in-Ok.is at c.read_to_end.ensures).bytes (search rules)
    c.print_within-status.ensures.printed

pub returns-in-Ok-None-clause-outcome : goal.returns-in-Ok-None-clause-outcome
returns-in-Ok-None-clause-outcome g c =
    let b : Told = record { source = g.I.Source.told c.args.input.now; sink = g.O.Sink.told c.args.out.now; taps = map g.T.Tap.told c.args.taps.now.items } in
    let n : Told = record { source = g.I.Source.told c.read_to_end.new.input; sink = g.O.Sink.told c.say-in-Ok-None.new.out; taps = map g.T.Tap.told c.args.taps.now.items } in
    got_no_store _ _ b n c.in-Ok.text.items c.say-in-Ok-None.result (rw c.in-Ok.is at c.read_to_end.ensures).bytes (search rules) refl c.say-in-Ok-None.ensures.text

pub returns-in-Err-clause-outcome : goal.returns-in-Err-clause-outcome
returns-in-Err-clause-outcome g c =
    let b : Told = record { source = g.I.Source.told c.args.input.now; sink = g.O.Sink.told c.args.out.now; taps = map g.T.Tap.told c.args.taps.now.items } in
    let n : Told = record { source = g.I.Source.told c.read_to_end.new.input; sink = g.O.Sink.told c.say-in-Err.new.out; taps = map g.T.Tap.told c.args.taps.now.items } in
    got_no_memory _ _ b n c.say-in-Err.result refl c.say-in-Err.ensures.text
