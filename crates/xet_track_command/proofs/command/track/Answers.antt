use Rattle.std.proofs.Common.{rules, ◌≡◌, refl}
use Rattle.xet_room.specs.Ends.{Told}
use Rattle.xet_track_command.proofs.TrackOutcomes.{tracked_from}
use Rattle.xet_track_command.proofs.command.track.Goals as goal

pub returns-clause-outcome : goal.returns-clause-outcome
returns-clause-outcome g c taps =
    let b : Told = record { source = g.I.Source.told c.args.input.now; sink = g.O.Sink.told c.args.out.now; taps = taps } in
    let n : Told = record { source = g.I.Source.told c.read_to_end.new.input; sink = g.O.Sink.told c.print.new.out; taps = taps } in
    let text : c.as_slice.result.now ≡ c.in-Ok.script.items = search rules in
    record {
      unasked = refl;
      by_status = tracked_from _ b n c.in-Ok.script.items c.print.result (rw c.in-Ok.is at c.read_to_end.ensures).bytes (rw text at c.print.ensures.printed);
    }
