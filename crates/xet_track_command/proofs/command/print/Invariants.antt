use Rattle.std.proofs.Common.{length}
use Rattle.xet_track_command.proofs.TrackOutcomes.{Printing}
use Rattle.xet_track_command.proofs.command.print.Given as goal

abbrev pub invariant-lines : goal.invariant-lines
invariant-lines g l =
    let told = g.O.Sink.told in
    Printing l.script l.run (told l.fn.out) (told l.out)

abbrev pub decreases-lines : goal.decreases-lines
decreases-lines g l = length l.run.rest
