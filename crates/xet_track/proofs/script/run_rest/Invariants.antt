use Rattle.std.proofs.Common.{◌≡◌, ◌++◌, length}
use Rattle.xet_track.specs.Turns.{reads_left, text_left}
use Rattle.xet_track.proofs.Running.{Begins}
use Rattle.xet_track.proofs.script.run_rest.Given as goal

abbrev pub invariant-lines : goal.invariant-lines
invariant-lines l = record {
  text : l.out.items ++ text_left l.run ≡ l.initial.out.items ++ text_left l.initial.run;
  part : Begins l.initial.out.items l.out.items;
  reads : reads_left l.run ≡ reads_left l.initial.run;
}

abbrev pub decreases-lines : goal.decreases-lines
decreases-lines l = length l.run.rest
