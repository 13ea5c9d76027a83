use Rattle.std.proofs.Common.{◌≡◌, ◌++◌, drop, take}
use Rattle.xet_track.specs.Lines.{before, behind}
use Rattle.xet_track.proofs.line.cut.Given as goal

abbrev pub invariant-loop-at : goal.invariant-loop-at
invariant-loop-at l = record {
  front : before l.sep l.text ≡ take l.at l.text ++ before l.sep (drop l.at l.text);
  back : behind l.sep l.text ≡ behind l.sep (drop l.at l.text);
}
