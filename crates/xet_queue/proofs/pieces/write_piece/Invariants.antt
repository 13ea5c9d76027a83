use Rattle.std.proofs.Common.{◌≡◌, ◌≤◌, ◌-◌, length, take}
use Rattle.xet_outside.specs.Told.{Took}
use Rattle.xet_queue.proofs.pieces.write_piece.Given as goal

abbrev pub invariant-loop-at : goal.invariant-loop-at
invariant-loop-at g l =
    let told = g.S.Sink.told in
    record {
      in_range : l.at ≤ length l.piece;
      took : Took (told l.initial.sink).took (told l.sink).took (take l.at l.piece);
      flushed : (told l.sink).flushed ≡ (told l.initial.sink).flushed;
      link : (told l.sink).link ≡ (told l.initial.sink).link;
      faults : (told l.sink).faults ≡ (told l.initial.sink).faults;
    }

abbrev pub decreases-loop-at : goal.decreases-loop-at
decreases-loop-at g l = length l.piece - l.at
