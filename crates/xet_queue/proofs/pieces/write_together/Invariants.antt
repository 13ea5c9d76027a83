use Rattle.std.proofs.Common.{◌≡◌, ◌≤◌, ◌<◌, ◌+◌, ◌-◌, [], length, take, get_or}
use Rattle.std.specs.List.{concat}
use Rattle.xet_outside.specs.Told.{Took}
use Rattle.xet_queue.specs.Pieces.{bytes_before}
use Rattle.xet_queue.proofs.pieces.write_together.Given as goal

abbrev pub invariant-loop-place : goal.invariant-loop-place
invariant-loop-place g l =
    let told = g.S.Sink.told in
    record {
      pieces : l.pieces ≡ l.fn.pieces;
      within : l.place.piece ≤ length l.fn.pieces;
      place : l.count ≡ bytes_before l.place.piece l.fn.pieces + l.place.taken;
      inside : l.place.piece < length l.fn.pieces → l.place.taken < length (get_or l.fn.pieces l.place.piece []);
      count : l.count ≤ length (concat l.fn.pieces);
      took : Took (told l.fn.sink).took (told l.sink).took (take l.count (concat l.fn.pieces));
      flushed : (told l.sink).flushed ≡ (told l.fn.sink).flushed;
      link : (told l.sink).link ≡ (told l.fn.sink).link;
      faults : (told l.sink).faults ≡ (told l.fn.sink).faults;
    }

abbrev pub decreases-loop-place : goal.decreases-loop-place
decreases-loop-place g l = length (concat l.fn.pieces) - l.count
