use Rattle.std.proofs.Common.{◌≡◌, ◌≤◌, drop, take}
use Rattle.std.specs.List.{concat}
use Rattle.xet_outside.specs.Told.{Took}
use Rattle.xet_queue.specs.Pieces.{bytes_before}
use Rattle.xet_queue.specs.Queues.{ready}
use Rattle.xet_queue.proofs.pieces.write_each.Given as goal

abbrev pub invariant-loop-i : goal.invariant-loop-i
invariant-loop-i g l =
    let told = g.S.Sink.told in
    record {
      rest : ready (drop l.i l.queue.items) ≡ drop l.i (ready l.queue.items);
      count : l.count ≡ bytes_before l.i (ready l.queue.items);
      took : Took (told l.initial.sink).took (told l.sink).took (concat (take l.i (ready l.queue.items)));
      flushed : (told l.sink).flushed ≡ (told l.initial.sink).flushed;
      link : (told l.sink).link ≡ (told l.initial.sink).link;
      faults : (told l.sink).faults ≡ (told l.initial.sink).faults;
    }
