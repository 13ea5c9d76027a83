use Rattle.std.proofs.Common.{◌≡◌, ◌≤◌, length, take, drop}
use Rattle.std.specs.List.{concat}
use Rattle.xet_outside.specs.Told.{Took}
use Rattle.xet_outside.proofs.sink.Sink.write_vectored.Given as goal

abbrev pub invariant-loop-piece : goal.invariant-loop-piece
invariant-loop-piece g l =
    let told = g.Self.Sink.told in
    record {
      in_range : l.taken ≤ length (concat l.pieces);
      left : drop l.taken (concat l.pieces) ≡ concat (drop l.piece-index l.pieces);
      took : Took (told l.fn.self).took (told l.self).took (take l.taken (concat l.pieces));
      flushed : (told l.self).flushed ≡ (told l.fn.self).flushed;
      link : (told l.self).link ≡ (told l.fn.self).link;
      faults : (told l.self).faults ≡ (told l.fn.self).faults;
    }
