use Rattle.std.proofs.Common.{◌≡◌, ◌≤◌, ◌+◌, ◌-◌, length, drop}
use Rattle.std.specs.List.{concat}
use Rattle.xet_queue.specs.Pieces.{bytes_before}
use Rattle.xet_queue.proofs.pieces.pass.Given as goal

abbrev pub invariant-loop-at : goal.invariant-loop-at
invariant-loop-at l = record {
  within : l.at ≤ length l.pieces;
  left : l.left ≤ length (concat (drop l.at l.pieces));
  place : bytes_before l.at l.pieces + l.left ≡ bytes_before l.fn.at l.pieces + l.fn.taken;
}

abbrev pub decreases-loop-at : goal.decreases-loop-at
decreases-loop-at l = length l.pieces - l.at
