use Rattle.std.proofs.Common.{◌≡◌, ◌++◌, length, min, take}
use Rattle.std.specs.List.{concat}
use Rattle.xet_sinks.proofs.script_sink.add_front.Given as goal

abbrev pub invariant-loop-piece : goal.invariant-loop-piece
invariant-loop-piece l = record {
  added : l.added ≡ min l.count (length (concat (take l.piece-index l.pieces)));
  taken : l.taken.items ≡ l.initial.taken.items ++ take l.count (concat (take l.piece-index l.pieces));
}
