use Rattle.std.proofs.Common.{◌≡◌, drop}
use Rattle.std.specs.List.{concat}
use Rattle.xet_sinks.proofs.script_sink.has_bytes.Given as goal

abbrev pub invariant-loop-piece : goal.invariant-loop-piece
invariant-loop-piece l = concat (drop l.piece-index l.pieces) ≡ concat l.pieces
