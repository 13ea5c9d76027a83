use Rattle.std.proofs.Common.{◌≡◌}
use Rattle.xet_pattern.specs.Patterns.{pattern}
use Rattle.xet_pattern.proofs.made_file.pattern.Given as goal

abbrev pub invariant-loop-place : goal.invariant-loop-place
invariant-loop-place l = l.bytes.items ≡ pattern l.place
