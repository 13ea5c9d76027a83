use Rattle.std.proofs.Common.{map, take}
use Rattle.xet_mirror_parts.specs.steps.Gathered.{IsGathered}
use Rattle.xet_mirror_parts.proofs.copied.Copied.records_of.Given as goal

abbrev pub invariant-loop-term : goal.invariant-loop-term
invariant-loop-term l = IsGathered l.self.xorbs (map (λ e. e.xorb) (take l.term-index l.terms)) l.named l.records
