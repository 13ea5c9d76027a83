use Rattle.std.proofs.Common.{◌≡◌, ◌+◌, ◌-◌, ℕ, false, get_or, length}
use Rattle.xet_unordered_streams.proofs.early_terms.reach.Given as goal

abbrev pub invariant-loop-given : goal.invariant-loop-given
invariant-loop-given l = (n : ℕ) → get_or l.given.items n false ≡ get_or l.initial.given.items n false

abbrev pub decreases-loop-given : goal.decreases-loop-given
decreases-loop-given l = l.at + 1 - length l.given.items
