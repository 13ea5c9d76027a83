use Rattle.std.proofs.Common.{◌≡◌, ◌<◌, ℕ, None}
use Rattle.xet_leader.specs.LedTerms.{PlanTerm, kept_in}
use Rattle.xet_unordered_streams.specs.Placing.{is_early}
use Rattle.xet_unordered_streams.specs.steps.Dues.{IsWanted}
use Rattle.xet_unordered_streams.proofs.due_terms.first_due.Given as goal

-- none of those before is due
abbrev pub invariant-loop-skip : goal.invariant-loop-skip
invariant-loop-skip g l = (i : ℕ) → i < l.skip → (t : PlanTerm) → IsWanted l.leader (is_early l.early) i t
    → kept_in t ≡ None
