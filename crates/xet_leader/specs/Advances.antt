-- What it does to a leader that its next terms are written.
use Rattle.std.specs.Prelude.{ℕ, ◌+◌, ◌-◌, ◌^◌, min, nat_le, cond, Bool, false, List, [], ◌∷◌, length}
use Rattle.xet_leader.specs.declared.leader.LedPlan.{LedPlan}
use Rattle.xet_leader.specs.Led.{Led}

-- the first plan has no term from this number on
abbrev pub first_ends : ℕ → List LedPlan → Bool
first_ends finished [] = false
first_ends finished (l ∷ ls) = nat_le (l.first + length l.block.terms) finished

-- the plans from the first one on that has
abbrev pub unfinished_plans : ℕ → List LedPlan → List LedPlan
unfinished_plans finished [] = []
unfinished_plans finished (l ∷ ls) =
    cond (first_ends finished (l ∷ ls)) (unfinished_plans finished ls) (l ∷ ls)

-- the terms before this number are finished
abbrev pub finished_at : ℕ → Led → Led
finished_at n l = record l { plans = unfinished_plans n l.plans; finished = n }

-- so many terms more are, a count that stops at u64::MAX
abbrev pub advanced : ℕ → Led → Led
advanced count l = finished_at (min (l.finished + count) (2 ^ 64 - 1)) l
