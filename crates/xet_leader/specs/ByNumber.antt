-- A plan of a leader, found by its number.
use Rattle.std.specs.Prelude.{ℕ, zero, suc, ◌-◌, ◌==◌, cond, List, [], ◌∷◌}
use Rattle.xet_leader.specs.declared.leader.LedPlan.{LedPlan}

-- the place of the plan of this number, counted from the first one, where numbers follow one another
abbrev pub plan_index : List LedPlan → ℕ → ℕ
plan_index [] p = 0
plan_index (l ∷ ls) p = p - l.number

-- the plan changed so, where it has this number
abbrev pub only : ℕ → (LedPlan → LedPlan) → LedPlan → LedPlan
only p f l = cond (l.number == p) (f l) l

-- the element at a place changed so
abbrev pub change_at : {A : Type 0} → ℕ → (A → A) → List A → List A
change_at i f [] = []
change_at zero f (x ∷ xs) = f x ∷ xs
change_at (suc i) f (x ∷ xs) = x ∷ change_at i f xs

-- the plan of this number changed so
abbrev pub change_plan : ℕ → (LedPlan → LedPlan) → List LedPlan → List LedPlan
change_plan p f ls = change_at (plan_index ls p) (only p f) ls
