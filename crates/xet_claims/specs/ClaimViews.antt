-- What a pass knows, and what a call adds to it.
use Rattle.std.specs.Prelude.{ℕ, ◌+◌, true, false, cond, nat_lt, nat_eq, List, [], ◌∷◌, ◌++◌}
use Rattle.xet_claims.specs.declared.claim_rule.View.{View}

-- how often x stands in the list
abbrev pub times : ℕ → List ℕ → ℕ
times x [] = 0
times x (y ∷ ys) = cond (nat_eq y x) 1 0 + times x ys

-- once where x is below n, else not at all
abbrev pub once_below : ℕ → ℕ → ℕ
once_below x n = cond (nat_lt x n) 1 0

-- what is known before anything is drawn: how much the pass weighs, and how many numbers there are
abbrev pub newcomer : ℕ → ℕ → View
newcomer weight count =
    record { drawn = []; misses = 0; weight = weight; stopped = false; raised = false; count = count }

-- after a draw that gave n
abbrev pub gained : View → ℕ → View
gained v n = record v { drawn = v.drawn ++ n ∷ [] }

-- after a draw that gave none
abbrev pub missed : View → View
missed v = record v { misses = v.misses + 1 }

-- after it set the mark
abbrev pub halted : View → View
halted v = record v { stopped = true; raised = true }

-- after it saw the mark
abbrev pub saw : View → View
saw v = record v { stopped = true }

-- 1 where it set the mark, else 0
abbrev pub raised_of : View → ℕ
raised_of v = cond v.raised 1 0

-- 1 where it knows that the mark was set, else 0
abbrev pub mark_of : View → ℕ
mark_of v = cond v.stopped 1 0
