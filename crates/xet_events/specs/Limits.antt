-- What a source of limits tells.
use Rattle.std.specs.Prelude.{ℕ, zero, suc, ◌≡◌, ◌≤◌, ◌++◌, List, [], ◌∷◌, Option, IfSome, option_map}

-- what a source of limits tells, each where it is told: the one limit that it always answers, the limit that it never
-- passes, and its answers so far
pub record LimitTold : Type 0 where
  pub fixed : Option ℕ
  pub most : Option ℕ
  pub limits : Option (List ℕ)

-- one ask for a limit: the fixed limit stays and is the answer, the greatest one stays and isn't passed, and the list
-- is longer by the answer
pub record LimitCall (before after : LimitTold) (answer : ℕ) : Type 0 where
  pub fixed : after.fixed ≡ before.fixed
  pub is_fixed : IfSome before.fixed (λ n. answer ≡ n)
  pub most : after.most ≡ before.most
  pub within : IfSome before.most (λ n. answer ≤ n)
  pub listed : after.limits ≡ option_map (λ ls. ls ++ answer ∷ []) before.limits

-- the first n answers of a script of limits: its numbers in order, and 0 after them
abbrev pub scripted : ℕ → List ℕ → List ℕ
scripted zero ls = []
scripted (suc n) [] = 0 ∷ scripted n []
scripted (suc n) (l ∷ ls) = l ∷ scripted n ls
