-- What the two words of a `Claims` hold, against what its passes know, and what each step of a pass does.
use Rattle.std.specs.Prelude.{ℕ, ◌≡◌, ◌+◌, ◌-◌, ◌^◌, ◌<◌, ◌≤◌, min, true, false, cond, nat_lt, nat_eq, List, [], ◌∷◌}
use Rattle.std.specs.Prelude.{◌++◌, length}
use mathlib.Core.Option.{some}
use lib.ListN.{get_elem?}
use Rattle.atomic_table.specs.Table.{State, Step, Me}
use Rattle.xet_claims.specs.declared.claim_rule.View.{View}
use Rattle.xet_claims.specs.declared.claim_rule.Limits.{Limits}
use Rattle.xet_claims.specs.ClaimViews.{times, once_below, mark_of, raised_of, newcomer, gained, missed, halted, saw}

-- f of each view, added up
abbrev pub total : (View → ℕ) → List View → ℕ
total f [] = 0
total f (v ∷ vs) = f v + total f vs

-- what a view alone keeps: it missed at most as often as it weighs, and without weight it knows nothing
pub record Fits (l : Limits) (v : View) : Type 0 where
  pub misses : v.misses ≤ v.weight
  pub idle : v.weight ≡ 0 → v.drawn ≡ []
  pub calm : v.weight ≡ 0 → v.raised ≡ false
  pub blind : v.weight ≡ 0 → v.stopped ≡ false

-- The first word is how many numbers and misses the views hold together. Each number below it and below the count
-- stands once in one view, and no other number in any. The weights sum to the passes. The second word is 1 exactly
-- where a view says stopped, else 0, and where it is 1 a view set it.
pub record Facts (l : Limits) (taken mark : ℕ) (views : List View) : Type 0 where
  pub count : l.count ≤ 2 ^ 63
  pub passes : l.passes < 2 ^ 32
  pub fits : (i : ℕ) (v : View) → get_elem? views i ≡ some v → Fits l v
  pub weights : total (λ v. v.weight) views ≡ l.passes
  pub numbers : total (λ v. length v.drawn) views ≡ min taken l.count
  pub missed : total (λ v. v.misses) views ≡ taken - l.count
  pub once : (x : ℕ) → total (λ v. times x v.drawn) views ≡ once_below x (min taken l.count)
  pub marked : min 1 (total mark_of views) ≡ mark
  pub raised : mark ≤ total raised_of views

-- the rule of the table: there are two words, and they fit the views
pub record Kept (l : Limits) (s : State (Unit {0}) View) : Type 0 where
  pub taken : ℕ
  pub mark : ℕ
  pub words : s.words ≡ taken ∷ mark ∷ []
  pub facts : Facts l taken mark s.views

-- after a draw that found n in the first word
abbrev pub drew : View → ℕ → View
drew v n = cond (nat_lt n v.count) (gained v n) (missed v)

-- after a look that found n in the second word
abbrev pub looked : View → ℕ → View
looked v n = cond (nat_eq n 1) (saw v) v

-- a draw
abbrev pub Draws : Step (Unit {0}) → Me (Unit {0}) View → ℕ → Me (Unit {0}) View → Type 0
Draws s v found w = (w ≡ (drew v.0 found, v.1))

-- a stop
abbrev pub Halts : Step (Unit {0}) → Me (Unit {0}) View → ℕ → Me (Unit {0}) View → Type 0
Halts s v found w = (w ≡ (halted v.0, v.1))

-- a look: the word is 0 or 1, and 1 where the view said stopped
abbrev pub Looks : Step (Unit {0}) → Me (Unit {0}) View → ℕ → Me (Unit {0}) View → Type 0
Looks s v found w = (w ≡ (looked v.0 found, v.1)) × (mark_of v.0 ≤ found) × (found ≤ 1)

-- a view without one of its weight
abbrev pub lighter : View → View
lighter v = record v { weight = v.weight - 1 }

-- the view that gets this weight
abbrev pub apart : View → View
apart v = newcomer 1 v.count

-- a view that holds nothing any more
abbrev pub spent : View
spent = newcomer 0 0

-- what two views know, in one
abbrev pub gathered : View → View → View
gathered v w = record {
  drawn = v.drawn ++ w.drawn;
  misses = v.misses + w.misses;
  weight = v.weight + w.weight;
  stopped = cond v.stopped true w.stopped;
  raised = cond v.raised true w.raised;
  count = v.count;
}
