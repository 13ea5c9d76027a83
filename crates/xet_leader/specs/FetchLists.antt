-- The blocks that a run is to fetch, against its history.
use Rattle.std.specs.Prelude.{ℕ, ◌≡◌, ◌⊎◌, true, false, List, [], ◌∷◌}
use Rattle.xet_events.specs.declared.event.Event.{Event}
use Rattle.xet_events.specs.Allowed.{IsMissing}
use Rattle.xet_events.specs.Events.{Task, is_kept}
use Rattle.xet_ties.specs.Saids.{has_bytes}
use Rattle.xet_ties.specs.Windows.{open_terms}
use Rattle.xet_leader.specs.declared.missing_blocks.BlockAt.{BlockAt}
use Rattle.xet_leader.specs.Lacking.{lists}

abbrev pub Each : {A : Type 0} → (A → Type 0) → List A → Type 0
Each P [] = Unit {0}
Each P (x ∷ xs) = P x × Each P xs

-- no two are the same
abbrev pub AreApart : List BlockAt → Type 0
AreApart [] = Unit {0}
AreApart (c ∷ cs) = (lists cs c ≡ false) × AreApart cs

-- the block of a planned term
abbrev pub place_of : Task → BlockAt
place_of t = record { plan = t.plan; block = t.term.block }

-- where it has bytes, its block is kept, or listed
abbrev pub IsKeptOrListed : List Event → List BlockAt → Task → Type 0
IsKeptOrListed es cs t =
    has_bytes t ≡ true → (is_kept es t.plan t.term.block ≡ true) ⊎ (lists cs (place_of t) ≡ true)

-- missing blocks, each once, and of the admitted terms that aren't written no block is missing besides them
pub record IsFetchList (es : List Event) (finished : ℕ) (cs : List BlockAt) : Type 0 where
  pub missing : Each (λ c. IsMissing es c.plan c.block) cs
  pub apart : AreApart cs
  pub whole : Each (IsKeptOrListed es cs) (open_terms es finished)
