-- The terms of a run from the first one on that isn't written.
use Rattle.std.specs.Prelude.{ℕ, ◌≡◌, ◌-◌, ◌≤◌, ◌&&◌, Bool, true, List, [], ◌∷◌, take, drop, count_by}
use Rattle.std.specs.List.{sum_by}
use Rattle.xet_events.specs.declared.event.Event.{Event}
use Rattle.xet_ties.specs.Saids.{has_bytes}
use Rattle.xet_events.specs.Events.{Task, is_admit, is_kept, needs, planned, size, written}

-- the first planned terms, so many, are wholly written, and no byte more; they are admitted
pub record IsAt (es : List Event) (finished : ℕ) : Type 0 where
  pub admitted : finished ≤ count_by is_admit es
  pub written_are : written es ≡ sum_by size (take finished (planned es))

-- the admitted terms after the first ones
abbrev pub open_terms : List Event → ℕ → List Task
open_terms es finished = take (count_by is_admit es - finished) (drop finished (planned es))

-- a term with its end has bytes
abbrev pub end_has_bytes : ℕ × Task → Bool
end_has_bytes c = has_bytes c.1

-- a term has bytes, and its block is this one
abbrev pub is_wanted : ℕ → ℕ → Task → Bool
is_wanted plan block t = has_bytes t && needs plan block t

-- each of the terms that has bytes has its block kept
abbrev pub AreKept : List Event → List Task → Type 0
AreKept es [] = Unit {0}
AreKept es (t ∷ ts) = (has_bytes t ≡ true → is_kept es t.plan t.term.block ≡ true) × AreKept es ts
