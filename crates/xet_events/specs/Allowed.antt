-- Which event may follow which.
use Rattle.std.specs.Prelude.{ℕ, ◌≡◌, ◌+◌, ◌<◌, ◌≤◌, ◌⊎◌, true, false, List, [], ◌∷◌, ◌++◌, length, None, MatchOption}
use Rattle.std.specs.Prelude.{count_by, slice_get}
use Rattle.std.specs.List.{list_any}
use Rattle.xet_events.specs.declared.event.PlannedTerm.{PlannedTerm}
use Rattle.xet_events.specs.declared.event.Event.{Event}
use Rattle.xet_events.specs.declared.event.Event.TheVariants.{Planned, Admit, Fetched, Cached, Expired, Refreshed}
use Rattle.xet_events.specs.declared.event.Event.TheVariants.{Wrote}
use Rattle.xet_events.specs.declared.event.Event.TheVariants.{Fail, Cancel}
use Rattle.xet_events.specs.Events.{size, needs, planned, plan_count, planned_end, is_admit, written, unwritten}
use Rattle.xet_events.specs.Events.{unfinished, is_kept, is_stale, first_error, is_cancel}

-- no Fail or Cancel came
abbrev pub IsRunning : List Event → Type 0
IsRunning es = first_error es ≡ None

-- the terms adjoin from this place on, none is reversed, and each has one of so many blocks
abbrev pub Adjoin : ℕ → ℕ → List PlannedTerm → Type 0
Adjoin place blocks [] = Unit {0}
Adjoin place blocks (t ∷ ts) =
    (t.byte_range.start ≡ place) × (place ≤ t.byte_range.end) × (t.block < blocks) × Adjoin t.byte_range.end blocks ts

-- an admitted term that isn't wholly written has this block, and it isn't kept
pub record IsMissing (es : List Event) (plan block : ℕ) : Type 0 where
  pub wanted : list_any (λ c. needs plan block c.1) (unfinished es) ≡ true
  pub absent : is_kept es plan block ≡ false

-- there is a planned term that isn't admitted, and no bytes are unwritten or it fits the limit beside them
abbrev pub MayAdmit : ℕ → List Event → Type 0
MayAdmit limit es =
    MatchOption (slice_get (planned es) (count_by is_admit es)) ⊥
    (λ t. (unwritten es ≡ 0) ⊎ (unwritten es + size t ≤ limit))

-- the oldest admitted term that isn't wholly written has its block kept and so many bytes left
abbrev pub MayWrite : List Event → ℕ → Type 0
MayWrite es taken =
    MatchOption (slice_get (unfinished es) 0) ⊥
    (λ c. (is_kept es c.1.plan c.1.term.block ≡ true) × (written es + taken ≤ c.0))

-- the event may come after these events
abbrev pub IsAllowed : List Event → Event → Type 0
IsAllowed es (Planned plan query terms blocks) = IsRunning es × (plan ≡ plan_count es + 1)
    × Adjoin (planned_end es query.start) (length blocks) terms
IsAllowed es (Admit limit) = IsRunning es × MayAdmit limit es
IsAllowed es (Fetched lane plan block) = IsRunning es × IsMissing es plan block
IsAllowed es (Cached plan block) = IsRunning es × IsMissing es plan block
IsAllowed es (Expired lane plan block) = IsRunning es × IsMissing es plan block
IsAllowed es (Refreshed plan) = IsRunning es × (is_stale es plan ≡ true)
IsAllowed es (Wrote taken) = IsRunning es × (1 ≤ taken) × MayWrite es taken
IsAllowed es (Fail error) = list_any is_cancel es ≡ false
IsAllowed es Cancel = IsRunning es

-- each of the events is allowed after those before it
abbrev pub AllowedAfter : List Event → List Event → Type 0
AllowedAfter before [] = Unit {0}
AllowedAfter before (e ∷ es) = IsAllowed before e × AllowedAfter (before ++ e ∷ []) es

-- from no events on
abbrev pub IsAllowedHistory : List Event → Type 0
IsAllowedHistory es = AllowedAfter [] es
