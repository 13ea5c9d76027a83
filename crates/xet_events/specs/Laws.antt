-- Laws of every allowed history.
use Rattle.std.specs.Prelude.{ℕ, ◌≡◌, ◌≤◌, ◌++◌, true, false, List, [], ◌∷◌, max, Some, MatchOption, slice_get}
use Rattle.std.specs.Prelude.{count_by}
use Rattle.std.specs.List.{list_any}
use Rattle.xet_error.specs.declared.error.FileReconstructionError.{FileReconstructionError}
use Rattle.xet_events.specs.declared.event.Event.{Event}
use Rattle.xet_events.specs.declared.event.Event.TheVariants.{Admit}
use Rattle.xet_events.specs.Events.{size, planned, is_admit, unwritten, keeps, is_kept, expires, first_error}
use Rattle.xet_events.specs.Allowed.{IsAllowedHistory}

-- a block of a plan has at most one Fetched or Cached event
abbrev pub KeptOnce : Type 0
KeptOnce = (es : List Event) → IsAllowedHistory es → (plan block : ℕ) → count_by (keeps plan block) es ≤ 1

-- and no Expired event after it
abbrev pub NoneExpiresAfter : Type 0
NoneExpiresAfter = (before after : List Event) → IsAllowedHistory (before ++ after)
    → (plan block : ℕ) → is_kept before plan block ≡ true → list_any (expires plan block) after ≡ false

-- the first error stays
abbrev pub FirstErrorStays : Type 0
FirstErrorStays = (before after : List Event) (e : FileReconstructionError)
    → first_error before ≡ Some e → first_error (before ++ after) ≡ Some e

-- just after each Admit event the unwritten bytes are within its limit, or those of the term that it admits
abbrev pub WithinLimit : Type 0
WithinLimit = (before : List Event) (limit : ℕ) (after : List Event) → IsAllowedHistory (before ++ Admit limit ∷ after)
    → MatchOption (slice_get (planned before) (count_by is_admit before)) ⊥
    (λ t. unwritten (before ++ Admit limit ∷ []) ≤ max limit (size t))
