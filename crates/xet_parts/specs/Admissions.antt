-- What admitting planned terms does to a source of limits and to a history.
use Rattle.std.specs.Prelude.{ℕ, ◌≡◌, ◌+◌, ◌<◌, List, [], ◌∷◌, ◌++◌, length, map, Result, IfOk, IfErr}
use Rattle.xet_error.specs.declared.error.FileReconstructionError.{FileReconstructionError}
use Rattle.xet_error.specs.declared.error.FileReconstructionError.TheVariants as error
use Rattle.xet_events.specs.declared.event.Event.{Event}
use Rattle.xet_events.specs.declared.event.Event.TheVariants.{Admit}
use Rattle.xet_events.specs.Allowed.{IsAllowed}
use Rattle.xet_events.specs.Limits.{LimitCall, LimitTold}

-- a source was asked so often, and gave these limits one after another
abbrev pub GaveLimits : LimitTold → LimitTold → List ℕ → Type 0
GaveLimits before after [] = after ≡ before
GaveLimits before after (l ∷ ls) = (middle : LimitTold) × LimitCall before middle l × GaveLimits middle after ls

-- the events by which a term is admitted under each of these limits
abbrev pub admits : List ℕ → List Event
admits ls = map (λ l. Admit l) ls

-- terms were admitted, one under each limit that was given, but for these limits, which were given last
pub record Admitted (before after : LimitTold) (es fs : List Event) (unused : List ℕ) : Type 0 where
  pub limits : List ℕ
  pub given : GaveLimits before after (limits ++ unused)
  pub events : fs ≡ es ++ admits limits

-- so many terms wait still: none, or the next one may not be admitted under the limit that was given last
abbrev pub IsWaiting : ℕ → List Event → List ℕ → Type 0
IsWaiting left fs [] = left ≡ 0
IsWaiting left fs (l ∷ []) = (0 < left) × (IsAllowed fs (Admit l) → ⊥)
IsWaiting left fs (l ∷ k ∷ ls) = ⊥

-- of so many terms that waited these are left
pub record AdmitsOk (before after : LimitTold) (es fs : List Event) (waiting left : ℕ) : Type 0 where
  pub unused : List ℕ
  pub admitted : Admitted before after es fs unused
  pub counted : length admitted.limits + left ≡ waiting
  pub waits : IsWaiting left fs unused

-- memory was wanting for an event, whose limit was given
pub record AdmitsErr (before after : LimitTold) (es fs : List Event) (e : FileReconstructionError) : Type 0 where
  pub memory : e ≡ error.OutOfMemory
  pub last : ℕ
  pub admitted : Admitted before after es fs (last ∷ [])

-- one call of `admit_terms`
pub record AdmitTermsCall (before after : LimitTold) (es fs : List Event) (waiting : ℕ)
    (answer : Result ℕ FileReconstructionError) : Type 0 where
  pub ok : IfOk answer (AdmitsOk before after es fs waiting)
  pub err : IfErr answer (AdmitsErr before after es fs)
