-- What admitting the terms up to the next one does.
use Rattle.std.specs.Prelude.{ℕ, ◌≡◌, ◌+◌, ◌-◌, ◌^◌, ◌<◌, ◌≤◌, ◌++◌, min, List, [], ◌∷◌, length, Result, OnOk, IfErr}
use Rattle.xet_error.specs.declared.error.FileReconstructionError.{FileReconstructionError}
use Rattle.xet_error.specs.declared.error.FileReconstructionError.TheVariants as error
use Rattle.xet_events.specs.Limits.{LimitTold}
use Rattle.xet_parts.specs.Admissions.{GaveLimits, admits}
use Rattle.xet_ties.specs.Setup.{Setup}
use Rattle.xet_leader.specs.declared.ahead.NextTerm.{NextTerm}
use Rattle.xet_leader.specs.Led.{Led}
use Rattle.xet_stream_rules.specs.Moments.{At, Goes, Lasts}

-- how many terms may be admitted, so that this one is the last
abbrev pub most_of : Led → NextTerm → ℕ
most_of l n = min (min (l.finished + n.empties) (2 ^ 64 - 1) + 1) (2 ^ 64 - 1) - l.admitted

-- terms were admitted, one under each limit that was given, but for these limits, which were given last
pub record Admits (g : Setup) (x y : At) (before after : LimitTold) (unused : List ℕ) : Type 0 where
  pub limits : List ℕ
  pub added : y.events ≡ x.events ++ admits limits
  pub given : GaveLimits before after (limits ++ unused)
  pub lasts : Lasts g x y

-- all up to the next one are, and each limit admitted one
pub record AdmitsNext (g : Setup) (x y : At) (before after : LimitTold) (n : NextTerm) : Type 0 where
  pub admits : Admits g x y before after []
  pub goes : Goes g x y
  pub led : y.led ≡ record x.led { admitted = y.led.admitted }
  pub reached : x.led.finished + n.empties < y.led.admitted

-- one call of `admit_next`
pub record AdmitsCall (g : Setup) (x y : At) (before after : LimitTold) (n : NextTerm)
    (answer : Result (Unit {0}) FileReconstructionError) : Type 0 where
  pub ok : OnOk answer (AdmitsNext g x y before after n)
  pub err : IfErr answer (λ e. (e ≡ error.OutOfMemory) × (last : ℕ) × Admits g x y before after (last ∷ []))

-- those that wait are, each under a limit of its own; the limit that was given last may have refused one
pub record AdmitsSome (g : Setup) (x y : At) (before after : LimitTold) : Type 0 where
  pub unused : List ℕ
  pub few : length unused ≤ 1
  pub admits : Admits g x y before after unused
  pub goes : Goes g x y
  pub led : y.led ≡ record x.led { admitted = y.led.admitted }

-- one call of `admit_ahead`
pub record AheadCall (g : Setup) (x y : At) (before after : LimitTold)
    (answer : Result (Unit {0}) FileReconstructionError) : Type 0 where
  pub ok : OnOk answer (AdmitsSome g x y before after)
  pub err : IfErr answer (λ e. (e ≡ error.OutOfMemory) × (last : ℕ) × Admits g x y before after (last ∷ [])
      × (y.led ≡ x.led))
