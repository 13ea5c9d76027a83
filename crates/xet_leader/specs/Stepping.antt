-- What the parts of a turn that take one step alone do to a leader, a history, a connection and a cache.
use Rattle.std.specs.Prelude.{ℕ, ◌≡◌, ◌+◌, ◌-◌, Bool, true, false, List, Result, OnOk, OnErr, IfOk, IfErr, min}
use Rattle.xet_outside.specs.Told.{CacheTold, ClientTold}
use Rattle.xet_error.specs.declared.error.FileReconstructionError.{FileReconstructionError}
use Rattle.xet_error.specs.declared.error.FileReconstructionError.TheVariants as error
use Rattle.xet_events.specs.declared.event.Event.{Event}
use Rattle.xet_events.specs.Limits.{LimitTold}
use Rattle.xet_parts.specs.Admissions.{AdmitsOk}
use Rattle.xet_leader.specs.declared.missing_blocks.BlockAt.{BlockAt}
use Rattle.xet_leader.specs.Admission.{AdmitFails}
use Rattle.xet_leader.specs.ByNumber.{plan_index}
use Rattle.xet_leader.specs.Expiries.{CountOne}
use Rattle.xet_leader.specs.Led.{Led}
use Rattle.xet_leader.specs.Looks.{EndsShort, LookedPlace}
use Rattle.xet_leader.specs.Places.{place_at}
use Rattle.xet_leader.specs.Plans.{Answer}
use Rattle.xet_leader.specs.Refreshing.{RefreshedAt}

-- of the terms that wait so many at most may be admitted
abbrev pub some_waiting : Led → ℕ → ℕ
some_waiting l most = min (l.planned - l.admitted) most

-- of these so many are left
pub record AdmittedSome (most : ℕ) (before after : LimitTold) (es fs : List Event) (l k : Led) : Type 0 where
  pub left : ℕ
  pub admits : AdmitsOk before after es fs (some_waiting l most) left
  pub led : k ≡ record l { admitted = l.admitted + (some_waiting l most - left) }

-- one call of `admit_some`
pub record AdmitSome (most : ℕ) (before after : LimitTold) (es fs : List Event) (l k : Led) (answer : Answer)
    : Type 0 where
  pub ok : OnOk answer (AdmittedSome most before after es fs l k)
  pub err : IfErr answer (AdmitFails before after es fs l k)

-- one call of `look_up_at`
pub record LookedAt (before after : CacheTold) (es fs : List Event) (l k : Led) (c : BlockAt)
    (answer : Result Bool FileReconstructionError) : Type 0 where
  pub ok : IfOk answer (LookedPlace before after es fs l.plans k.plans c)
  pub err : OnErr answer (EndsShort before after es fs)
  pub memory : IfErr answer (λ e. e ≡ error.OutOfMemory)
  pub led : k ≡ record l { plans = k.plans }

-- one call of `count_at`
pub record CountedAt (tries : ℕ) (c : BlockAt) (l k : Led) (answer : Answer) : Type 0 where
  pub counts : CountOne tries (place_at c) l.plans k.plans answer
  pub led : k ≡ record l { plans = k.plans }

-- one call of `refresh_at`
pub record RefreshedPlan (multi : Bool) (number : ℕ) (c n : ClientTold) (es fs : List Event) (l k : Led)
    (answer : Answer) : Type 0 where
  pub call : RefreshedAt multi number (plan_index l.plans number) (record { client = c; events = es; plans = l.plans })
      (record { client = n; events = fs; plans = k.plans }) answer
  pub led : k ≡ record l { plans = k.plans }
