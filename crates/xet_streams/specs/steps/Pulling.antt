-- What the parts of one pull do.
use Rattle.std.specs.Prelude.{ℕ, ◌≡◌, ◌⊎◌, ◌<◌, ◌≤◌, Bool, true, false, List, length, Option, Some, None, MatchOption}
use Rattle.std.specs.Prelude.{IfSome}
use Rattle.std.specs.Prelude.{Result, Ok, Err}
use Rattle.xet_base.specs.declared.item_id.UniqueID.{UniqueID}
use Rattle.xet_base.specs.Store.{Store}
use Rattle.xet_outside.specs.Told.{CacheEntry, CacheTold, ClientTold}
use Rattle.xet_error.specs.declared.error.FileReconstructionError.{FileReconstructionError}
use Rattle.xet_error.specs.declared.error.FileReconstructionError.TheVariants as error
use Rattle.xet_error.specs.declared.error.Setting.{Setting}
use Rattle.xet_events.specs.declared.event.Event.{Event}
use Rattle.xet_events.specs.Allowed.{IsAllowedHistory}
use Rattle.xet_events.specs.Limits.{LimitTold}
use Rattle.xet_terms.specs.Managers.{IsManager}
use Rattle.xet_ties.specs.Causes.{refused_setting}
use Rattle.xet_ties.specs.Setup.{Setup}
use Rattle.xet_leader.specs.declared.leader.Job.{Job}
use Rattle.xet_leader.specs.Led.{Led}
use Rattle.xet_leader.specs.Starts.{first_led}
use Rattle.xet_stream_rules.specs.Moments.{at}
use Rattle.xet_stream_rules.specs.Pulls.{Answer, IsRefused, PullWay, StepCall, pulled_once}
use Rattle.xet_stream_rules.specs.Streams.{Carries, IsOpen, StandsStill, StreamView, fetches_in, telling_so}
use Rattle.xet_streams.specs.steps.Stepping.{StepAnswer, TakesStep}

-- ---- the first step

-- a leader of which nothing was asked
pub record IsFirst (j : Job) (led : Led) : Type 0 where
  pub progress : Option UniqueID
  pub is : led ≡ first_led j progress
  pub manager : IsManager led.manager

-- the settings can be met, and the range has bytes
pub record CanBegin (g : Setup) (cs : List ClientTold) : Type 0 where
  pub some : g.range.start < g.range.end
  pub unrefused : refused_setting g cs ≡ None

-- the leader from the first step on; memory may be wanting for it
abbrev pub BeginsCall : Job → Option Led → Option Led → Result (Unit {0}) FileReconstructionError → Type 0
BeginsCall j o q (Ok tt) = (led : Led) × (q ≡ Some led) × ((o ≡ Some led) ⊎ ((o ≡ None) × IsFirst j led))
BeginsCall j o q (Err e) = (o ≡ None) × (q ≡ None) × (e ≡ error.OutOfMemory)

-- a leader with which a step starts: the one that was there, or a new one
pub record IsStart (g : Setup) (es : List Event) (o : Option Led) (led : Led) : Type 0 where
  pub fetches : led.fetches ≡ fetches_in o
  pub carries : (store : Option Store) (entries : Option (List CacheEntry))
      → IfSome o (Carries (telling_so store entries) g es) → Carries (telling_so store entries) g es led

-- ---- a step

-- a step was taken
pub record StepsFrom (g : Setup) (es fs : List Event) (o q : Option Led) (cs ds : List ClientTold) (k l : CacheTold)
    (before after : LimitTold) (reached : Bool) (answer : StepAnswer) : Type 0 where
  pub led : Led
  pub now : Led
  pub start : IsStart g es o led
  pub is : q ≡ Some now
  pub takes : TakesStep g (at es led cs k) (at fs now ds l) before after reached answer

-- memory was wanting for the leader, and all is as before
pub record StepsShort (es fs : List Event) (o q : Option Led) (cs ds : List ClientTold) (k l : CacheTold)
    (before after : LimitTold) (answer : StepAnswer) : Type 0 where
  pub memory : answer ≡ Err error.OutOfMemory
  pub events : fs ≡ es
  pub led : q ≡ o
  pub clients : ds ≡ cs
  pub cache : l ≡ k
  pub limits : after ≡ before

-- one call of `step_over`
abbrev pub StepsOver : Setup → List Event → List Event → Option Led → Option Led → List ClientTold → List ClientTold
    → CacheTold → CacheTold → LimitTold → LimitTold → Bool → StepAnswer → Type 0
StepsOver g es fs o q cs ds k l before after reached answer =
    StepsFrom g es fs o q cs ds k l before after reached answer ⊎ StepsShort es fs o q cs ds k l before after answer

-- one call of `step`
pub record StepPull (v n : StreamView) (cs ds : List ClientTold) (k l : CacheTold) (answer : Answer) : Type 0 where
  pub step : StepCall (pulled_once v) n cs ds k l answer
  pub allowed : IsAllowedHistory n.events
  pub stands : StandsStill cs k v n

-- ---- before it

-- the stream's own flag was asked, unless it is closed already
pub record AsksFlag (b n : StreamView) (closed : Bool) : Type 0 where
  pub seen : ℕ
  pub later : b.seen ≤ seen
  pub is : n ≡ record b { seen = seen }
  pub yes : closed ≡ true → IsOpen n → ⊥
  pub no : closed ≡ false → IsOpen n

-- no setting refuses a pull over so many connections
abbrev pub IsUnrefused : StreamView → ℕ → Type 0
IsUnrefused v n = (cs : List ClientTold) → length cs ≡ n → (e : Setting) → IsRefused v cs e → ⊥

-- or this one does
abbrev pub Refusal : StreamView → ℕ → Option Setting → Type 0
Refusal v n o = MatchOption o (IsUnrefused v n)
    (λ e. (cs : List ClientTold) → length cs ≡ n → IsRefused v cs e)

-- one call of `pull_open`
pub record OpenPull (v n : StreamView) (cs ds : List ClientTold) (k l : CacheTold) (answer : Answer) : Type 0 where
  pub way : PullWay v n cs ds k l answer
  pub allowed : IsAllowedHistory n.events
  pub stands : StandsStill cs k v n
