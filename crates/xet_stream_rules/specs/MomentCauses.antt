-- Why a part of a step fails.
use Rattle.std.specs.Prelude.{ℕ, ◌≡◌, ◌⊎◌, List, count_by, Contains}
use Rattle.xet_base.specs.Store.{Store}
use Rattle.xet_error.specs.declared.error.Corruption.{Corruption}
use Rattle.xet_error.specs.declared.error.FileReconstructionError.{FileReconstructionError}
use Rattle.xet_error.specs.declared.error.FileReconstructionError.TheVariants as error
use Rattle.xet_events.specs.declared.event.Event.{Event}
use Rattle.xet_events.specs.declared.event.Event.TheVariants.{Expired}
use Rattle.xet_events.specs.Events.{expires}
use Rattle.xet_ties.specs.Causes.{SomeRose}
use Rattle.xet_ties.specs.Setup.{IsOver, Setup}
use Rattle.xet_leader.specs.LedTerms.{OneFails, ahead}
use Rattle.xet_stream_rules.specs.Moments.{At}
use Rattle.xet_stream_rules.specs.Pulls.{BlockFailed, IsMissing, PlanFailed, RefreshFailed}
use Rattle.xet_stream_rules.specs.StepTold.{Asks}
use Rattle.xet_stream_rules.specs.Streams.{Carries, connections}

-- among the new events of a history a block got its last expired answer
pub record SpentIn (g : Setup) (new es : List Event) : Type 0 where
  pub lane : ℕ
  pub plan : ℕ
  pub block : ℕ
  pub last : Contains new (Expired lane plan block)
  pub reached : count_by (expires plan block) es ≡ g.tries

-- the error that this needs, but for want of memory
abbrev pub IsSpentError : FileReconstructionError → Type 0
IsSpentError e = (e ≡ error.UrlExpired) ⊎ (e ≡ error.OutOfMemory)

-- an answer, or a kept block, failed this test, and no store is told that the stream stands to
pub record CorruptedAt (g : Setup) (x y : At) (a : Asks) (k : Corruption) : Type 0 where
  pub untrue : (s : Store) → IsOver s x.clients → Carries (connections s) g x.events x.led → ⊥
  pub failed : PlanFailed g x.clients y.clients k ⊎ RefreshFailed g y.led.plans x.clients y.clients k
      ⊎ BlockFailed y.led.plans a k ⊎ OneFails (ahead y.led) k

-- the cause of an error, from one moment to a later one with these new events; want of memory is free
abbrev pub CauseAt : Setup → At → At → List Event → Asks → FileReconstructionError → Type 0
CauseAt g x y new a error.OutOfMemory = Unit {0}
CauseAt g x y new a error.ClientError = SomeRose x.clients y.clients
CauseAt g x y new a error.FileNotFound = IsMissing g x.clients y.clients
CauseAt g x y new a error.UrlExpired = SpentIn g new y.events
CauseAt g x y new a error.IoError = ⊥
CauseAt g x y new a (error.CorruptedReconstruction k) = CorruptedAt g x y a k
CauseAt g x y new a (error.ConfigurationError e) = ⊥
CauseAt g x y new a error.Cancelled = ⊥
CauseAt g x y new a (error.InternalWriterError w) = ⊥
