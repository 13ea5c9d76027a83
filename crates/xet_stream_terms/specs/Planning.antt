-- What looking for the next term does, which may ask for a plan.
use Rattle.std.specs.Prelude.{ℕ, ◌≡◌, ◌++◌, Bool, true, false, List, [], ◌∷◌}
use Rattle.std.specs.Prelude.{Option, Some, None, MatchOption}
use Rattle.xet_base.specs.declared.cas_types.FileRange.{FileRange}
use Rattle.xet_events.specs.declared.event.Event.{Event}
use Rattle.xet_events.specs.declared.event.Event.TheVariants.{Planned}
use Rattle.xet_events.specs.declared.event.PlannedBlock.{PlannedBlock}
use Rattle.xet_events.specs.declared.event.PlannedTerm.{PlannedTerm}
use Rattle.xet_history.specs.TrueHistory.{ReachesEnd}
use Rattle.xet_ties.specs.Setup.{Setup}
use Rattle.xet_leader.specs.declared.ahead.NextTerm.{NextTerm}
use Rattle.xet_leader.specs.LedTerms.{IsNextTerm, NoneHas, ahead}
use Rattle.xet_stream_rules.specs.StepTold.{MayAskFirst}
use Rattle.xet_stream_rules.specs.Moments.{At, Goes}

-- a range that has bytes is planned to its end or the file's exactly where the mark says so
pub record IsMarked (r : FileRange) (es : List Event) (reached : Bool) : Type 0 where
  pub yes : reached ≡ true → ReachesEnd r es
  pub no : reached ≡ false → ReachesEnd r es → ⊥

-- the events of a query: its plan's, where there is one
abbrev pub IsPlanOf : Option FileRange → List Event → Type 0
IsPlanOf None new = new ≡ []
IsPlanOf (Some q) new = (n : ℕ) × (ts : List PlannedTerm) × (bs : List PlannedBlock) × (new ≡ Planned n q ts bs ∷ [])

-- a query at most was asked and its plan recorded
pub record Plans (g : Setup) (x y : At) : Type 0 where
  pub asked : Option FileRange
  pub calls : MayAskFirst g.file asked x.clients y.clients
  pub new : List Event
  pub added : y.events ≡ x.events ++ new
  pub is : IsPlanOf asked new
  pub goes : Goes g x y
  pub finished : y.led.finished ≡ x.led.finished
  pub fetches : y.led.fetches ≡ x.led.fetches

-- the next term is planned, or the range is to its end and no term has bytes
pub record PlansNext (g : Setup) (x y : At) (reached : Bool) (next : Option NextTerm) : Type 0 where
  pub plans : Plans g x y
  pub marked : IsMarked g.range y.events reached
  pub next_is : MatchOption next (NoneHas (ahead y.led)) (IsNextTerm y.led)
  pub end : next ≡ None → ReachesEnd g.range y.events
