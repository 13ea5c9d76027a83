-- What one turn of a leader does to a run, and what the loop of its turns does.
use Rattle.std.specs.Prelude.{◌≡◌, ◌+◌, ◌<◌, ◌≤◌, Bool, true, false, Result, Ok, OnOk, IfOk}
use Rattle.xet_outside.specs.Told.{SinkTold}
use Rattle.xet_error.specs.declared.error.FileReconstructionError.{FileReconstructionError}
use Rattle.xet_events.specs.Events.{written}
use Rattle.xet_writers.specs.Sequential.{Sequential}
use Rattle.xet_ties.specs.RunCalls.{IsFinished}
use Rattle.xet_ties.specs.Setup.{RunTold, Setup}
use Rattle.xet_leader.specs.Admission.{most_at_once}
use Rattle.xet_leader.specs.Led.{Led}
use Rattle.xet_stages.specs.Measures.{measure}
use Rattle.xet_leader.specs.Plans.{Answer}
use Rattle.xet_leader.specs.Steady.{IsSteady, LeadCall, Moment, no_loose}

-- a run that is steady, from some start
pub record IsSteadyRun {S : Type 0} (told : S → SinkTold) (g : Setup) (m : Moment) (l : Led)
    (v : Sequential S) : Type 0 where
  pub start : RunTold
  pub steady : IsSteady told g start m no_loose l v

-- over any start, a steady run is steady after a turn, or is to stop with its error. It answers whether all is
-- finished; else less is left
pub record TurnCall {S : Type 0} (told : S → SinkTold) (g : Setup) (m n : Moment) (l k : Led) (v w : Sequential S)
    (answer : Result Bool FileReconstructionError) : Type 0 where
  pub call : LeadCall told g m n no_loose no_loose l k v w answer
  pub done : (b : RunTold) → IsSteady told g b m no_loose l v
      → IfOk answer (λ all. all ≡ true → IsFinished g n.events (written n.events))
  pub falls : (b : RunTold) → IsSteady told g b m no_loose l v
      → IfOk answer (λ all. all ≡ false → measure g n.events k < measure g m.events l)
  -- where planned terms wait no plan is taken, and few are admitted
  pub waits : l.admitted < l.planned → OnOk answer (k.planned ≡ l.planned)
  pub few : OnOk answer (k.admitted ≤ l.admitted + most_at_once)

-- over any start, a steady run is steady after some turns
abbrev pub SoFar : {S : Type 0} → (S → SinkTold) → Setup → Moment → Moment → Led → Led → Sequential S → Sequential S
    → Type 0
SoFar told g m n l k v w = LeadCall {A = Unit {0}} told g m n no_loose no_loose l k v w (Ok tt)

-- over any start, a steady run is steady after the turns and all of it is finished, or it is to stop with their error
pub record LeadRun {S : Type 0} (told : S → SinkTold) (g : Setup) (m n : Moment) (l k : Led) (v w : Sequential S)
    (answer : Answer) : Type 0 where
  pub call : LeadCall told g m n no_loose no_loose l k v w answer
  pub done : (b : RunTold) → IsSteady told g b m no_loose l v
      → OnOk answer (IsFinished g n.events (written n.events))
