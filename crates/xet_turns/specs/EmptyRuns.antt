-- What a run over an empty range does.
use Rattle.std.specs.Prelude.{◌≡◌, List, None}
use Rattle.xet_outside.specs.Told.{SinkTold}
use Rattle.xet_events.specs.declared.event.Event.{Event}
use Rattle.xet_ties.specs.Causes.{refused_setting}
use Rattle.xet_ties.specs.RunCalls.{RunCall}
use Rattle.xet_ties.specs.Setup.{IsEmptyRange, RunTold, Setup}
use Rattle.xet_turns.specs.Ending.{LastCall, RecordedEnd, RunAnswer}

-- the sink was flushed alone, and an error recorded
pub record EmptyTurn (before after : SinkTold) (es fs : List Event) (answer : RunAnswer) : Type 0 where
  pub ended : RunAnswer
  pub flushed : LastCall before after 0 ended
  pub records : RecordedEnd es fs ended answer

-- over any arguments with this sink, where all settings can be met and the range is empty, that is a run
abbrev pub EmptyRuns : SinkTold → SinkTold → List Event → RunAnswer → Type 0
EmptyRuns before after fs answer = (g : Setup) (b : RunTold) → b.sink ≡ before → refused_setting g b.clients ≡ None
    → IsEmptyRange g.range → RunCall g b (record b { sink = after }) fs answer
