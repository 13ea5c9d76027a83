-- What one join does: the lanes of a round, which draw its fetches, and the writing beside them.
use Rattle.std.specs.Prelude.{ℕ, ◌≡◌, List, length, map, Result, All, IfOk, OnErr}
use Rattle.std.specs.List.{AllZip}
use Rattle.xet_base.specs.declared.error.OutOfMemory.{OutOfMemory}
use Rattle.xet_outside.specs.Told.{ClientTold, SinkTold}
use Rattle.xet_writers.specs.Sequential.{ReadyCall, Sequential}
use Rattle.xet_ties.specs.Lanes.{Ask, DrewApart}
use Rattle.xet_lane.specs.declared.joined.Joined.{Joined}
use Rattle.xet_lane.specs.Fetches.{NoneFailed, NoneFailedBefore}
use Rattle.xet_lane.specs.Ends.{End, NoneEndedBadly, ended, steps_of}

-- a lane made a step for each of its numbers, and none failed
abbrev pub IsWhole : List ℕ → End → Type 0
IsWhole drawn e = (length drawn ≡ length e.steps) × NoneFailed e.steps

-- the lanes drew the fetches apart. Where memory sufficed and no step failed, they drew all, and made a step for each;
-- and a lane whose step failed went on no more
pub record LanesDrew (fs : List Ask) (before after : List ClientTold) (es : List End) : Type 0 where
  pub drew : DrewApart fs before after (steps_of es)
  pub whole : NoneEndedBadly es → (drew.count ≡ length fs) × AllZip IsWhole drew.drawn es
  pub last : All (λ (e : End). NoneFailedBefore e.steps) es

-- what the connections tell, and the writer, at one moment
pub record RoundTold (S : Type 0) : Type 0 where
  pub clients : List ClientTold
  pub writer : Sequential S

-- one join. Without memory for it nothing was asked, and nothing written
pub record RoundCall {S : Type 0} (told : S → SinkTold) (fs : List Ask) (before after : RoundTold S)
    (answer : Result Joined OutOfMemory) : Type 0 where
  pub refused : OnErr answer (after ≡ before)
  pub wrote : IfOk answer (λ j. ReadyCall told before.writer after.writer j.wrote)
  pub drew : IfOk answer (λ j. LanesDrew fs before.clients after.clients (map ended j.ends.items))
