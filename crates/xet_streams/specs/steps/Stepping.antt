-- What one step of a stream does to its parts.
use Rattle.std.specs.Prelude.{ℕ, ◌≡◌, ◌⊎◌, ◌+◌, ◌<◌, ◌++◌, Bool, false, List, [], ◌∷◌, All, length, take}
use Rattle.std.specs.Prelude.{slice_get}
use Rattle.std.specs.Prelude.{Option, Some, None, Result, IfOk, IfErr}
use Rattle.xet_error.specs.declared.error.FileReconstructionError.{FileReconstructionError}
use Rattle.xet_error.specs.declared.error.FileReconstructionError.TheVariants as error
use Rattle.xet_events.specs.declared.event.Event.{Event}
use Rattle.xet_events.specs.declared.event.Event.TheVariants.{Wrote}
use Rattle.xet_events.specs.Limits.{LimitTold}
use Rattle.xet_ties.specs.Setup.{Setup}
use Rattle.xet_leader.specs.declared.ahead.NextTerm.{NextTerm}
use Rattle.xet_leader.specs.declared.leader.LedPlan.{LedPlan}
use Rattle.xet_leader.specs.declared.missing_blocks.BlockAt.{BlockAt}
use Rattle.xet_leader.specs.Advances.{advanced}
use Rattle.xet_leader.specs.LedTerms.{IsPieceIn, PlanTerm, ahead, size_in, some_in, task_of}
use Rattle.xet_stream_rules.specs.declared.step.Step.{Step}
use Rattle.xet_stream_rules.specs.declared.step.Step.TheVariants.{Pending, Ready}
use Rattle.xet_stream_rules.specs.MomentCauses.{CauseAt, IsSpentError, SpentIn}
use Rattle.xet_stream_rules.specs.Moments.{At, Goes}
use Rattle.xet_stream_rules.specs.Streams.{IsAtEnd, IsNextKept, left_for, next_term}
use Rattle.xet_stream_terms.specs.Admitting.{Admits, AdmitsNext}
use Rattle.xet_stream_terms.specs.Planning.{IsMarked}
use Rattle.xet_stream_blocks.specs.BlockParts.{BlockFails}
use Rattle.xet_stream_blocks.specs.Providing.{Provides}
use Rattle.xet_streams.specs.steps.Working.{Worked, WorkedWell}

-- what a step answers
abbrev pub StepAnswer : Type 0
StepAnswer = Result (Step (Option (List ℕ))) FileReconstructionError

-- the block of the next term
pub record IsPlaceOf (ls : List LedPlan) (n : NextTerm) (c : BlockAt) : Type 0 where
  pub plan : LedPlan
  pub at : slice_get ls n.place ≡ Some plan
  pub plan_is : c.plan ≡ plan.number
  pub block_is : c.block ≡ n.term.xorb_block

-- how many steps may answer that the next term isn't there yet
abbrev pub left_at : Setup → List Event → ℕ
left_at g es = left_for g.tries es (next_term es)

-- ---- what is handed over

-- the next term's bytes
pub record HandsLed (m y : At) (piece : List ℕ) : Type 0 where
  pub count : ℕ
  pub term : PlanTerm
  pub at : slice_get (ahead m.led) count ≡ Some term
  pub empties : All (λ t. some_in t ≡ false) (take count (ahead m.led))
  pub next : next_term m.events ≡ Some (task_of term)
  pub bytes : IsPieceIn term piece
  pub sized : length piece ≡ size_in term
  pub some : 0 < length piece
  pub is : y ≡ record m { events = m.events ++ Wrote (length piece) ∷ []; led = advanced (count + 1) m.led }

abbrev pub HandsAt : Setup → At → At → Step (Option (List ℕ)) → Type 0
HandsAt g m y Pending = (IsAtEnd g.range m.events → ⊥) × (IsNextKept m.events → ⊥) × (y ≡ m)
HandsAt g m y (Ready None) = IsAtEnd g.range m.events × (y ≡ m)
HandsAt g m y (Ready (Some piece)) = (IsAtEnd g.range m.events → ⊥) × HandsLed m y piece

-- ---- from an admitted term on

-- its block was provided, and its bytes were handed over if they were there
pub record Delivers (g : Setup) (a y : At) (answer : Step (Option (List ℕ))) : Type 0 where
  pub place : BlockAt
  pub middle : At
  pub provided : Provides g a middle place
  pub hands : HandsAt g middle y answer
  pub goes : Goes g middle y
  -- if they weren't, an expired answer was counted
  pub moved : answer ≡ Pending → 0 < length provided.new
  pub falls : answer ≡ Pending → left_at g middle.events < left_at g a.events

-- one call of `deliver`
pub record DeliversCall (g : Setup) (a y : At) (answer : StepAnswer) : Type 0 where
  pub ok : IfOk answer (Delivers g a y)
  pub err : IfErr answer (BlockFails g a y)

-- ---- from a planned term on

-- the terms up to the next one are admitted, and nothing else changed
pub record Admitted (g : Setup) (p a : At) (before after : LimitTold) (n : NextTerm) : Type 0 where
  pub admits : AdmitsNext g p a before after n
  pub clients : a.clients ≡ p.clients
  pub cache : a.cache ≡ p.cache

-- and then it is delivered
pub record ServesOk (g : Setup) (p y : At) (before after : LimitTold) (n : NextTerm) (answer : Step (Option (List ℕ)))
    : Type 0 where
  pub middle : At
  pub admitted : Admitted g p middle before after n
  pub delivers : Delivers g middle y answer

-- memory was wanting for an admission
pub record AdmitsShort (g : Setup) (p y : At) (before after : LimitTold) (e : FileReconstructionError) : Type 0 where
  pub memory : e ≡ error.OutOfMemory
  pub last : ℕ
  pub admits : Admits g p y before after (last ∷ [])
  pub clients : y.clients ≡ p.clients
  pub cache : y.cache ≡ p.cache

-- or its block is provided in vain
pub record DeliversVain (g : Setup) (p y : At) (before after : LimitTold) (n : NextTerm) (e : FileReconstructionError)
    : Type 0 where
  pub middle : At
  pub admitted : Admitted g p middle before after n
  pub fails : BlockFails g middle y e

-- one call of `serve`
pub record ServesCall (g : Setup) (p y : At) (before after : LimitTold) (n : NextTerm) (answer : StepAnswer) : Type 0
  where
    pub ok : IfOk answer (ServesOk g p y before after n)
    pub err : IfErr answer (λ e. AdmitsShort g p y before after e ⊎ DeliversVain g p y before after n e)

-- ---- one step

-- its work was done
pub record StepTaken (g : Setup) (x y : At) (before after : LimitTold) (reached : Bool)
    (answer : Step (Option (List ℕ))) : Type 0 where
  pub end : At
  pub worked : WorkedWell g x end before after
  pub hands : HandsAt g end y answer
  pub goes : Goes g x y
  pub marked : IsMarked g.range y.events reached
  pub moved : answer ≡ Pending → 0 < length worked.work.new
  pub falls : answer ≡ Pending → left_at g end.events < left_at g x.events

-- it failed
pub record StepFailed (g : Setup) (x y : At) (before after : LimitTold) (e : FileReconstructionError) : Type 0 where
  pub work : Worked g x y before after
  pub cause : CauseAt g x y work.new work.asks e
  pub spent : SpentIn g work.new y.events → IsSpentError e

-- one call of `take_step`
pub record TakesStep (g : Setup) (x y : At) (before after : LimitTold) (reached : Bool) (answer : StepAnswer) : Type 0
  where
    pub ok : IfOk answer (StepTaken g x y before after reached)
    pub err : IfErr answer (StepFailed g x y before after)
