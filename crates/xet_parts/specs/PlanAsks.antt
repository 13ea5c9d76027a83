-- What asking for the plan of a query does to a manager, a connection and a history.
use Rattle.std.specs.Prelude.{◌≡◌, ◌⊎◌, List, [], ◌∷◌, ◌++◌, Option, Result, Ok, Err, OnOk, IfErr}
use Rattle.xet_base.specs.declared.cas_types.FileRange.{FileRange}
use Rattle.xet_outside.specs.Told.{ClientTold}
use Rattle.xet_error.specs.declared.error.Corruption.TheVariants.{PastKnownEnd}
use Rattle.xet_error.specs.declared.error.FileReconstructionError.{FileReconstructionError}
use Rattle.xet_error.specs.declared.error.FileReconstructionError.TheVariants as error
use Rattle.xet_blocks.specs.declared.reconstruction_terms.file_term.TermBlock.{TermBlock}
use Rattle.xet_blocks.specs.PlanQuery.{PlanQuery}
use Rattle.xet_blocks.specs.TermBlockCalls.{FromSaid, TermBlockCall}
use Rattle.xet_events.specs.declared.event.Event.{Event}
use Rattle.xet_events.specs.Allowed.{IsAllowed}
use Rattle.xet_terms.specs.Managers.{Manager, PassesKnownEnd, accepted}
use Rattle.xet_ties.specs.PartCalls.{plan_event}

-- whatever a connection answers to the query, the plan that is made of it may be recorded, unless it passes the known
-- end
abbrev pub PlansAllowed : Manager → List Event → PlanQuery → Type 0
PlansAllowed m es query = (before after : ClientTold) (t : Option TermBlock) → FromSaid before after query (Ok t)
    → (PassesKnownEnd m query.range t → ⊥) → IsAllowed es (plan_event es query.range t)

-- an answer within the known end was taken, and recorded as the plan of its query
pub record TookAnswer (m now : Manager) (es fs : List Event) (q : FileRange) (t : Option TermBlock) : Type 0 where
  pub within : PassesKnownEnd m q t → ⊥
  pub taken : now ≡ accepted m q t
  pub recorded : fs ≡ es ++ plan_event es q t ∷ []

-- why an answer isn't recorded: memory was wanting, or it has terms past the known end
abbrev pub AnswerFails : Manager → FileRange → Option TermBlock → FileReconstructionError → Type 0
AnswerFails m q t e = (e ≡ error.OutOfMemory)
    ⊎ (PassesKnownEnd m q t × (e ≡ error.CorruptedReconstruction (PastKnownEnd m.known_end q.start)))

-- it isn't; where memory was wanting the manager may have taken it
pub record LeftAnswer (m now : Manager) (es fs : List Event) (q : FileRange) (t : Option TermBlock)
    (e : FileReconstructionError) : Type 0 where
  pub fails : AnswerFails m q t e
  pub unrecorded : fs ≡ es
  pub left : (now ≡ m) ⊎ ((e ≡ error.OutOfMemory) × (now ≡ accepted m q t))

-- one answer
pub record TakenCall (m now : Manager) (es fs : List Event) (q : FileRange) (t : Option TermBlock)
    (answer : Result (Unit {0}) FileReconstructionError) : Type 0 where
  pub ok : OnOk answer (TookAnswer m now es fs q t)
  pub err : IfErr answer (LeftAnswer m now es fs q t)

-- a connection was asked the query, and its answer was taken and recorded
pub record AskedPlan (m now : Manager) (before after : ClientTold) (es fs : List Event)
    (query : PlanQuery) : Type 0 where
  pub answer : Option TermBlock
  pub call : TermBlockCall before after query (Ok answer)
  pub took : TookAnswer m now es fs query.range answer

-- the query failed, and nothing was taken
pub record QueryFails (m now : Manager) (before after : ClientTold) (es fs : List Event) (query : PlanQuery)
    (e : FileReconstructionError) : Type 0 where
  pub call : TermBlockCall before after query (Err e)
  pub untaken : now ≡ m
  pub unrecorded : fs ≡ es

-- it was answered, and the answer isn't recorded
pub record PlanFails (m now : Manager) (before after : ClientTold) (es fs : List Event) (query : PlanQuery)
    (e : FileReconstructionError) : Type 0 where
  pub answer : Option TermBlock
  pub call : TermBlockCall before after query (Ok answer)
  pub left : LeftAnswer m now es fs query.range answer e

-- one call of `ask_plan`
pub record AskPlanCall (m now : Manager) (before after : ClientTold) (es fs : List Event) (query : PlanQuery)
    (answer : Result (Unit {0}) FileReconstructionError) : Type 0 where
  pub ok : OnOk answer (AskedPlan m now before after es fs query)
  pub err : IfErr answer (λ e. QueryFails m now before after es fs query e
      ⊎ PlanFails m now before after es fs query e)
