-- What asking for the plan that is due does to a leader, a signal, connections and a history.
use Rattle.std.specs.Prelude.{ℕ, ◌≡◌, ◌⊎◌, ◌+◌, ◌^◌, ◌<◌, Bool, true, false, List, [], ◌∷◌, ◌++◌, length, map, Result}
use Rattle.std.specs.Prelude.{Ok, Err, IfOk, IfErr}
use Rattle.xet_outside.specs.Told.{ClientTold, SignalTold}
use Rattle.xet_error.specs.declared.error.FileReconstructionError.{FileReconstructionError}
use Rattle.xet_error.specs.declared.error.FileReconstructionError.TheVariants as error
use Rattle.xet_blocks.specs.declared.reconstruction_terms.file_term.TermBlock.{TermBlock}
use Rattle.xet_events.specs.declared.event.Event.{Event}
use Rattle.xet_terms.specs.Managers.{Manager}
use Rattle.xet_terms.specs.declared.manager.PlanDue.{PlanDue}
use Rattle.xet_ties.specs.PartCalls.{plan_query}
use Rattle.xet_parts.specs.DueQueries.{DueFails, NoneDue, OneDue}
use Rattle.xet_parts.specs.PlanAsks.{AskPlanCall}
use Rattle.xet_leader.specs.declared.leader.Job.{Job}
use Rattle.xet_leader.specs.declared.leader.LedPlan.{LedPlan}
use Rattle.xet_leader.specs.Led.{Led, setup_of_job}
use Rattle.xet_leader.specs.Steady.{LeadPart, Moment, no_loose}

-- ---- a plan that is handed out

-- a plan under this number, whose terms come behind so many planned ones, and none of whose URLs has expired
pub record IsAdded (l : LedPlan) (number first : ℕ) (b : TermBlock) : Type 0 where
  pub number_is : l.number ≡ number
  pub first_is : l.first ≡ first
  pub block_is : l.block ≡ b
  pub tries_are : l.tries.items ≡ map (λ _. 0) b.blocks

-- it joins the plans, and these wait still
pub record JoinsPlans (number : ℕ) (l k : Led) (b : TermBlock) (waiting : List TermBlock) : Type 0 where
  pub added : LedPlan
  pub is : IsAdded added number l.planned b
  pub fits : l.planned + length b.terms < 2 ^ 64
  pub led : k ≡ record l {
    manager = record l.manager { waiting = waiting; handed_end = b.byte_range.end };
    plans = l.plans ++ added ∷ [];
    planned = l.planned + length b.terms;
  }

-- so the oldest one that waits; where none waits the leader is as before
abbrev pub HandsOn : ℕ → Led → Led → List TermBlock → Type 0
HandsOn number l k [] = k ≡ l
HandsOn number l k (b ∷ waiting) = JoinsPlans number l k b waiting

-- ---- asking

-- a query was asked on the first connection, and the others are as before
pub record FirstAsked (j : Job) (cs ns : List ClientTold) (es fs : List Event) (m now : Manager) (d : PlanDue)
    (answer : Result (Unit {0}) FileReconstructionError) : Type 0 where
  pub first : ClientTold
  pub next : ClientTold
  pub others : List ClientTold
  pub before : cs ≡ first ∷ others
  pub after : ns ≡ next ∷ others
  pub call : AskPlanCall m now first next es fs (plan_query (setup_of_job j) d.query d.id) answer

-- a query was due, and it was asked
pub record DueAsked (j : Job) (cs ns : List ClientTold) (x y : SignalTold) (es fs : List Event) (m : Manager)
    (answer : Result (Unit {0}) FileReconstructionError) : Type 0 where
  pub due : PlanDue
  pub middle : Manager
  pub one : OneDue m middle x y due
  pub now : Manager
  pub asked : FirstAsked j cs ns es fs middle now due answer

-- ---- one call of `ask`

-- none was due
pub record NoneAsked (cs ns : List ClientTold) (x y : SignalTold) (es fs : List Event) (l k : Led) : Type 0 where
  pub due : NoneDue l.manager k.manager x y
  pub clients : ns ≡ cs
  pub events : fs ≡ es
  pub led : k ≡ record l { manager = k.manager }

-- one was asked and recorded, and its plan handed out
pub record OneAsked (j : Job) (cs ns : List ClientTold) (x y : SignalTold) (es fs : List Event)
    (l k : Led) : Type 0 where
  pub asked : DueAsked j cs ns x y es fs l.manager (Ok tt)
  pub hands : HandsOn asked.due.id.plan (record l { manager = asked.now }) k asked.now.waiting

abbrev pub AskOk : Job → List ClientTold → List ClientTold → SignalTold → SignalTold → List Event → List Event → Led
    → Led → Bool → Type 0
AskOk j cs ns x y es fs l k false = NoneAsked cs ns x y es fs l k
AskOk j cs ns x y es fs l k true = OneAsked j cs ns x y es fs l k

-- none could be taken
pub record UntakenDue (cs ns : List ClientTold) (x y : SignalTold) (es fs : List Event) (m : Manager)
    (e : FileReconstructionError) : Type 0 where
  pub now : Manager
  pub fails : DueFails m now x y e
  pub clients : ns ≡ cs
  pub events : fs ≡ es

-- or it was asked in vain, or memory was wanting for its plan
abbrev pub AskErr : Job → List ClientTold → List ClientTold → SignalTold → SignalTold → List Event → List Event
    → Manager → FileReconstructionError → Type 0
AskErr j cs ns x y es fs m e = UntakenDue cs ns x y es fs m e
    ⊎ DueAsked j cs ns x y es fs m (Err e)
    ⊎ ((e ≡ error.OutOfMemory) × DueAsked j cs ns x y es fs m (Ok tt))

pub record AskTurn (j : Job) (cs ns : List ClientTold) (x y : SignalTold) (es fs : List Event) (l k : Led)
    (answer : Result Bool FileReconstructionError) : Type 0 where
  pub ok : IfOk answer (AskOk j cs ns x y es fs l k)
  pub err : IfErr answer (AskErr j cs ns x y es fs l.manager)

-- over the moment of a run of which these are the connections, signal and events: it goes on, or is to stop
abbrev pub AskLeads : Job → List ClientTold → List ClientTold → SignalTold → SignalTold → List Event → List Event
    → Led → Led → Result Bool FileReconstructionError → Type 0
AskLeads j cs ns x y es fs l k answer = (m : Moment) → m.told.clients ≡ cs → m.told.signal ≡ x → m.events ≡ es
    → LeadPart (setup_of_job j) m (record { told = record m.told { clients = ns; signal = y }; events = fs }) no_loose
    no_loose l k answer
