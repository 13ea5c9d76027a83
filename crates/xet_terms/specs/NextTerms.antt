-- What asking the due queries of a manager, and its next terms, say.
use Rattle.std.specs.Prelude.{ℕ, zero, suc, ◌≡◌, ◌⊎◌, ◌+◌, ◌≤◌, List, [], ◌∷◌, ◌++◌, Option, Some, None, Result, Ok}
use Rattle.std.specs.Prelude.{Err, IfOk, IfErr, OnOk, slice_get}
use Rattle.xet_base.specs.declared.cas_types.FileRange.{FileRange}
use Rattle.xet_base.specs.declared.unique_id.UniqueId.{UniqueId}
use Rattle.xet_outside.specs.Told.{ClientTold}
use Rattle.xet_error.specs.declared.error.Corruption.TheVariants.{PastKnownEnd}
use Rattle.xet_error.specs.declared.error.FileReconstructionError.{FileReconstructionError}
use Rattle.xet_error.specs.declared.error.FileReconstructionError.TheVariants as error
use Rattle.xet_blocks.specs.declared.reconstruction_terms.file_term.TermBlock.{TermBlock}
use Rattle.xet_terms.specs.Managers.{IsCovered, IsManager, Manager, PassesKnownEnd, ReachesEnd, accepted, looked_ahead}
use Rattle.xet_blocks.specs.PlanQuery.{PlanQuery}
use Rattle.xet_blocks.specs.TermBlockCalls.{TermBlockCall}

-- what queries leave of a connection
pub record QueriesKeep (before after : ClientTold) : Type 0 where
  pub store : after.store ≡ before.store
  pub served : after.served ≡ before.served
  pub faults : before.faults ≤ after.faults
  pub expiries : before.expiries ≤ after.expiries
  pub link : after.link ≡ before.link

-- the id of the plan of a manager's next due query
abbrev pub due_id : Manager → UniqueId
due_id m = record { plan = m.asked + 1; refresh = 0 }

-- a manager whose next query counts as asked
abbrev pub with_asked : Manager → Manager
with_asked m = record m { asked = m.asked + 1 }

-- a manager whose queries without an answer are due
abbrev pub reopened : Manager → Manager
reopened m = record m { asked = m.answered }

-- what a manager asks for a query
abbrev pub query_of : Manager → FileRange → UniqueId → PlanQuery
query_of m q id = record { file = m.file; range = q; multirange = m.multirange; id = id }

-- why a query of a manager that counts as asked gave no terms to it
abbrev pub AskFails : Manager → ClientTold → ClientTold → FileRange → UniqueId → FileReconstructionError → Type 0
AskFails m before after q id e =
    ((o : Option TermBlock) × TermBlockCall before after (query_of m q id) (Ok o) × (e ≡ error.OutOfMemory))
    ⊎ TermBlockCall before after (query_of m q id) (Err e)
    ⊎ ((o : Option TermBlock) × TermBlockCall before after (query_of m q id) (Ok o) × PassesKnownEnd m q o
    × (e ≡ error.CorruptedReconstruction (PastKnownEnd m.known_end q.start)))

-- the query of a manager that counts as asked was answered, and the answer, with no terms past the known end, taken
pub record AskOk (m now : Manager) (before after : ClientTold) (q : FileRange) (id : UniqueId) : Type 0 where
  pub answer : Option TermBlock
  pub call : TermBlockCall before after (query_of m q id) (Ok answer)
  pub within : PassesKnownEnd m q answer → ⊥
  pub taken : now ≡ accepted m q answer

-- a query that counts as asked
pub record AskCall (m now : Manager) (before after : ClientTold) (q : FileRange) (id : UniqueId)
    (answer : Result (Unit {0}) FileReconstructionError) : Type 0 where
  pub keeps : QueriesKeep before after
  pub ok : OnOk answer (AskOk m now before after q id)
  pub err : IfErr answer (λ e. (now ≡ m) × AskFails m before after q id e)

-- one due query was asked, and its answer taken
pub record AskedDue (m now : Manager) (before after : ClientTold) : Type 0 where
  pub query : FileRange
  pub due : slice_get m.queries m.asked ≡ Some query
  pub asked : AskOk (with_asked m) now before after query (due_id m)

-- so many due queries were asked in order
abbrev pub AskedAll : ℕ → Manager → Manager → ClientTold → ClientTold → Type 0
AskedAll zero m now before after = (now ≡ m) × (after ≡ before)
AskedAll (suc k) m now before after = (l : Manager) × (a : ClientTold) × AskedAll k m l before a
    × AskedDue l now a after

-- all due queries were asked, after a look at the buffer
pub record DueOk (m now : Manager) (before after : ClientTold) : Type 0 where
  pub policy : ℕ
  pub count : ℕ
  pub asked : AskedAll count (looked_ahead (reopened m) policy) now before after
  pub none : slice_get now.queries now.asked ≡ None
  pub covered : now.waiting ≡ [] → IsCovered now
  pub kept : IsManager now

-- a due query failed after some that were answered, and counts as asked
pub record DueErr (m now : Manager) (before after : ClientTold) (e : FileReconstructionError) : Type 0 where
  pub policy : ℕ
  pub count : ℕ
  pub last : Manager
  pub told : ClientTold
  pub asked : AskedAll count (looked_ahead (reopened m) policy) last before told
  pub query : FileRange
  pub due : slice_get last.queries last.asked ≡ Some query
  pub fails : AskFails (with_asked last) told after query (due_id last) e
  pub left : now ≡ with_asked last

-- how asking the due queries failed, and what it left: the look at the buffer found no memory, or a query failed
abbrev pub DueFails : Manager → Manager → ClientTold → ClientTold → FileReconstructionError → Type 0
DueFails m now before after e =
    ((e ≡ error.OutOfMemory) × (now ≡ reopened m) × (after ≡ before)) ⊎ DueErr m now before after e

-- no plan that waits is dropped or changes its place
abbrev pub StillWait : Manager → Manager → Type 0
StillWait m now = (more : List TermBlock) × (now.waiting ≡ m.waiting ++ more)

-- all due queries
pub record DueCall (m now : Manager) (before after : ClientTold)
    (answer : Result (Unit {0}) FileReconstructionError) : Type 0 where
  pub keeps : QueriesKeep before after
  pub ok : OnOk answer (DueOk m now before after)
  pub err : IfErr answer (DueFails m now before after)
  pub waits : StillWait m now
  pub failed : now.failed ≡ m.failed

-- a plan was handed out, or none waits and each byte of the range below the known end was asked
abbrev pub HandedOut : Manager → Manager → Option TermBlock → Type 0
HandedOut m now None = (now ≡ m) × (m.waiting ≡ []) × IsCovered m × ReachesEnd m
HandedOut m now (Some plan) =
    (m.waiting ≡ plan ∷ now.waiting) × (now ≡ record m { waiting = now.waiting; handed_end = plan.byte_range.end })

-- the next terms
pub record NextOk (m now : Manager) (before after : ClientTold) (o : Option TermBlock) : Type 0 where
  pub middle : Manager
  pub asked : DueOk m middle before after
  pub handed : HandedOut middle now o

-- an error: the manager is as the due queries left it, with each plan that waited, and keeps the error
pub record NextErr (m now : Manager) (before after : ClientTold) (e : FileReconstructionError) : Type 0 where
  pub middle : Manager
  pub fails : DueFails m middle before after e
  pub waits : StillWait m middle
  pub kept : now ≡ record middle { failed = Some e }

-- one call of `next_file_terms`
pub record NextCall (m now : Manager) (before after : ClientTold)
    (answer : Result (Option TermBlock) FileReconstructionError) : Type 0 where
  pub keeps : QueriesKeep before after
  -- a kept error is answered again, and nothing is asked
  pub again : (e : FileReconstructionError) → m.failed ≡ Some e → (answer ≡ Err e) × (now ≡ m) × (after ≡ before)
  pub ok : IfOk answer (λ o. (m.failed ≡ None) × NextOk m now before after o)
  pub err : m.failed ≡ None → IfErr answer (NextErr m now before after)
