-- What a history says. It is a list of events, oldest first.
use Rattle.std.specs.Prelude.{ℕ, ◌+◌, ◌-◌, ◌==◌, ◌&&◌, Bool, true, false, List, [], ◌∷◌, take, map, filter, Option}
use Rattle.std.specs.Prelude.{Some, None, count_by, nat_lt}
use Rattle.std.specs.List.{flat_map, list_any, sum_by}
use Rattle.xet_base.specs.Lists.{first_some}
use Rattle.xet_error.specs.declared.error.FileReconstructionError.{FileReconstructionError}
use Rattle.xet_error.specs.declared.error.FileReconstructionError.TheVariants.{Cancelled}
use Rattle.xet_events.specs.declared.event.PlannedTerm.{PlannedTerm}
use Rattle.xet_events.specs.declared.event.PlannedBlock.{PlannedBlock}
use Rattle.xet_events.specs.declared.event.Event.{Event}
use Rattle.xet_events.specs.declared.event.Event.TheVariants.{Planned, Admit, Fetched, Cached, Expired, Refreshed}
use Rattle.xet_events.specs.declared.event.Event.TheVariants.{Wrote}
use Rattle.xet_events.specs.declared.event.Event.TheVariants.{Fail, Cancel}

-- the last element, or the given one where there is none
abbrev pub last_of : {A : Type 0} → A → List A → A
last_of d [] = d
last_of d (x ∷ xs) = last_of x xs

-- ---- planned terms

-- a planned term, with its plan's number and its plan's blocks
pub record Task : Type 0 where
  pub plan : ℕ
  pub term : PlannedTerm
  pub blocks : List PlannedBlock

-- its length in bytes
abbrev pub size : Task → ℕ
size t = t.term.byte_range.end - t.term.byte_range.start

-- it is of this plan, and its block is this one
abbrev pub needs : ℕ → ℕ → Task → Bool
needs plan block t = t.plan == plan && t.term.block == block

-- the terms of a plan as tasks
abbrev pub tasks_of : ℕ → List PlannedTerm → List PlannedBlock → List Task
tasks_of plan terms blocks = map (λ t. record { plan = plan; term = t; blocks = blocks }) terms

-- the tasks that an event plans
abbrev pub tasks_in : Event → List Task
tasks_in (Planned plan query terms blocks) = tasks_of plan terms blocks
tasks_in _ = []

-- the planned terms, in the order of the Planned events
abbrev pub planned : List Event → List Task
planned es = flat_map tasks_in es

-- the event is a Planned event
abbrev pub is_plan : Event → Bool
is_plan (Planned plan query terms blocks) = true
is_plan _ = false

-- how many plans there are
abbrev pub plan_count : List Event → ℕ
plan_count es = count_by is_plan es

-- where the planned terms end, or the given place where there are none
abbrev pub planned_end : List Event → ℕ → ℕ
planned_end es place = last_of place (map (λ t. t.term.byte_range.end) (planned es))

-- ---- admitted and written

-- the event is an Admit event
abbrev pub is_admit : Event → Bool
is_admit (Admit limit) = true
is_admit _ = false

-- the admitted terms: the first planned ones, one for each Admit event
abbrev pub admitted : List Event → List Task
admitted es = take (count_by is_admit es) (planned es)

-- the bytes that an event wrote
abbrev pub taken_in : Event → ℕ
taken_in (Wrote taken) = taken
taken_in _ = 0

-- the bytes that were written
abbrev pub written : List Event → ℕ
written es = sum_by taken_in es

-- the bytes of the admitted terms that were not
abbrev pub unwritten : List Event → ℕ
unwritten es = sum_by size (admitted es) - written es

-- each term with the place where it ends among the bytes of all, the first of which stands at the given place
abbrev pub ended : ℕ → List Task → List (ℕ × Task)
ended p [] = []
ended p (t ∷ ts) = (p + size t, t) ∷ ended (p + size t) ts

-- a term that ends at this place isn't wholly written; an empty one is
abbrev pub has_more : ℕ → ℕ × Task → Bool
has_more w c = nat_lt 0 (size c.1) && nat_lt w c.0

-- the admitted terms that aren't wholly written, oldest first, each with its end among the admitted bytes
abbrev pub unfinished : List Event → List (ℕ × Task)
unfinished es = filter (has_more (written es)) (ended 0 (admitted es))

-- ---- blocks

-- the event keeps this block of this plan: it was fetched, or the cache gave it
abbrev pub keeps : ℕ → ℕ → Event → Bool
keeps p b (Fetched lane plan block) = plan == p && block == b
keeps p b (Cached plan block) = plan == p && block == b
keeps p b _ = false

-- a block is kept where some event keeps it
abbrev pub is_kept : List Event → ℕ → ℕ → Bool
is_kept es p b = list_any (keeps p b) es

-- the event is an answer that a URL of this block has expired
abbrev pub expires : ℕ → ℕ → Event → Bool
expires p b (Expired lane plan block) = plan == p && block == b
expires p b _ = false

-- for an Expired event of the plan yes, for a Refreshed one no
abbrev pub expiry_in : ℕ → Event → List Bool
expiry_in p (Expired lane plan block) = filter (λ _. plan == p) (true ∷ [])
expiry_in p (Refreshed plan) = filter (λ _. plan == p) (false ∷ [])
expiry_in p _ = []

-- the plan has an Expired event since its last Refreshed event
abbrev pub is_stale : List Event → ℕ → Bool
is_stale es p = last_of false (flat_map (expiry_in p) es)

-- ---- errors

-- the error of an event
abbrev pub error_in : Event → Option FileReconstructionError
error_in (Fail error) = Some error
error_in Cancel = Some Cancelled
error_in _ = None

-- the first Fail event's error, or Cancelled where Cancel came first
abbrev pub first_error : List Event → Option FileReconstructionError
first_error es = first_some (map error_in es)

-- the event is Cancel
abbrev pub is_cancel : Event → Bool
is_cancel Cancel = true
is_cancel _ = false
