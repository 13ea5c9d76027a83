-- What asking for the URLs of stale plans again does to a leader and to a run.
use Rattle.std.specs.Prelude.{ℕ, ◌≡◌, Bool, List, [], ◌∷◌, take, Option, Some, None, slice_get, Ok, Err}
use Rattle.std.specs.Prelude.{OnOk, IfErr}
use Rattle.std.specs.List.{slice_set}
use Rattle.xet_outside.specs.Told.{ClientTold}
use Rattle.xet_error.specs.declared.error.FileReconstructionError.{FileReconstructionError}
use Rattle.xet_blocks.specs.declared.reconstruction_terms.file_term.TermBlock.{TermBlock}
use Rattle.xet_events.specs.declared.event.Event.{Event}
use Rattle.xet_parts.specs.PlanRefreshes.{RefreshPlanCall}
use Rattle.xet_ties.specs.Setup.{Setup}
use Rattle.xet_leader.specs.declared.leader.LedPlan.{LedPlan}
use Rattle.xet_leader.specs.Led.{Led}
use Rattle.xet_leader.specs.Plans.{Answer, find_plan}
use Rattle.xet_leader.specs.Steady.{LeadPart, Loose, Moment}

-- what a refresh touches: what the first connection tells, the history, and the plans
pub record Touched : Type 0 where
  pub client : ClientTold
  pub events : List Event
  pub plans : List LedPlan

-- the plan at this place was asked for again once, under this number, and the other plans are as before
pub record RefreshedAt (multi : Bool) (number place : ℕ) (a b : Touched) (answer : Answer) : Type 0 where
  pub plan : LedPlan
  pub block : TermBlock
  pub at : slice_get a.plans place ≡ Some plan
  pub call : RefreshPlanCall plan.block block a.client b.client a.events b.events number multi answer
  pub plans : b.plans ≡ slice_set a.plans place (record plan { block = block })

-- the same where the plan has a place; else nothing was done
abbrev pub RefreshedThere : Bool → ℕ → Option ℕ → Touched → Touched → Answer → Type 0
RefreshedThere multi number None a b answer = (b ≡ a) × (answer ≡ Ok tt)
RefreshedThere multi number (Some place) a b answer = RefreshedAt multi number place a b answer

-- the plan of this number was asked for again once, where it is among the plans
abbrev pub RefreshedOne : Bool → ℕ → Touched → Touched → Answer → Type 0
RefreshedOne multi number a b answer = RefreshedThere multi number (find_plan a.plans number) a b answer

-- the plans of these numbers were asked for again, each once, in order
abbrev pub RefreshedEach : Bool → List ℕ → Touched → Touched → Type 0
RefreshedEach multi [] a b = b ≡ a
RefreshedEach multi (p ∷ ps) a b = (m : Touched) × RefreshedOne multi p a m (Ok tt) × RefreshedEach multi ps m b

-- some of the first of them were, and the next one failed with this error
pub record RefreshFails (multi : Bool) (numbers : List ℕ) (a b : Touched) (e : FileReconstructionError) : Type 0 where
  pub count : ℕ
  pub last : Touched
  pub before : RefreshedEach multi (take count numbers) a last
  pub number : ℕ
  pub next : slice_get numbers count ≡ Some number
  pub fails : RefreshedOne multi number last b (Err e)

-- plans of these numbers were asked for again
pub record RefreshCalls (multi : Bool) (numbers : List ℕ) (a b : Touched) (answer : Answer) : Type 0 where
  pub ok : OnOk answer (RefreshedEach multi numbers a b)
  pub err : IfErr answer (RefreshFails multi numbers a b)

-- one call of `refresh_stale`
pub record RefreshTurn (multi : Bool) (numbers : List ℕ) (c n : ClientTold) (es fs : List Event) (l k : Led)
    (answer : Answer) : Type 0 where
  pub calls : RefreshCalls multi numbers (record { client = c; events = es; plans = l.plans })
      (record { client = n; events = fs; plans = k.plans }) answer
  pub led : k ≡ record l { plans = k.plans }

-- over the moment of a run whose first connection tells this, where these plans are stale: none is after it, or the
-- run
-- is to stop
abbrev pub RefreshLeads : Bool → List ℕ → ClientTold → ClientTold → List Event → List Event → Led → Led → Answer
    → Type 0
RefreshLeads multi numbers c n es fs l k answer = (g : Setup) (m : Moment) (o : Loose) (cs : List ClientTold)
    → g.multirange ≡ multi → m.told.clients ≡ c ∷ cs → m.events ≡ es
    → LeadPart g m (record { told = record m.told { clients = n ∷ cs }; events = fs })
    (record o { stale = numbers }) (record o { stale = [] }) l k answer
