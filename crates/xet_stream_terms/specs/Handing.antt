-- What handing the next term over does.
use Rattle.std.specs.Prelude.{ℕ, ◌≡◌, ◌+◌, ◌<◌, ◌++◌, Bool, true, false, List, [], ◌∷◌, Option, Some, None}
use Rattle.std.specs.Prelude.{Result, Ok, Err}
use Rattle.xet_error.specs.declared.error.FileReconstructionError.{FileReconstructionError}
use Rattle.xet_error.specs.declared.error.FileReconstructionError.TheVariants as error
use Rattle.xet_events.specs.declared.event.Event.{Event}
use Rattle.xet_events.specs.declared.event.Event.TheVariants.{Wrote}
use Rattle.xet_events.specs.Events.{is_kept}
use Rattle.xet_leader.specs.declared.ahead.NextTerm.{NextTerm}
use Rattle.xet_leader.specs.Advances.{advanced}
use Rattle.xet_leader.specs.Led.{Led}
use Rattle.xet_leader.specs.LedTerms.{IsNextTerm, IsPieceIn, TermRefused, kept_in, of_plan, size_in}
use Rattle.xet_stream_rules.specs.declared.step.Step.{Step}
use Rattle.xet_stream_rules.specs.declared.step.Step.TheVariants.{Pending, Ready}

-- the next term is admitted
pub record IsOpenNext (l : Led) (n : NextTerm) : Type 0 where
  pub next : IsNextTerm l n
  pub open_now : l.finished + n.empties < l.admitted

-- one call of `hand_over`, whose next term is this one
abbrev pub HandsOne : List Event → List Event → (l k : Led) → (n : NextTerm) → IsNextTerm l n
    → Result (Step (Option (List ℕ))) FileReconstructionError → Type 0
HandsOne es fs l k n x (Ok Pending) = (kept_in (of_plan x.plan n.term) ≡ None) × (fs ≡ es) × (k ≡ l)
HandsOne es fs l k n x (Ok (Ready None)) = ⊥
HandsOne es fs l k n x (Ok (Ready (Some piece))) = IsPieceIn (of_plan x.plan n.term) piece
    × (fs ≡ es ++ Wrote (size_in (of_plan x.plan n.term)) ∷ []) × (k ≡ advanced (n.empties + 1) l)
HandsOne es fs l k n x (Err e) = (k ≡ l) × (fs ≡ es) × TermRefused (of_plan x.plan n.term) e

pub record HandsTerm (es fs : List Event) (l k : Led) (n : NextTerm)
    (answer : Result (Step (Option (List ℕ))) FileReconstructionError) : Type 0 where
  pub next : IsNextTerm l n
  pub hands : HandsOne es fs l k n next answer

-- one call of `record_given`, whose next term is this one
abbrev pub RecordsOne : List Event → List Event → (l k : Led) → (n : NextTerm) → IsNextTerm l n
    → Result Bool FileReconstructionError → Type 0
RecordsOne es fs l k n x (Ok true) = (fs ≡ es ++ Wrote (size_in (of_plan x.plan n.term)) ∷ [])
    × (k ≡ advanced (n.empties + 1) l)
RecordsOne es fs l k n x (Ok false) = (fs ≡ es) × (k ≡ l)
    × (is_kept es x.plan.number n.term.xorb_block ≡ false)
RecordsOne es fs l k n x (Err e) = (e ≡ error.OutOfMemory) × (fs ≡ es) × (k ≡ l)

pub record RecordsTerm (es fs : List Event) (l k : Led) (n : NextTerm) (answer : Result Bool FileReconstructionError)
    : Type 0 where
  pub next : IsNextTerm l n
  pub records : RecordsOne es fs l k n next answer
