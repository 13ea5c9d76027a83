-- What looking for a due term among those of a leader finds.
use Rattle.std.specs.Prelude.{ℕ, ◌≡◌, ◌+◌, ◌-◌, ◌<◌, Bool, true, false, List, slice_get, Option, Some, None}
use Rattle.std.specs.Prelude.{Result, Ok, Err}
use Rattle.xet_error.specs.declared.error.FileReconstructionError.{FileReconstructionError}
use Rattle.xet_events.specs.declared.event.Event.{Event}
use Rattle.xet_events.specs.Events.{is_kept}
use Rattle.xet_leader.specs.declared.leader.LedPlan.{LedPlan}
use Rattle.xet_leader.specs.declared.missing_blocks.BlockAt.{BlockAt}
use Rattle.xet_leader.specs.Led.{Led}
use Rattle.xet_leader.specs.LedTerms.{IsPieceIn, PlanTerm, TermRefused, ahead, kept_in, of_plan, some_in}
use Rattle.xet_unordered_streams.specs.declared.ahead_terms.AheadTerm.{AheadTerm}
use Rattle.xet_unordered_streams.specs.declared.due_terms.Due.{Due}

-- ---- a term

-- the term behind so many of these
pub record IsTermIn (ls : List LedPlan) (ts : List PlanTerm) (skip : ℕ) (n : AheadTerm) : Type 0 where
  pub plan : LedPlan
  pub at : slice_get ls n.place ≡ Some plan
  pub there : slice_get ts skip ≡ Some (of_plan plan n.term)

abbrev pub IsTermAhead : Led → ℕ → AheadTerm → Type 0
IsTermAhead l skip n = IsTermIn l.plans (ahead l) skip n

-- ---- whether it is due

-- it has bytes, and isn't early
pub record IsWanted (l : Led) (early : ℕ → Bool) (skip : ℕ) (t : PlanTerm) : Type 0 where
  pub there : slice_get (ahead l) skip ≡ Some t
  pub some : some_in t ≡ true
  pub new : early (l.finished + skip) ≡ false

-- its bytes
pub record IsDueAt (l : Led) (early : ℕ → Bool) (from skip : ℕ) (d : Due) : Type 0 where
  pub term : PlanTerm
  pub wanted : IsWanted l early skip term
  pub bytes : IsPieceIn term d.bytes
  pub numbered : d.number ≡ l.finished + skip
  pub at : d.place ≡ term.term.byte_range.start - from

-- it fails a test, or memory was wanting
pub record IsRefusedAt (l : Led) (early : ℕ → Bool) (skip : ℕ) (e : FileReconstructionError) : Type 0 where
  pub term : PlanTerm
  pub wanted : IsWanted l early skip term
  pub refused : TermRefused term e

-- one call of `due_at`
abbrev pub DueCall : Led → (ℕ → Bool) → ℕ → ℕ → Result (Option Due) FileReconstructionError → Type 0
DueCall l early from skip (Ok (Some d)) = IsDueAt l early from skip d
DueCall l early from skip (Ok None) = (t : PlanTerm) → IsWanted l early skip t → kept_in t ≡ None
DueCall l early from skip (Err e) = IsRefusedAt l early skip e

-- ---- the admitted ones

-- one of them is due
pub record SomeDue (l : Led) (early : ℕ → Bool) (from : ℕ) (d : Due) : Type 0 where
  pub skip : ℕ
  pub opens : l.finished + skip < l.admitted
  pub due : IsDueAt l early from skip d

-- one of them can't be handed over
pub record SomeRefused (l : Led) (early : ℕ → Bool) (e : FileReconstructionError) : Type 0 where
  pub skip : ℕ
  pub opens : l.finished + skip < l.admitted
  pub refused : IsRefusedAt l early skip e

-- none is due
abbrev pub NoneDue : Led → (ℕ → Bool) → Type 0
NoneDue l early = (skip : ℕ) → l.finished + skip < l.admitted → (t : PlanTerm) → IsWanted l early skip t
    → kept_in t ≡ None

-- one call of `first_due`
abbrev pub FirstDue : Led → (ℕ → Bool) → ℕ → Result (Option Due) FileReconstructionError → Type 0
FirstDue l early from (Ok (Some d)) = SomeDue l early from d
FirstDue l early from (Ok None) = NoneDue l early
FirstDue l early from (Err e) = SomeRefused l early e

-- one call of `hinted_due`, which may pass over a due one
abbrev pub HintedDue : Led → (ℕ → Bool) → ℕ → Result (Option Due) FileReconstructionError → Type 0
HintedDue l early from (Ok (Some d)) = SomeDue l early from d
HintedDue l early from (Ok None) = Unit {0}
HintedDue l early from (Err e) = SomeRefused l early e

-- ---- a block

-- an admitted term waits for it
pub record IsAwaited (l : Led) (es : List Event) (c : BlockAt) : Type 0 where
  pub skip : ℕ
  pub term : PlanTerm
  pub opens : l.finished + skip < l.admitted
  pub there : slice_get (ahead l) skip ≡ Some term
  pub some : some_in term ≡ true
  pub plan_is : c.plan ≡ term.plan.number
  pub block_is : c.block ≡ term.term.xorb_block
  pub absent : is_kept es c.plan c.block ≡ false
