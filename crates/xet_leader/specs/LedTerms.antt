-- The next terms of a leader, and their bytes.
use Rattle.std.specs.Prelude.{ℕ, ◌≡◌, ◌⊎◌, ◌-◌, ◌^◌, min, nat_lt, Bool, true, false, List, [], ◌∷◌, All, map, take}
use Rattle.std.specs.Prelude.{drop}
use Rattle.std.specs.Prelude.{slice_get, Option, Some, None, Result, Ok, Err}
use Rattle.std.specs.List.{flat_map}
use Rattle.xet_error.specs.declared.error.Corruption.{Corruption}
use Rattle.xet_error.specs.declared.error.FileReconstructionError.{FileReconstructionError}
use Rattle.xet_error.specs.declared.error.FileReconstructionError.TheVariants as error
use Rattle.xet_offers.specs.declared.reconstruction_terms.xorb_block.XorbBlockData.{XorbBlockData}
use Rattle.xet_blocks.specs.declared.reconstruction_terms.file_term.FileTerm.{FileTerm}
use Rattle.xet_blocks.specs.DataTasks.{kept_of}
use Rattle.xet_blocks.specs.Extracts.{failed_term_test, term_bytes_in, term_size}
use Rattle.xet_events.specs.Events.{Task}
use Rattle.xet_history.specs.TrueHistory.{planned_term}
use Rattle.xet_ties.specs.Saids.{planned_of}
use Rattle.xet_leader.specs.declared.ahead.NextTerm.{NextTerm}
use Rattle.xet_leader.specs.declared.leader.LedPlan.{LedPlan}
use Rattle.xet_leader.specs.Led.{Led}

-- ---- terms

-- a term of a plan, with the plan
pub record PlanTerm : Type 0 where
  pub plan : LedPlan
  pub term : FileTerm

abbrev pub of_plan : LedPlan → FileTerm → PlanTerm
of_plan l t = record { plan = l; term = t }

-- the terms of some plans, in order
abbrev pub led_terms : List LedPlan → List PlanTerm
led_terms ls = flat_map (λ l. map (of_plan l) l.block.terms) ls

-- how many planned terms come before the first plan's own
abbrev pub first_number : List LedPlan → ℕ
first_number [] = 0
first_number (l ∷ ls) = l.first

-- the planned terms from the first one on that isn't finished
abbrev pub ahead : Led → List PlanTerm
ahead l = drop (l.finished - first_number l.plans) (led_terms l.plans)

-- the admitted terms that aren't finished
abbrev pub open_led : Led → List PlanTerm
open_led l = take (l.admitted - l.finished) (drop (l.finished - first_number l.plans) (led_terms l.plans))

abbrev pub size_in : PlanTerm → ℕ
size_in t = term_size t.term

abbrev pub some_in : PlanTerm → Bool
some_in t = nat_lt 0 (size_in t)

-- what its block keeps
abbrev pub kept_in : PlanTerm → Option XorbBlockData
kept_in t = kept_of t.plan.block.blocks t.term.xorb_block

-- a leader's term as the history has it
abbrev pub task_of : PlanTerm → Task
task_of t = record {
  plan = t.plan.number;
  term = planned_term t.term;
  blocks = map planned_of t.plan.block.blocks;
}

-- none of these terms has bytes
abbrev pub NoneHas : List PlanTerm → Type 0
NoneHas ts = All (λ t. some_in t ≡ false) ts

-- of these terms the first one that has bytes stands behind so many empty ones
pub record IsFirstSome (ts : List PlanTerm) (count : ℕ) (t : PlanTerm) : Type 0 where
  pub there : slice_get ts count ≡ Some t
  pub before : NoneHas (take count ts)
  pub some : some_in t ≡ true

-- it is this one, of the plan at its place
pub record IsNextIn (ls : List LedPlan) (ts : List PlanTerm) (n : NextTerm) : Type 0 where
  pub plan : LedPlan
  pub at : slice_get ls n.place ≡ Some plan
  pub count : ℕ
  pub empties : n.empties ≡ min count (2 ^ 64 - 1)
  pub first : IsFirstSome ts count (of_plan plan n.term)

-- so of a leader
abbrev pub IsNextTerm : Led → NextTerm → Type 0
IsNextTerm l n = IsNextIn l.plans (ahead l) n

-- ---- pieces

-- the term's bytes in what its block keeps, where it passes its test
pub record IsPieceIn (t : PlanTerm) (piece : List ℕ) : Type 0 where
  pub data_of : XorbBlockData
  pub kept : kept_in t ≡ Some data_of
  pub passes : failed_term_test t.term data_of ≡ None
  pub bytes : piece ≡ term_bytes_in t.term data_of

-- in what its block keeps the term fails this test
pub record FailsIn (t : PlanTerm) (k : Corruption) : Type 0 where
  pub data_of : XorbBlockData
  pub kept : kept_in t ≡ Some data_of
  pub fails : failed_term_test t.term data_of ≡ Some k

-- memory was refused, or the term fails a test and the error has it
abbrev pub TermRefused : PlanTerm → FileReconstructionError → Type 0
TermRefused t e = (e ≡ error.OutOfMemory) ⊎ ((k : Corruption) × (e ≡ error.CorruptedReconstruction k) × FailsIn t k)

-- one of the terms fails this test
pub record OneFails (ts : List PlanTerm) (k : Corruption) : Type 0 where
  pub place : ℕ
  pub term : PlanTerm
  pub there : slice_get ts place ≡ Some term
  pub fails : FailsIn term k

-- its bytes, or nothing where its block keeps nothing
abbrev pub BytesOf : PlanTerm → Result (Option (List ℕ)) FileReconstructionError → Type 0
BytesOf t (Ok None) = kept_in t ≡ None
BytesOf t (Ok (Some bytes)) = IsPieceIn t bytes
BytesOf t (Err e) = TermRefused t e
