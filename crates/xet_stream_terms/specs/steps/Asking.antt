-- What asking for the plan that is due does, by the calls of the leader.
use Rattle.std.specs.Prelude.{ℕ, ◌≡◌, ◌-◌, ◌||◌, ◌==◌, Bool, true, false, cond, nat_le, nat_lt, List}
use Rattle.std.specs.Prelude.{length}
use Rattle.std.specs.Prelude.{Option, Some, None, MatchOption, Result, Ok, Err, IfOk, slice_get}
use Rattle.xet_base.specs.declared.cas_types.FileRange.{FileRange}
use Rattle.xet_outside.specs.Told.{ClientTold, SignalTold}
use Rattle.xet_error.specs.declared.error.FileReconstructionError.{FileReconstructionError}
use Rattle.xet_events.specs.declared.event.Event.{Event}
use Rattle.xet_terms.specs.Managers.{IsCovered}
use Rattle.xet_leader.specs.declared.ahead.NextTerm.{NextTerm}
use Rattle.xet_leader.specs.declared.leader.Job.{Job}
use Rattle.xet_leader.specs.declared.leader.LedPlan.{LedPlan}
use Rattle.xet_leader.specs.Asking.{AskTurn}
use Rattle.xet_leader.specs.Led.{Led}
use Rattle.xet_leader.specs.LedTerms.{IsNextTerm, NoneHas, ahead}

-- the plan ends before its query, or the query ends here
abbrev pub ends_by : ℕ → LedPlan → Option FileRange → Bool
ends_by end l None = true
ends_by end l (Some q) = nat_lt l.block.byte_range.end q.end || (q.end == end)

abbrev pub is_end : ℕ → List FileRange → Option LedPlan → Bool
is_end end qs None = true
is_end end qs (Some l) = ends_by end l (slice_get qs (l.number - 1))

-- no plan came behind so many, or the last one is such
abbrev pub is_last : ℕ → ℕ → Led → Bool
is_last before end l = cond (nat_le (length l.plans) before) true
    (is_end end l.manager.queries (slice_get l.plans (length l.plans - 1)))

-- a signal that never says yes
abbrev pub never : SignalTold
never = record { asks = None; yes = 0 }

-- what is answered where a plan was asked for, where none was due, and where it was asked for in vain
abbrev pub ThenNext : Job → Led → Led → Bool → Result Bool FileReconstructionError
    → Result (Option NextTerm) FileReconstructionError → Type 0
ThenNext j l k r (Ok true) (Ok next) = (r ≡ is_last (length l.plans) j.byte_range.end k)
    × MatchOption next (NoneHas (ahead k)) (IsNextTerm k)
ThenNext j l k r (Ok false) (Ok next) = (r ≡ true) × (next ≡ None)
ThenNext j l k r (Err e) (Err f) = f ≡ e
ThenNext j l k r (Ok true) (Err f) = ⊥
ThenNext j l k r (Ok false) (Err f) = ⊥
ThenNext j l k r (Err e) (Ok next) = ⊥

-- one call of `ask_next`
pub record AsksNext (j : Job) (cs ns : List ClientTold) (es fs : List Event) (l k : Led) (r : Bool)
    (answer : Result (Option NextTerm) FileReconstructionError) : Type 0 where
  pub asked : Result Bool FileReconstructionError
  pub turn : AskTurn j cs ns never never es fs l k asked
  pub covered : IfOk asked (λ a. a ≡ false → IsCovered k.manager)
  pub next : ThenNext j l k r asked answer
