-- The admitted terms of a leader that wait for their blocks.
use Rattle.std.specs.Prelude.{ℕ, ◌≡◌, ◌+◌, ◌-◌, ◌<◌, ◌^◌, true, false, List, filter, length, map, min, not}
use Rattle.std.specs.Prelude.{slice_get, take, Some, None}
use Rattle.std.specs.List.{sum_by}
use Rattle.xet_events.specs.declared.event.Event.{Event}
use Rattle.xet_events.specs.Events.{Task, is_kept, size}
use Rattle.xet_ties.specs.Saids.{has_bytes}
use Rattle.xet_leader.specs.Led.{Led}
use Rattle.xet_leader.specs.LedTerms.{PlanTerm, ahead, task_of}
use Rattle.xet_unordered_streams.specs.declared.awaited_terms.Awaited.{Awaited}

-- those of these tasks that have bytes and whose block isn't kept
abbrev pub waiting_of : List Event → List Task → List Task
waiting_of es ts = filter (λ t. not (is_kept es t.plan t.term.block)) (filter has_bytes ts)

abbrev pub awaited_led : Led → List Event → List Task
awaited_led l es = waiting_of es (take (l.admitted - l.finished) (map task_of (ahead l)))

-- their number and their bytes
pub record AwaitedBy (ts : List Task) (a : Awaited) : Type 0 where
  pub terms : a.terms ≡ length ts
  pub bytes : a.bytes ≡ min (sum_by size ts) (2 ^ 64 - 1)

-- with one more of so many bytes, where it has some
pub record WithOne (a : Awaited) (sized : ℕ) (n : Awaited) : Type 0 where
  pub none : sized ≡ 0 → n ≡ a
  pub terms : 0 < sized → n.terms ≡ min (a.terms + 1) (2 ^ 64 - 1)
  pub bytes : 0 < sized → n.bytes ≡ min (a.bytes + sized) (2 ^ 64 - 1)

-- the term behind so many has so many bytes, where it waits for its block
pub record SizeOf (es : List Event) (t : PlanTerm) (n : ℕ) : Type 0 where
  pub kept : is_kept es t.plan.number t.term.xorb_block ≡ true → n ≡ 0
  pub absent : is_kept es t.plan.number t.term.xorb_block ≡ false → n ≡ size (task_of t)

abbrev pub SizeAt : Led → List Event → ℕ → ℕ → Type 0
SizeAt l es skip n = ((t : PlanTerm) → slice_get (ahead l) skip ≡ Some t → SizeOf es t n)
    × (slice_get (ahead l) skip ≡ None → n ≡ 0)
