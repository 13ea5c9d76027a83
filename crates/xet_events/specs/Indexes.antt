-- What a core's index says of its history.
use Rattle.std.specs.Prelude.{ℕ, ◌≡◌, ◌+◌, ◌-◌, ◌<◌, ◌==◌, ◌^◌, ◌++◌, cond, filter, Bool, true, false, ◌&&◌, List, []}
use Rattle.std.specs.Prelude.{◌∷◌, map, drop, Option, Some, None, unwrap_or, count_by, nat_lt}
use Rattle.std.specs.List.{list_any}
use Rattle.std.specs.Ordering.{nat_cmp}
use Rattle.std.specs.BTreeSet as sorted
use Rattle.xet_events.specs.declared.event.PlannedTerm.{PlannedTerm}
use Rattle.xet_events.specs.declared.event.Event.{Event}
use Rattle.xet_events.specs.declared.index.WaitingTerm.{WaitingTerm}
use Rattle.xet_events.specs.declared.index.UnfinishedTerm.{UnfinishedTerm}
use Rattle.xet_events.specs.declared.index.Index.{Index}
use Rattle.xet_events.specs.Events.{Task, size, needs, planned, plan_count, planned_end, is_admit, admitted, written}
use Rattle.xet_events.specs.Events.{unwritten, ended, unfinished, is_kept, is_stale, first_error, is_cancel}
use Rattle.xet_events.specs.Allowed.{IsAllowedHistory}
use Rattle.xet_events.specs.BlockTables.{Ends, SameMarks, block_id, end_in, kept_in}

-- a place that is there lies after the written bytes
abbrev pub ends_after : ℕ → Option ℕ → Bool
ends_after w None = false
ends_after w (Some e) = nat_lt w e

-- a planned term, as it waits
abbrev pub waiting_of : Task → WaitingTerm
waiting_of t = record { id = block_id t.plan t.term.block; length = size t }

-- an admitted term with its end, as it stands in the queue
abbrev pub unfinished_of : ℕ × Task → UnfinishedTerm
unfinished_of c = record { id = block_id c.1.plan c.1.term.block; end = c.0 }

-- the first number, or the second where there is none
abbrev pub or_else : Option ℕ → Option ℕ → Option ℕ
or_else None o = o
or_else (Some e) o = Some e

-- the number, where the test holds
abbrev pub end_where : Bool → ℕ → Option ℕ
end_where true e = Some e
end_where false e = None

-- where the last nonempty one of these terms that has this block ends
abbrev pub last_end : ℕ → ℕ → List (ℕ × Task) → Option ℕ
last_end p b [] = None
last_end p b (c ∷ cs) = or_else (last_end p b cs) (end_where (needs p b c.1 && nat_lt 0 (size c.1)) c.0)

-- the index tells what the history, which is allowed, says
pub record IsIndexed (es : List Event) (i : Index) : Type 0 where
  pub allowed : IsAllowedHistory es
  pub plans_are : i.plans ≡ plan_count es
  pub end_is : (place : ℕ) → planned_end es place ≡ unwrap_or i.planned_end place
  pub fits : planned_end es 0 < 2 ^ 64
  pub waiting_are : i.waiting.items ≡ map waiting_of (drop (count_by is_admit es) (planned es))
  pub unfinished_are : i.unfinished.items ≡ map unfinished_of (unfinished es)
  pub written_is : i.written ≡ written es
  pub unwritten_is : i.unwritten ≡ unwritten es
  pub ends_are : (p b : ℕ) → end_in i.blocks p b ≡ last_end p b (ended 0 (admitted es))
  pub kept_are : (p b : ℕ) → kept_in i.blocks p b ≡ is_kept es p b
  pub stale_are : (p : ℕ) → sorted.contains nat_cmp i.stale p ≡ is_stale es p
  pub error_is : i.first_error ≡ first_error es
  pub cancelled_is : i.cancelled ≡ list_any is_cancel es

-- the terms of a plan, as they wait
abbrev pub waiting_in : ℕ → List PlannedTerm → List WaitingTerm
waiting_in plan ts =
    map (λ t. record { id = block_id plan t.block; length = t.byte_range.end - t.byte_range.start }) ts

-- the unfinished terms, without the oldest where it ends at this place
abbrev pub finished : ℕ → List UnfinishedTerm → List UnfinishedTerm
finished w [] = []
finished w (t ∷ ts) = cond (t.end == w) ts (t ∷ ts)

-- where a waiting term would end among the admitted bytes
abbrev pub end_of : Index → WaitingTerm → ℕ
end_of i t = i.written + i.unwritten + t.length

-- the queue of a term that is admitted: none for an empty one
abbrev pub queued : Index → WaitingTerm → List UnfinishedTerm
queued i t = filter (λ _. nat_lt 0 t.length) (record { id = t.id; end = end_of i t } ∷ [])

-- the first waiting term is admitted
pub record IsAdmitted (before after : Index) (next : WaitingTerm) : Type 0 where
  pub rest : after ≡ record before {
    waiting = after.waiting;
    unfinished = after.unfinished;
    unwritten = before.unwritten + next.length;
    blocks = after.blocks;
  }
  pub one_less : after.waiting.items ≡ drop 1 before.waiting.items
  pub behind : after.unfinished.items ≡ before.unfinished.items ++ queued before next
  pub nonempty : 0 < next.length → Ends before.blocks after.blocks next.id (end_of before next)
  pub empty : next.length ≡ 0 → after.blocks ≡ before.blocks

-- nothing changed but spare room
pub record SameIndex (before after : Index) : Type 0 where
  pub rest : after ≡ record before { unfinished = after.unfinished; blocks = after.blocks }
  pub unfinished_same : after.unfinished.items ≡ before.unfinished.items
  pub blocks_same : SameMarks before.blocks after.blocks
