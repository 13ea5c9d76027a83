-- What is left of a run, as a number that each turn makes less.
use Rattle.std.specs.Prelude.{ℕ, ◌≡◌, ◌+◌, ◌-◌, ◌*◌, ◌^◌, ◌<◌, ◌≤◌, List, length, map, count_by}
use Rattle.xet_events.specs.declared.event.Event.{Event}
use Rattle.xet_events.specs.Events.{Task, is_admit, planned}
use Rattle.xet_history.specs.TrueHistory.{queries_end}
use Rattle.xet_ties.specs.Setup.{Setup}
use Rattle.xet_ties.specs.Measures.{left}
use Rattle.xet_ties.specs.Recordings.{Place}
use Rattle.xet_leader.specs.Led.{Led}

-- the bytes of the range that weren't asked for
abbrev pub left_bytes : Setup → List Event → ℕ
left_bytes g es = g.range.end - queries_end es g.range.start

-- the planned terms that aren't admitted
abbrev pub waiting : List Event → ℕ
waiting es = length (planned es) - count_by is_admit es

-- a term's block
abbrev pub place_of : Task → Place
place_of t = (t.plan, t.term.block)

-- the blocks of the planned terms; a block of several terms stands here as often
abbrev pub places : List Event → List Place
places es = map place_of (planned es)

-- the planned terms that aren't wholly written
abbrev pub unfinished_terms : Led → ℕ
unfinished_terms l = l.planned - l.finished

-- four digits, the first of them the most significant: the second and the last are below 2 ^ 64, and the third is
-- below 2 ^ 128
abbrev pub digits : ℕ → ℕ → ℕ → ℕ → ℕ
digits a b c d = ((a * 2 ^ 64 + b) * 2 ^ 128 + c) * 2 ^ 64 + d

-- the bytes not asked for, the terms not admitted, the tries that are left, and the terms not written
abbrev pub measure : Setup → List Event → Led → ℕ
measure g es l = digits (left_bytes g es) (waiting es) (left g.tries es (places es)) (unfinished_terms l)

-- no more is left, and as many terms are written and admitted
pub record LeavesSame (g : Setup) (es fs : List Event) (l k : Led) : Type 0 where
  pub stays : measure g fs k ≤ measure g es l
  pub finished_is : k.finished ≡ l.finished
  pub admitted_is : k.admitted ≡ l.admitted

-- no more is left, and less where some admitted term wasn't written
pub record LeavesLess (g : Setup) (es fs : List Event) (l k : Led) : Type 0 where
  pub stays : measure g fs k ≤ measure g es l
  pub falls : l.finished < l.admitted → measure g fs k < measure g es l
