-- What is left of the tries of blocks that aren't kept.
use Rattle.std.specs.Prelude.{ℕ, ◌+◌, ◌-◌, cond, List, map, count_by}
use Rattle.xet_events.specs.declared.event.Event.{Event}
use Rattle.xet_events.specs.Events.{expires, is_kept}
use Rattle.xet_ties.specs.PartCalls.{total}
use Rattle.xet_ties.specs.Recordings.{Place}

-- of a block that isn't kept, how often its URL may still expire, and 1; of a kept one nothing
abbrev pub left_of : ℕ → List Event → Place → ℕ
left_of tries es c = cond (is_kept es c.0 c.1) 0 ((tries - count_by (expires c.0 c.1) es) + 1)

abbrev pub left : ℕ → List Event → List Place → ℕ
left tries es cs = total (map (left_of tries es) cs)
