-- Which gaps a range touches.
use Rattle.std.specs.Prelude.{ℕ, ◌<◌, ◌≤◌, List, length, take, drop, slice_range}
use Rattle.std.specs.List.{AllByRecursion}
use Rattle.xet_base.specs.declared.cas_types.FileRange.{FileRange}
use Rattle.xet_gaps.specs.Gaps.{AreGaps}

-- gaps up to some end
abbrev pub AreSome : List FileRange → Type 0
AreSome gs = (end : ℕ) × AreGaps 0 end gs

-- a gap ends before a range, has bytes of it, or starts behind it
abbrev pub EndsBefore : FileRange → FileRange → Type 0
EndsBefore r g = g.end ≤ r.start

abbrev pub HasSome : FileRange → FileRange → Type 0
HasSome r g = (g.start < r.end) × (r.start < g.end)

abbrev pub StartsBehind : FileRange → FileRange → Type 0
StartsBehind r g = r.end ≤ g.start

-- those from one number to before another have bytes of the range, and no others have
pub record Touched (gs : List FileRange) (r : FileRange) (from to : ℕ) : Type 0 where
  pub in_order : from ≤ to
  pub within : to ≤ length gs
  pub some : from < to → r.start < r.end
  pub before : r.start < r.end → AllByRecursion (EndsBefore r) (take from gs)
  pub here : AllByRecursion (HasSome r) (slice_range gs from to)
  pub behind : r.start < r.end → AllByRecursion (StartsBehind r) (drop to gs)
