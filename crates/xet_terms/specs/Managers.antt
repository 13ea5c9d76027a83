-- What contracts see of a manager, and what its calls do.
use Rattle.std.specs.Prelude.{ℕ, ◌≡◌, ◌⊎◌, ◌+◌, ◌-◌, ◌*◌, ◌<◌, ◌≤◌, ◌^◌, Bool, true, false, ◌&&◌, ◌||◌, List, [], ◌∷◌}
use Rattle.std.specs.Prelude.{◌++◌, cond, nat_lt, nat_le, max, min, length, filter, take, drop, Option, Some, None}
use Rattle.xet_base.specs.declared.cas_types.FileRange.{FileRange}
use Rattle.xet_base.specs.declared.item_id.UniqueID.{UniqueID}
use Rattle.xet_base.specs.declared.merklehash.MerkleHash.{MerkleHash}
use Rattle.xet_error.specs.declared.error.FileReconstructionError.{FileReconstructionError}
use Rattle.xet_terms.specs.declared.planned_bytes.PlannedBytes.{PlannedBytes}
use Rattle.xet_terms.specs.declared.reconstruction_config.ReconstructionConfig.{ReconstructionConfig}
use Rattle.xet_blocks.specs.declared.reconstruction_terms.file_term.TermBlock.{TermBlock}
use Rattle.xet_terms.specs.Queries.{CutFrom, end_from}

pub record Manager : Type 0 where
  pub file : MerkleHash
  pub range : FileRange
  pub least : ℕ
  pub greatest : ℕ
  pub buffer : ℕ
  pub multirange : Bool
  -- those that were asked, then those that are scheduled
  pub queries : List FileRange
  pub asked : ℕ
  pub answered : ℕ
  pub known_end : ℕ
  -- an answer was past the end, or had terms that end before its query does
  pub ended : Bool
  -- answered with terms, and not handed out
  pub waiting : List TermBlock
  -- where the plan that was handed out last ends, at first the range's start
  pub handed_end : ℕ
  -- the first error of `next_file_terms`
  pub failed : Option FileReconstructionError
  -- what the plans that were taken come to
  pub planned : PlannedBytes
  -- the item to which that is reported, where there is one
  pub progress : Option UniqueID

-- a sum, which stays at the type's end
abbrev pub bounded : ℕ → ℕ
bounded n = min n (2 ^ 64 - 1)

abbrev pub scheduled_end : Manager → ℕ
scheduled_end m = end_from m.range.start m.queries

-- where a query of this size, clamped, would end: cut at the known end and the range's end, and drawn to the range's
-- end where less than the least size would be left
abbrev pub cut_at : ℕ → ℕ → FileRange → ℕ → ℕ → ℕ → ℕ
cut_at least greatest range known start size =
    let e = min (bounded (start + max (min size greatest) least)) (min known range.end) in
    cond (nat_lt range.end (bounded (e + least))) range.end e

abbrev pub cut_end : Manager → ℕ → ℕ
cut_end m size = cut_at m.least m.greatest m.range m.known_end (scheduled_end m) size

-- the queries with one of this size scheduled, where one has room
abbrev pub scheduled : Manager → ℕ → List FileRange
scheduled m size =
    cond (nat_lt (scheduled_end m) (cut_end m size))
    (m.queries ++ record { start = scheduled_end m; end = cut_end m size } ∷ [])
    m.queries

-- what a manager keeps
pub record IsManager (m : Manager) : Type 0 where
  pub least_some : 0 < m.least
  pub least_below : m.least ≤ m.greatest
  pub cuts : CutFrom m.range.start m.range.end (m.greatest + m.least) m.queries
  pub asked_within : m.asked ≤ length m.queries
  pub answered_within : m.answered ≤ m.asked
  -- the known end is known by an answer alone
  pub still_open : m.ended ≡ false → m.known_end ≡ 2 ^ 64 - 1
  pub range_fits : m.range.end < 2 ^ 64

-- each byte of the range below the known end lies in a query that was answered
pub record IsCovered (m : Manager) : Type 0 where
  pub answered : m.answered ≡ length m.queries
  pub reached : min m.known_end m.range.end ≤ scheduled_end m

-- the queries reach the range's end, or an answer was past the end or with terms that end before the query does
abbrev pub ReachesEnd : Manager → Type 0
ReachesEnd m = m.range.start < m.range.end → (scheduled_end m ≡ m.range.end) ⊎ (m.ended ≡ true)

-- an answer is past the end, or its terms end before the query does
abbrev pub ends_early : FileRange → Option TermBlock → Bool
ends_early q None = true
ends_early q (Some b) = nat_lt b.byte_range.end q.end

-- the known end after an answer
abbrev pub known_after : ℕ → FileRange → Option TermBlock → ℕ
known_after known q None = min known q.start
known_after known q (Some b) = cond (nat_lt b.byte_range.end q.end) b.byte_range.end known

-- the queries without those that weren't asked and start at or past the known end
abbrev pub without_past : ℕ → ℕ → List FileRange → List FileRange
without_past asked known qs = take asked qs ++ filter (λ q. nat_lt q.start known) (drop asked qs)

-- what no plan comes to
abbrev pub none_planned : PlannedBytes
none_planned = record { bytes = 0; transfer_bytes = 0; is_final = false }

-- sums with a plan's bytes and transfer bytes more; a query past the end makes them final
abbrev pub planned_with : PlannedBytes → Option TermBlock → PlannedBytes
planned_with sums None = record sums { is_final = true }
planned_with sums (Some plan) = record sums {
  bytes = bounded (sums.bytes + (plan.byte_range.end - plan.byte_range.start));
  transfer_bytes = bounded (sums.transfer_bytes + plan.transfer_bytes);
}

-- a manager before a query is scheduled
abbrev pub empty_manager : MerkleHash → FileRange → ReconstructionConfig → Option UniqueID → Manager
empty_manager file range c progress = record {
  file = file;
  range = range;
  least = c.min_reconstruction_fetch_size;
  greatest = c.max_reconstruction_fetch_size;
  buffer = c.min_prefetch_buffer;
  multirange = c.enable_multirange_fetching;
  queries = [];
  asked = 0;
  answered = 0;
  known_end = 2 ^ 64 - 1;
  ended = false;
  waiting = [];
  handed_end = range.start;
  failed = None;
  planned = none_planned;
  progress = progress;
}

-- a manager at first: one query of the least size, and then one of twice that size
abbrev pub begun : MerkleHash → FileRange → ReconstructionConfig → Option UniqueID → Manager
begun file range c progress =
    let m = empty_manager file range c progress in
    let n = record m { queries = scheduled m m.least } in
    record n { queries = scheduled n (bounded (n.least * 2)) }

-- a manager that looked at its buffer, where the policy answered this
abbrev pub looked_ahead : Manager → ℕ → Manager
looked_ahead m answer =
    let target = max answer m.buffer in
    let size = scheduled_end m - m.handed_end in
    cond (nat_le m.known_end (scheduled_end m)) m
    (cond (nat_lt 0 (length m.waiting) && nat_le target size) m
    (record m { queries = scheduled m (target - size) }))

-- terms came for a query at or past the known end
abbrev pub PassesKnownEnd : Manager → FileRange → Option TermBlock → Type 0
PassesKnownEnd m q None = ⊥
PassesKnownEnd m q (Some b) = m.known_end ≤ q.start

abbrev pub waiting_after : List TermBlock → Option TermBlock → List TermBlock
waiting_after ws None = ws
waiting_after ws (Some b) = ws ++ b ∷ []

-- a manager after an answer that makes this the known end
abbrev pub settled : Manager → ℕ → Bool → Manager
settled m known early = record m {
  queries = without_past m.asked known m.queries;
  answered = m.answered + 1;
  known_end = known;
  ended = m.ended || early;
}

-- a manager with the answer to its oldest asked query, which is not counted in what is planned
abbrev pub with_answer : Manager → FileRange → Option TermBlock → Manager
with_answer m q answer =
    settled (record m { waiting = waiting_after m.waiting answer }) (known_after m.known_end q answer)
    (ends_early q answer)

-- a manager after the answer to its oldest asked query
abbrev pub accepted : Manager → FileRange → Option TermBlock → Manager
accepted m q answer = record (with_answer m q answer) { planned = planned_with m.planned answer }
