-- Queues of terms.
use Rattle.std.specs.Prelude.{ℕ, ◌-◌, ◌==◌, ◌&&◌, nat_le, length, List, [], ◌∷◌, map, filter, cond, Bool, Option, Some}
use Rattle.std.specs.Prelude.{None, is_none, option_to_list}
use Rattle.std.specs.List.{concat, flat_map}
use Rattle.xet_base.specs.declared.cas_types.FileRange.{FileRange}
use Rattle.xet_run.specs.Budgets.{Admission}
use Rattle.xet_queue.specs.declared.queued_term.QueuedTerm.{QueuedTerm}

-- ---- bytes

-- some bytes and then these, or none where they are wanted
abbrev pub bytes_then : Option (List ℕ) → List (List ℕ) → List (List ℕ)
bytes_then None rest = []
bytes_then (Some bytes) rest = bytes ∷ rest

-- the bytes of the terms before the first wanted one, each term's by itself
abbrev pub ready : List QueuedTerm → List (List ℕ)
ready [] = []
ready (t ∷ ts) = bytes_then t.bytes (ready ts)

abbrev pub ready_bytes : List QueuedTerm → List ℕ
ready_bytes ts = concat (ready ts)

-- ---- wanted terms

abbrev pub range_of : QueuedTerm → FileRange
range_of t = t.byte_range

-- the ranges of the wanted terms, in order
abbrev pub wanted : List QueuedTerm → List FileRange
wanted ts = map range_of (filter (λ t. is_none t.bytes) ts)

-- a wanted term with this start
abbrev pub is_wanted_at : ℕ → QueuedTerm → Bool
is_wanted_at start t = is_none t.bytes && t.byte_range.start == start

-- the first wanted term with this start has its bytes now
abbrev pub supplied : ℕ → List ℕ → List QueuedTerm → List QueuedTerm
supplied start bytes [] = []
supplied start bytes (t ∷ ts) = cond (is_wanted_at start t) (record t { bytes = Some bytes } ∷ ts)
    (t ∷ supplied start bytes ts)

-- ---- admissions

-- the admissions of some terms, in order
abbrev pub admissions : List QueuedTerm → List Admission
admissions ts = flat_map (λ t. option_to_list t.admission) ts

-- ---- places

-- bytes, if there are any, are as many as the range has
abbrev pub fits : Option (List ℕ) → FileRange → Bool
fits None r = nat_le r.start r.end
fits (Some bytes) r = nat_le r.start r.end && length bytes == r.end - r.start

-- where the last term ends, if the first one starts at this place, each one where the one before it ends, and each fits
abbrev pub chain_end : ℕ → List QueuedTerm → Option ℕ
chain_end place [] = Some place
chain_end place (t ∷ ts) = cond (t.byte_range.start == place && fits t.bytes t.byte_range)
    (chain_end t.byte_range.end ts) None
