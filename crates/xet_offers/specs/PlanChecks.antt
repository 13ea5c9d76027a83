-- The tests of a plan, and the first that fails.
use Rattle.std.specs.Prelude.{ℕ, ◌+◌, ◌-◌, ◌^◌, ◌≡◌, Bool, false, cond, ◌||◌, List, [], ◌∷◌, ◌++◌, map, find, position}
use Rattle.std.specs.Prelude.{min, sum, take, is_none, option_map, option_and_then, nat_lt, nat_le, Option, Some, None}
use Rattle.std.specs.List.{last_or}
use Rattle.xet_base.specs.declared.cas_types.FileRange.{FileRange}
use Rattle.xet_base.specs.Lists.{first_some}
use Rattle.xet_outside.specs.Plan.{Shape}
use Rattle.xet_outside.specs.declared.plan.PlanTerm.{PlanTerm}
use Rattle.xet_outside.specs.Plan.{XorbShape}
use Rattle.xet_outside.specs.declared.plan.FetchRange.{FetchRange}
use Rattle.xet_error.specs.declared.error.Corruption.{Corruption}
use Rattle.xet_error.specs.declared.error.Corruption.TheVariants.{Ranges, NoXorb, NoRange, Offset, Position, Trim}
use Rattle.xet_offers.specs.Blocks.{plan_xorb_of, block_of_term}

-- the length of each term, the first without the plan's offset
abbrev pub sizes_from : ℕ → List PlanTerm → List ℕ
sizes_from o [] = []
sizes_from o (t ∷ ts) = (t.unpacked_length - o) ∷ map (λ u. u.unpacked_length) ts

-- the lengths of a plan's terms in the file, before the last is cut at the query's end
abbrev pub sizes : Shape → List ℕ
sizes p = sizes_from p.offset p.terms

-- where a term ends, untrimmed, for a query that starts at the given place
abbrev pub ends : ℕ → List ℕ → List ℕ
ends p [] = []
ends p (n ∷ ns) = (p + n) ∷ ends (p + n) ns

-- the bytes of the file from the query's start to the end of the last term, which is cut at the query's end
abbrev pub covered : Shape → FileRange → FileRange
covered p q = record { start = q.start; end = min (q.start + sum (sizes p)) q.end }

-- a range is empty or reversed, or starts before the one before it ends
abbrev pub unordered : ℕ → List FetchRange → Bool
unordered low [] = false
unordered low (r ∷ rs) = nat_le r.chunks.end r.chunks.start || (nat_lt r.chunks.start low || unordered r.chunks.end rs)

-- the first entry of a xorb that has such a range
abbrev pub failed_ranges : XorbShape → Option Corruption
failed_ranges x = option_map (λ i. Ranges x.xorb i) (position (λ e. unordered 0 e) x.entries)

-- over multirange blocks, an entry of a xorb has such a range
abbrev pub ranges_test : Shape → Bool → Option Corruption
ranges_test p multi = cond multi (first_some (map failed_ranges p.xorbs)) None

-- the xorb of a term is not in the plan
abbrev pub no_xorb_test : Shape → Option Corruption
no_xorb_test p = option_map (λ i. NoXorb i) (position (λ t. is_none (plan_xorb_of p t.xorb)) p.terms)

-- a term lies in no range of its xorb
abbrev pub no_range_test : Shape → Bool → Option Corruption
no_range_test p multi = option_map (λ i. NoRange i) (position (λ t. is_none (block_of_term p multi t)) p.terms)

-- the plan's offset is over its first term's length
abbrev pub offset_test : Shape → Option Corruption
offset_test p =
    let o = p.offset in
    option_map (λ t. Offset o t.unpacked_length) (find (λ t. nat_lt t.unpacked_length o) (take 1 p.terms))

-- the end of a term in the file is no `u64`
abbrev pub position_test : Shape → FileRange → Option Corruption
position_test p q = option_map (λ i. Position i) (position (λ e. nat_le (2 ^ 64) e) (ends q.start (sizes p)))

-- how far the positions pass the query's end
abbrev pub excess : Shape → FileRange → ℕ
excess p q = q.start + sum (sizes p) - q.end

-- they pass it by more than the last term's length
abbrev pub trim_test : Shape → FileRange → Option Corruption
trim_test p q =
    let over = excess p q in
    option_and_then (λ last. cond (nat_lt last over) (Some (Trim over last)) None) (last_or None (sizes p))

-- the tests of a plan's entries and of the terms in them, and those of the terms' places in the file, in their order
abbrev pub entry_tests : Shape → Bool → List (Option Corruption)
entry_tests p multi = ranges_test p multi ∷ no_xorb_test p ∷ no_range_test p multi ∷ []

abbrev pub place_tests : Shape → FileRange → List (Option Corruption)
place_tests p q = offset_test p ∷ position_test p q ∷ trim_test p q ∷ []

-- the first test that the plan fails
abbrev pub failed_test : Shape → FileRange → Bool → Option Corruption
failed_test p q multi = first_some (entry_tests p multi ++ place_tests p q)

-- no test fails
abbrev pub IsAccepted : Shape → FileRange → Bool → Type 0
IsAccepted p q multi = failed_test p q multi ≡ None
