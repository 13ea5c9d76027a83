-- Where the list of a turn's missing blocks starts, and what is listed.
use Rattle.std.specs.Prelude.{ℕ, ◌==◌, cond, min, List, [], ◌∷◌, Option, Some, None, unwrap_or}
use Rattle.xet_leader.specs.declared.leader.LedPlan.{LedPlan}
use Rattle.xet_leader.specs.declared.missing_blocks.BlockAt.{BlockAt}
use Rattle.xet_leader.specs.Lacking.{with_place}

-- blocks that are listed, and a table of them from this first plan on, and in it from this low block on
pub record Listing : Type 0 where
  pub first : ℕ
  pub low : ℕ
  pub places : List BlockAt

-- with one more place, where it isn't listed yet
abbrev pub listed_with : Listing → BlockAt → Listing
listed_with t c = record t { places = with_place t.places c }

-- the number of the first plan
abbrev pub first_number : List LedPlan → ℕ
first_number [] = 0
first_number (l ∷ ls) = l.number

-- the lower of both numbers, where there are both
abbrev pub lower : Option ℕ → ℕ → ℕ
lower None n = n
lower (Some k) n = min k n

-- the lower of this number and the block's, if the block is of this plan
abbrev pub lowest_with : Option ℕ → ℕ → BlockAt → Option ℕ
lowest_with o plan c = cond (c.plan == plan) (Some (lower o c.block)) o

-- the lowest of this number and of those of the blocks of this plan among these
abbrev pub lowest_from : Option ℕ → ℕ → List BlockAt → Option ℕ
lowest_from o plan [] = o
lowest_from o plan (c ∷ cs) = lowest_from (lowest_with o plan c) plan cs

-- nothing is listed of these blocks, in a table that starts with this plan, and there with its lowest block
abbrev pub none_listed : ℕ → List BlockAt → Listing
none_listed plan cs = record { first = plan; low = unwrap_or (lowest_from None plan cs) 0; places = [] }
