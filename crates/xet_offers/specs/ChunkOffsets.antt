-- The numbers and places of a block's chunks.
use Rattle.std.specs.Prelude.{ℕ, ◌+◌, ◌^◌, ◌≤◌, List, length, zip}
use Rattle.std.specs.List.{range_with_len}
use Rattle.xet_offers.specs.declared.reconstruction_terms.chunk_offsets.Chunks.{Chunks}
use Rattle.xet_offers.specs.declared.reconstruction_terms.chunk_offsets.Chunks.TheVariants.{Pairs, Run}

-- numbers from a first one on, each with its place
abbrev pub run : ℕ → List ℕ → List (ℕ × ℕ)
run first places = zip (range_with_len first (length places)) places

-- the number and the place of each chunk
abbrev pub pairs_of : Chunks → List (ℕ × ℕ)
pairs_of (Run first places) = run first places
pairs_of (Pairs pairs) = pairs

-- the numbers of a run are those of chunks
abbrev pub AreNumbers : Chunks → Type 0
AreNumbers (Run first places) = first + length places ≤ 2 ^ 32
AreNumbers (Pairs pairs) = Unit {0}
