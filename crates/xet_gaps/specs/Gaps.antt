-- Which bytes of a file are missing.
use Rattle.std.specs.Prelude.{ℕ, ◌≡◌, ◌-◌, ◌<◌, ◌≤◌, ◌^◌, Bool, cond, ◌&&◌, ◌+◌, ◌++◌, List, [], ◌∷◌, length, min, max}
use Rattle.std.specs.Prelude.{nat_le, nat_lt, All}
use Rattle.std.specs.List.{flat_map, list_any, sum_by}
use Rattle.xet_base.specs.declared.cas_types.FileRange.{FileRange}
use Rattle.xet_base.specs.declared.merklehash.MerkleHash.{MerkleHash}

-- ---- records

-- a file, its length, and the ranges of its bytes that are missing
pub record Gaps : Type 0 where
  pub file : MerkleHash
  pub length_is : ℕ
  pub gaps : List FileRange

-- nonempty ranges from a place on, apart by a byte at least, up to an end
abbrev pub AreGaps : ℕ → ℕ → List FileRange → Type 0
AreGaps low end [] = Unit {0}
AreGaps low end (g ∷ gs) = (low ≤ g.start) × (g.start < g.end) × (g.end ≤ end) × AreGaps (g.end + 1) end gs

-- the hash has 32 bytes, the length is a number of 64 bits, and the gaps lie inside it
pub record IsGapRecord (g : Gaps) : Type 0 where
  pub hash : length g.file.0 ≡ 32
  pub hash_bytes : All (λ b. b < 256) g.file.0
  pub short : g.length_is < 2 ^ 64
  pub gaps_are : AreGaps 0 g.length_is g.gaps

-- a range, where it has bytes
abbrev pub some_range : ℕ → ℕ → List FileRange
some_range a b = cond (nat_lt a b) (record { start = a; end = b } ∷ []) []

-- all bytes are missing
abbrev pub new_gaps : MerkleHash → ℕ → Gaps
new_gaps file n = record { file = file; length_is = n; gaps = some_range 0 n }

-- ---- bytes of ranges

-- a place lies in a range
abbrev pub is_in : ℕ → FileRange → Bool
is_in p r = nat_le r.start p && nat_lt p r.end

-- it lies in one of these
abbrev pub is_missing : ℕ → List FileRange → Bool
is_missing p gs = list_any (is_in p) gs

-- how many bytes are missing
abbrev pub missing_bytes : List FileRange → ℕ
missing_bytes gs = sum_by (λ g. g.end - g.start) gs

-- ---- parts and remainders

-- what gaps and a range have in common, in order
abbrev pub parts_of : List FileRange → FileRange → List FileRange
parts_of gs r = flat_map (λ g. some_range (max g.start r.start) (min g.end r.end)) gs

-- a gap has bytes of a range
abbrev pub Touches : FileRange → FileRange → Type 0
Touches r g = max g.start r.start < min g.end r.end

-- what a gap has before a range, and behind it
abbrev pub around : FileRange → FileRange → List FileRange
around r g = some_range g.start (min g.end r.start) ++ some_range (max g.start r.end) g.end

-- the gaps less a range; a range without bytes takes nothing
abbrev pub less : List FileRange → FileRange → List FileRange
less gs r = cond (nat_lt r.start r.end) (flat_map (around r) gs) gs

-- the first gap, cut to so many bytes
abbrev pub FirstGap : List FileRange → ℕ → FileRange → Type 0
FirstGap [] most r = ⊥
FirstGap (g ∷ gs) most r = r ≡ record { start = g.start; end = min g.end (g.start + most) }
