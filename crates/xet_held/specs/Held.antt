-- Which chunks of xorbs terms hold, and their new numbers.
use Rattle.std.specs.Prelude.{ℕ, ◌+◌, Bool, ◌&&◌, List, count_by, filter, fold, map, max, nat_le, nat_lt, take}
use Rattle.std.specs.List.{enumerate_from, range_with_len}
use Rattle.xet_base.specs.declared.merklehash.MerkleHash.{MerkleHash}
use Rattle.xet_base.specs.declared.stored.StoredTerm.{StoredTerm}
use Rattle.xet_base.specs.Hashes.{hash_eq}

-- the term holds the chunk of this number of this xorb
abbrev pub covers : MerkleHash → ℕ → StoredTerm → Bool
covers x k t = hash_eq t.xorb x && (nat_le t.from k && nat_lt k t.to)

-- the greatest of some numbers, and 0 of none
abbrev pub greatest : List ℕ → ℕ
greatest ns = fold (λ a n. max a n) 0 ns

-- a term that begins with this chunk or before it reaches behind it; the numbers say for each chunk how far the terms
-- that begin with it reach
abbrev pub is_reached : List ℕ → ℕ → Bool
is_reached ends k = nat_lt k (greatest (take (k + 1) ends))

-- the chunks whose numbers pass
abbrev pub passing : (ℕ → Bool) → List (List ℕ) → List (List ℕ)
passing p cs = map (λ q. q.1) (filter (λ q. p q.0) (enumerate_from 0 cs))

-- for each of so many chunks, and for the place behind them, how many before it pass
abbrev pub new_numbers : (ℕ → Bool) → ℕ → List ℕ
new_numbers p n = map (λ k. count_by p (range_with_len 0 k)) (range_with_len 0 (n + 1))
