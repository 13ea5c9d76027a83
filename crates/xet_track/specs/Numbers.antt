-- The numbers and names that words spell.
use Rattle.std.specs.Prelude.{ℕ, ◌+◌, ◌-◌, ◌*◌, ◌/◌, ◌%◌, ◌^◌, ◌&&◌, cond, List, [], ◌∷◌, ◌++◌, length, replicate}
use Rattle.std.specs.Prelude.{Option, Some, None, option_and_then, nat_lt, nat_le}
use Rattle.xet_base.specs.declared.merklehash.MerkleHash.{MerkleHash}

-- the number of the digits, after a number that was read before them, where it is at most u64::MAX
abbrev pub number_after : ℕ → List ℕ → Option ℕ
number_after n [] = Some n
number_after n (x ∷ xs) = cond (nat_le 48 x && (nat_le x 57 && nat_lt (10 * n + (x - 48)) (2 ^ 64)))
    (number_after (10 * n + (x - 48)) xs) None

-- 1 to 20 decimal digits of at most u64::MAX
abbrev pub number_of_text : List ℕ → Option ℕ
number_of_text text = cond (nat_le 1 (length text) && nat_le (length text) 20) (number_after 0 text) None

-- 28 zero bytes, and the 4 bytes of a number from the highest on
abbrev pub hash_of_number : ℕ → MerkleHash
hash_of_number n = record { 0 = replicate 28 0 ++ n / 16777216 ∷ n / 65536 % 256 ∷ n / 256 % 256 ∷ n % 256 ∷ [] }

-- the hash of a number below 2^32
abbrev pub hash_below : ℕ → Option MerkleHash
hash_below n = cond (nat_lt n (2 ^ 32)) (Some (hash_of_number n)) None

-- a number below 2 ^ 32
abbrev pub name_of_text : List ℕ → Option MerkleHash
name_of_text text = option_and_then hash_below (number_of_text text)
