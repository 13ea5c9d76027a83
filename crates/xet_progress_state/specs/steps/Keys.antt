-- Hashes as keys whose last bytes are compared first.
use Rattle.std.specs.Prelude.{ℕ, ◌∷◌, [], slice_index}
use Rattle.std.specs.Int.{from_be_bytes, w64}
use Rattle.std.specs.Ordering.{nat_cmp, on, then_cmp}
use Rattle.std.specs.Cmp.Lexicographic.{slice_cmp}
use Rattle.std.specs.declared.cmp.Ordering.{Ordering}
use Rattle.xet_base.specs.declared.merklehash.MerkleHash.{MerkleHash}
use Rattle.xet_progress_state.specs.declared.hash_key.HashKey.{HashKey}

-- the number that the last eight bytes of a hash write, the highest first
unfoldable pub last_word : MerkleHash → ℕ
last_word h =
    let b = slice_index h.0 in
    from_be_bytes w64 (b 24 ∷ b 25 ∷ b 26 ∷ b 27 ∷ b 28 ∷ b 29 ∷ b 30 ∷ b 31 ∷ [])

-- a hash as a key
abbrev pub key_of : MerkleHash → HashKey
key_of h = record { word = last_word h; hash = h }

-- keys by their numbers, and then by the first byte of their hashes that differs
abbrev pub key_cmp : HashKey → HashKey → Ordering
key_cmp = then_cmp (on (λ k. k.word) nat_cmp) (on (λ k. k.hash.0) (slice_cmp nat_cmp))
