-- The text of a file's hash reads as the hash.
use Rattle.std.proofs.Common.{◌≡◌, ℕ, zero, suc, ◌<◌, List, [], ◌∷◌, Some, arith, refl, rules}
use Rattle.std.specs.Prelude.{All, slice_index}
use Rattle.std.specs.Int.{to_be_bytes, w32}
use Rattle.std.proofs.lemmas.List.Elements.{All-append, All-head, All-nil, All-tail}
use Rattle.hex.specs.Hex.{IsBytes, encode_lower}
use Rattle.hex.proofs.HexLemmas.{decode_sized-encode_lower}
use Rattle.sha2.specs.Sha256.{digest_bytes, sha256}
use Rattle.sha2.proofs.Facts256.{length-sha256}
use Rattle.xet_base.specs.declared.mdb_shard.ChunkInfo.{ChunkInfo}
use Rattle.xet_base.specs.Digests.{file_hash_of}
use Rattle.xet_base.specs.HashText.{hash_of_text}

-- ---- a digest is of bytes

abbrev AreBytes : List ℕ → Type 0
AreBytes xs = All (λ b. b < 256) xs

word_bytes : (n : ℕ) → AreBytes (to_be_bytes w32 n)
word_bytes n = search rules

digest_are : (h : List ℕ) (n : ℕ) → AreBytes (digest_bytes h n)
unfolding digest_bytes
digest_are h zero = All-nil (λ b. b < 256)
digest_are h (suc n) =
    All-append (λ b. b < 256) (digest_bytes h n) (to_be_bytes w32 (slice_index h n)) (digest_are h n)
    (word_bytes (slice_index h n))

sha256_are : (m : List ℕ) → AreBytes (sha256 m)
unfolding sha256
sha256_are m = digest_are _ 8

is_bytes : (xs : List ℕ) → AreBytes xs → IsBytes xs
is_bytes [] all i = omega arith
is_bytes (x ∷ xs) all zero = All-head (λ b. b < 256) x xs all
is_bytes (x ∷ xs) all (suc i) = is_bytes xs (All-tail (λ b. b < 256) x xs all) i

-- ---- its text

pub read_back : (cs : List ChunkInfo) → hash_of_text (encode_lower (file_hash_of cs).0) ≡ Some (file_hash_of cs)
unfolding file_hash_of
read_back cs =
    rw (decode_sized-encode_lower (file_hash_of cs).0 32 (length-sha256 _) (is_bytes _ (sha256_are _))) refl
