-- Chunks of a valid xorb are short.
use Rattle.std.proofs.Common.{◌≡◌, ℕ, zero, suc, ◌+◌, ◌<◌, ◌≤◌, ◌^◌, List, [], ◌∷◌, length, get_or, arith, All}
use Rattle.std.specs.List.{concat}
use Rattle.std.proofs.lemmas.List.{length-append}
use Rattle.xet_base.specs.declared.mdb_shard.Xorb.{Xorb}
use Rattle.xet_base.specs.Store.{IsValidXorb}

chunk-le : (cs : List (List ℕ)) (k : ℕ) (d : List ℕ) → k < length cs → length (get_or cs k d) ≤ length (concat cs)
chunk-le [] k d l = absurd (omega (arith, l))
chunk-le (c ∷ cs) zero d l = let long = length-append c (concat cs) in omega (arith, long)
chunk-le (c ∷ cs) (suc k) d l =
    let long = length-append c (concat cs) in
    let rest = chunk-le cs k d (omega (arith, l)) in
    omega (arith, long, rest)

pub chunks_short : (x : Xorb) → IsValidXorb x → All (λ c. length c < 2 ^ 32) x.chunks
chunks_short x v = λ k d l.
    let less = chunk-le x.chunks k d l in
    let short = v.byte_count in
    omega (arith, less, short)
