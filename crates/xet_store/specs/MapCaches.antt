-- What a cache in memory answers.
use Rattle.std.specs.Prelude.{◌≡◌, ◌++◌, Bool, ◌&&◌, List, [], ◌∷◌, find, nat_eq, option_map, Option, None, IsSome}
use Rattle.std.specs.Prelude.{Result, Ok, OnOk, OnErr, IfOk, IfErr}
use Rattle.xet_base.specs.declared.cas_types.ChunkRange.{ChunkRange}
use Rattle.xet_base.specs.declared.merklehash.MerkleHash.{MerkleHash}
use Rattle.xet_base.specs.Hashes.{hash_eq}
use Rattle.xet_outside.specs.declared.block.BlockBytes.{BlockBytes}
use Rattle.xet_outside.specs.declared.chunk_cache.CacheError.{CacheError}
use Rattle.xet_outside.specs.declared.chunk_cache.CacheError.TheVariants as cache_error
use Rattle.xet_store.specs.declared.map_cache.CacheKey.{CacheKey}
use Rattle.xet_outside.specs.Told.{CacheEntry}

abbrev pub key_of : CacheEntry → CacheKey
key_of e = record { xorb = e.0; range = e.1 }

-- an entry is of this xorb and range
abbrev pub has_key : MerkleHash → ChunkRange → CacheEntry → Bool
has_key x r e = hash_eq e.0 x && (nat_eq e.1.start r.start && nat_eq e.1.end r.end)

-- the entry of a key
abbrev pub entry_at : List CacheEntry → MerkleHash → ChunkRange → Option BlockBytes
entry_at es x r = option_map (λ (e : CacheEntry). e.2) (find (has_key x r) es)

-- a look: the entry of the key, or want of memory
pub record MapGet (es : List CacheEntry) (x : MerkleHash) (r : ChunkRange)
    (answer : Result (Option BlockBytes) CacheError) : Type 0 where
  pub found : IfOk answer (λ o. o ≡ entry_at es x r)
  pub memory : IfErr answer (λ e. e ≡ cache_error.OutOfMemory)

-- an offer: the entry is added where its key isn't there, or memory was wanted
pub record MapPut (before after : List CacheEntry) (x : MerkleHash) (r : ChunkRange) (b : BlockBytes)
    (answer : Result (Unit {0}) CacheError) : Type 0 where
  pub added : entry_at before x r ≡ None → OnOk answer (after ≡ before ++ (x, r, b) ∷ [])
  pub left : IsSome (entry_at before x r) → (after ≡ before) × (answer ≡ Ok tt)
  pub kept : OnErr answer (after ≡ before)
  pub memory : IfErr answer (λ e. e ≡ cache_error.OutOfMemory)
