-- Cached entries: their tests, and what a look and an offer may do.
use Rattle.std.specs.Prelude.{ℕ, ◌≡◌, ◌+◌, ◌-◌, ◌^◌, ◌≤◌, ◌⊎◌, Bool, true, false, ◌&&◌, List, [], ◌∷◌, length, map, min}
use Rattle.std.specs.Prelude.{is_none, nat_le, slice_get, Option, Some, None, MatchOption, Contains, IfSome, Result}
use Rattle.std.specs.Prelude.{IfOk, IfErr, OnOk, OnErr}
use Rattle.std.specs.List.{list_all}
use Rattle.xet_base.specs.declared.cas_types.ChunkRange.{ChunkRange}
use Rattle.xet_base.specs.declared.error.OutOfMemory.{OutOfMemory}
use Rattle.xet_outside.specs.declared.block.BlockBytes.{BlockBytes}
use Rattle.xet_outside.specs.Told.{CacheTold, Counted, Grew}
use Rattle.xet_error.specs.declared.error.FileReconstructionError.{FileReconstructionError}
use Rattle.xet_error.specs.declared.error.FileReconstructionError.TheVariants as error
use Rattle.xet_offers.specs.declared.reconstruction_terms.xorb_block.XorbBlock.{XorbBlock}
use Rattle.xet_offers.specs.declared.reconstruction_terms.xorb_block.XorbBlockData.{XorbBlockData}
use Rattle.xet_offers.specs.declared.reconstruction_terms.xorb_block.XorbReference.{XorbReference}
use Rattle.xet_offers.specs.Blocks.{start_index}
use Rattle.xet_offers.specs.BlockChecks.{block_data, failed_block_test}

-- all bytes of a reference's chunks, whose first one starts at this place, are there
abbrev pub ends_within : ℕ → XorbReference → Option ℕ → Bool
ends_within size r None = false
ends_within size r (Some place) = nat_le (place + r.uncompressed_size) size

abbrev pub has_reference : List ChunkRange → BlockBytes → XorbReference → Bool
has_reference rs e r = ends_within (length e.bytes) r (slice_get e.offsets (start_index rs r.term_chunks.start))

-- an entry of these ranges, whose size is this one where it is known, passes the tests of a block, and has all bytes of
-- each reference
abbrev pub is_sound : List ChunkRange → Option ℕ → List XorbReference → BlockBytes → Bool
is_sound rs size refs e = is_none (failed_block_test rs size e) && list_all (has_reference rs e) refs

-- a block's tests of an entry
abbrev pub passes_cached : XorbBlock → BlockBytes → Bool
passes_cached x e = is_sound x.chunk_ranges x.uncompressed_size_if_known x.references e

-- one call of `check_cached`
pub record CheckCachedCall (x : XorbBlock) (e : BlockBytes)
    (answer : Result (Option XorbBlockData) OutOfMemory) : Type 0 where
  pub made : IfOk answer (λ o. MatchOption o (passes_cached x e ≡ false) (λ d. (passes_cached x e ≡ true)
      × (d ≡ block_data x.chunk_ranges e)))

-- what a look told of the one range of a block gives
abbrev pub Looked : XorbBlock → ChunkRange → CacheTold → CacheTold → Option BlockBytes → Type 0
Looked x r before after o = Grew before.looked after.looked (x.xorb_hash, r, o) × (after.offers ≡ before.offers)
    × (after.entries ≡ before.entries) × (before.faults ≤ after.faults)
    × IfSome o (λ e. IfSome before.entries (λ es. Contains es (x.xorb_hash, r, e)))

-- a block of one range is looked for once, and one of several isn't; this is what the look gave
abbrev pub LookedFor : XorbBlock → List ChunkRange → CacheTold → CacheTold → Option BlockBytes → Type 0
LookedFor x (r ∷ []) before after o = Looked x r before after o
LookedFor x [] before after o = (after ≡ before) × (o ≡ None)
LookedFor x (r ∷ s ∷ rs) before after o = (after ≡ before) × (o ≡ None)

-- what is found by what a look gave: the data of an entry that passes its tests
abbrev pub FoundIn : XorbBlock → Option BlockBytes → Option XorbBlockData → Type 0
FoundIn x None found = found ≡ None
FoundIn x (Some e) found = MatchOption found (passes_cached x e ≡ false) (λ d. (passes_cached x e ≡ true)
    × (d ≡ block_data x.chunk_ranges e))

-- a look after which there is an answer
pub record LookOk (x : XorbBlock) (before after : CacheTold) (found : Option XorbBlockData) : Type 0 where
  pub given : Option BlockBytes
  pub looked : LookedFor x x.chunk_ranges before after given
  pub found_in : FoundIn x given found

-- what became of the looks where memory was wanting: the look for a block of one range may be among them, with what it
-- gave
abbrev pub MaybeLooked : XorbBlock → List ChunkRange → CacheTold → CacheTold → Type 0
MaybeLooked x (r ∷ []) before after =
    (after.looked ≡ before.looked) ⊎ ((o : Option BlockBytes) × Looked x r before after o)
MaybeLooked x [] before after = after.looked ≡ before.looked
MaybeLooked x (r ∷ s ∷ rs) before after = after.looked ≡ before.looked

-- what a look leaves of a cache, whatever it answers
pub record LookKeeps (before after : CacheTold) : Type 0 where
  pub entries : after.entries ≡ before.entries
  pub offers : after.offers ≡ before.offers
  pub faults : before.faults ≤ after.faults

-- one call of `look_up`
pub record LookCall (x : XorbBlock) (before after : CacheTold)
    (answer : Result (Option XorbBlockData) FileReconstructionError) : Type 0 where
  pub keeps : LookKeeps before after
  pub looked : IfOk answer (LookOk x before after)
  pub unlooked : OnErr answer (MaybeLooked x x.chunk_ranges before after)
  pub error : IfErr answer (λ e. e ≡ error.OutOfMemory)

-- an entry was offered for a block of one range, and nothing for one of several
abbrev pub IsOffered : XorbBlock → List ChunkRange → CacheTold → CacheTold → BlockBytes → Type 0
IsOffered x (r ∷ []) before after e =
    ((after.entries ≡ before.entries) ⊎ Grew before.entries after.entries (x.xorb_hash, r, e))
    × (after.looked ≡ before.looked) × Counted before.offers after.offers × (before.faults ≤ after.faults)
IsOffered x [] before after e = after ≡ before
IsOffered x (r ∷ s ∷ rs) before after e = after ≡ before

-- an entry with a block's data
abbrev pub entry_of : XorbBlockData → BlockBytes
entry_of d = record { offsets = map (λ (c : ℕ × ℕ). min c.1 (2 ^ 32 - 1)) d.chunk_offsets; bytes = d.bytes }

-- one call of `offer_data`
pub record OfferCall (x : XorbBlock) (d : XorbBlockData) (before after : CacheTold)
    (answer : Result (Unit {0}) OutOfMemory) : Type 0 where
  pub offered : OnOk answer (IsOffered x x.chunk_ranges before after (entry_of d))
  pub unoffered : OnErr answer (after ≡ before)
