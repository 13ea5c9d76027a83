-- What a run may add to a cache: entries of blocks that were served in this call.
use Rattle.std.specs.Prelude.{ℕ, ◌≡◌, ◌≤◌, ◌+◌, ◌-◌, ◌^◌, min, Bool, List, [], ◌∷◌, All, IfSome, Option, None, Some}
use Rattle.std.specs.Prelude.{count_by, length, nat_eq}
use Rattle.xet_base.specs.declared.cas_types.ChunkRange.{ChunkRange}
use Rattle.xet_outside.specs.declared.served.Served.{Served}
use Rattle.xet_outside.specs.Told.{Added, CacheEntry, CacheTold}
use Rattle.xet_offers.specs.declared.reconstruction_terms.xorb_block.XorbBlock.{XorbBlock}
use Rattle.xet_offers.specs.declared.reconstruction_terms.xorb_block.XorbBlockData.{XorbBlockData}
use Rattle.xet_fetch.specs.CachedBlocks.{entry_of}
use Rattle.xet_ties.specs.InCall.{Exchange, Look, SomeOne, served_of_all}
use Rattle.xet_ties.specs.Saids.{BlockOfPlan, IsServedData}
use Rattle.xet_ties.specs.Setup.{Setup}

-- a number that was told has grown by so much, or stands at its last value, and by no more
abbrev pub GrewBy : Option ℕ → Option ℕ → ℕ → Type 0
GrewBy None after more = Unit {0}
GrewBy (Some k) None more = ⊥
GrewBy (Some k) (Some n) more = (min (k + more) (2 ^ 64 - 1) ≤ n) × (n ≤ k + more)

-- the entry is of a block of one range of an accepted plan; its data is made of bytes that some connection said in
-- answer to the block's own request, and that pass the block's tests
pub record IsServedEntry (g : Setup) (xs : List Exchange) (e : CacheEntry) : Type 0 where
  pub place : BlockOfPlan g xs
  pub range : ChunkRange
  pub one : place.block.chunk_ranges ≡ range ∷ []
  pub data_of : XorbBlockData
  pub served : SomeOne (λ x. IsServedData x place.accepted.said.number place.number place.block data_of) xs
  pub is : e ≡ (place.block.xorb_hash, range, entry_of data_of)

-- the entries that a cache tells afterwards are those before and then such ones: none was lost or changed
pub record GainedServed (g : Setup) (xs : List Exchange) (before after : CacheTold) : Type 0 where
  pub gained : List CacheEntry
  pub added : Added before.entries after.entries gained
  pub served : All (IsServedEntry g xs) gained

-- each entry that a look gave is such a one
abbrev pub GaveServed : Setup → List Exchange → List Look → Type 0
GaveServed g xs looks = All (λ l. IfSome l.2 (λ e. IsServedEntry g xs (l.0, l.1, e))) looks

-- the block of this entry has one range
abbrev pub one_range : Served → Bool
one_range e = nat_eq (length e.ranges) 1

-- so many entries were offered, as many at most as blocks of one range were served
pub record OffersFew (xs : List Exchange) (before after : CacheTold) : Type 0 where
  pub puts : ℕ
  pub offers : GrewBy before.offers after.offers puts
  pub few : puts ≤ count_by one_range (served_of_all xs)

-- the block's data may be offered as an entry of this range
abbrev pub IsOfferOf : Setup → List Exchange → XorbBlock → ChunkRange → XorbBlockData → Type 0
IsOfferOf g xs x r d = IsServedEntry g xs (x.xorb_hash, r, entry_of d)

-- what a block of one range keeps may be offered
abbrev pub MayOffer : Setup → List Exchange → XorbBlock → Type 0
MayOffer g xs x = IfSome x.kept (λ d. (r : ChunkRange) → x.chunk_ranges ≡ r ∷ [] → IsOfferOf g xs x r d)
