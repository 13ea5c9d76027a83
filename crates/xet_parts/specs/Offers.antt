-- What offering a block does to a cache.
use Rattle.std.specs.Prelude.{◌≡◌, Option, Some, None, Result, OnOk, OnErr, IfErr}
use Rattle.xet_outside.specs.Told.{CacheTold}
use Rattle.xet_error.specs.declared.error.FileReconstructionError.{FileReconstructionError}
use Rattle.xet_error.specs.declared.error.FileReconstructionError.TheVariants as error
use Rattle.xet_offers.specs.declared.reconstruction_terms.xorb_block.XorbBlock.{XorbBlock}
use Rattle.xet_offers.specs.declared.reconstruction_terms.xorb_block.XorbBlockData.{XorbBlockData}
use Rattle.xet_fetch.specs.CachedBlocks.{IsOffered, entry_of}

-- what a block keeps was offered once; where it keeps nothing, nothing was
abbrev pub OffersKept : XorbBlock → Option XorbBlockData → CacheTold → CacheTold → Type 0
OffersKept x None before after = after ≡ before
OffersKept x (Some d) before after = IsOffered x x.chunk_ranges before after (entry_of d)

-- one call of `offer_block`
pub record OfferBlockCall (x : XorbBlock) (before after : CacheTold)
    (answer : Result (Unit {0}) FileReconstructionError) : Type 0 where
  pub offered : OnOk answer (OffersKept x x.kept before after)
  pub unoffered : OnErr answer (after ≡ before)
  pub memory : IfErr answer (λ e. e ≡ error.OutOfMemory)
