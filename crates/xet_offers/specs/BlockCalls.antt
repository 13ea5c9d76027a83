-- What the calls of a block say.
use Rattle.std.specs.Prelude.{◌≡◌, None, IfOk, IfErr, MatchOption, Option, Result, slice_get}
use Rattle.xet_outside.specs.declared.block.BlockBytes.{BlockBytes}
use Rattle.xet_outside.specs.declared.block.BlockRequest.{BlockRequest}
use Rattle.xet_error.specs.declared.error.Corruption.{Corruption}
use Rattle.xet_error.specs.declared.error.FileReconstructionError.{FileReconstructionError}
use Rattle.xet_error.specs.declared.error.FileReconstructionError.TheVariants as error
use Rattle.xet_offers.specs.declared.reconstruction_terms.retrieval_urls.TermBlockRetrievalURLs.{TermBlockRetrievalURLs}
use Rattle.xet_offers.specs.declared.reconstruction_terms.xorb_block.XorbBlock.{XorbBlock}
use Rattle.xet_offers.specs.declared.reconstruction_terms.xorb_block.XorbBlockData.{XorbBlockData}
use Rattle.xet_offers.specs.Refusals.{IsRefusal}
use Rattle.xet_offers.specs.BlockChecks.{block_data, failed_block_test}

-- what `request` and `check` answer
abbrev pub Requested : Type 0
Requested = Result (Option BlockRequest) FileReconstructionError

abbrev pub Checked : Type 0
Checked = Result XorbBlockData FileReconstructionError

-- the request of a block by the table's URL
abbrev pub IsRequestOf : XorbBlock → TermBlockRetrievalURLs → BlockRequest → Type 0
IsRequestOf b t r =
    MatchOption (slice_get t.retrieval_urls b.xorb_block_index) ⊥
    (λ u. r ≡ record {
      acquisition = t.acquisition_id;
      index = b.xorb_block_index;
      url = u.url;
      xorb = b.xorb_hash;
      chunks = b.chunk_ranges;
      bytes = u.ranges;
    })

-- the table has no URL for the block
abbrev pub IsBeyond : XorbBlock → TermBlockRetrievalURLs → Type 0
IsBeyond b t = slice_get t.retrieval_urls b.xorb_block_index ≡ None

-- one call of `request`
pub record RequestCall (b : XorbBlock) (t : TermBlockRetrievalURLs) (answer : Requested) : Type 0 where
  pub request : IfOk answer (λ o. MatchOption o (IsBeyond b t) (IsRequestOf b t))
  pub error : IfErr answer (λ e. e ≡ error.OutOfMemory)

-- the test that these bytes fail first as those of the block
abbrev pub failed_check : XorbBlock → BlockBytes → Option Corruption
failed_check x b = failed_block_test x.chunk_ranges x.uncompressed_size_if_known b

-- one call of `check`
pub record CheckCall (x : XorbBlock) (b : BlockBytes) (answer : Checked) : Type 0 where
  pub passed : IfOk answer (λ d. (failed_check x b ≡ None) × (d ≡ block_data x.chunk_ranges b))
  pub refused : IfErr answer (IsRefusal (failed_check x b))
