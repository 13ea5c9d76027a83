-- Where a term's bytes come from.
use Rattle.std.specs.Prelude.{ℕ, ◌≡◌, List, Option, Some, None, option_and_then, Result, Ok, slice_get}
use Rattle.std.specs.Result.{result_map_both}
use Rattle.xet_error.specs.declared.error.FileReconstructionError.{FileReconstructionError}
use Rattle.xet_blocks.specs.declared.reconstruction_terms.file_term.DataSource.{DataSource}
use Rattle.xet_blocks.specs.declared.reconstruction_terms.file_term.DataSource.TheVariants.{Wanted, Ready}
use Rattle.xet_blocks.specs.declared.reconstruction_terms.file_term.FileTerm.{FileTerm}
use Rattle.xet_offers.specs.declared.reconstruction_terms.xorb_block.XorbBlock.{XorbBlock}
use Rattle.xet_offers.specs.declared.reconstruction_terms.xorb_block.XorbBlockData.{XorbBlockData}
use Rattle.xet_blocks.specs.Extracts.{ExtractCall, Extracted}

-- what the block of this number keeps
abbrev pub kept_of : List XorbBlock → ℕ → Option XorbBlockData
kept_of bs n = option_and_then (λ b. b.kept) (slice_get bs n)

-- the block's number where it keeps nothing, else what cutting the term from the kept data answers
abbrev pub FromKept : FileTerm → Option XorbBlockData → Result DataSource FileReconstructionError → Type 0
FromKept t None answer = answer ≡ Ok (Wanted t.xorb_block)
FromKept t (Some d) answer =
    (cut : Extracted) × ExtractCall t d cut × (answer ≡ result_map_both (λ bytes. Ready bytes) (λ e. e) cut)
