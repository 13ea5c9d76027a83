-- Where a term's bytes stand in its block.
use Rattle.std.specs.Prelude.{ℕ, ◌≡◌, ◌≤◌, length, None, slice_range}
use Rattle.std.specs.declared.ops.Range.{Range}
use Rattle.xet_blocks.specs.declared.reconstruction_terms.file_term.FileTerm.{FileTerm}
use Rattle.xet_offers.specs.declared.reconstruction_terms.xorb_block.XorbBlockData.{XorbBlockData}
use Rattle.xet_blocks.specs.Extracts.{failed_term_test, term_bytes_in}

-- a term passes its test in a block, and its bytes are those at this place
pub record IsPlaceOf (t : FileTerm) (d : XorbBlockData) (place : Range ℕ) : Type 0 where
  pub passes : failed_term_test t d ≡ None
  pub ascends : place.start ≤ place.end
  pub within : place.end ≤ length d.bytes
  pub bytes : slice_range d.bytes place.start place.end ≡ term_bytes_in t d
