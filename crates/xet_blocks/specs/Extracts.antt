-- A term's bytes in its block's data.
use Rattle.std.specs.Prelude.{ℕ, ◌≡◌, ◌+◌, ◌-◌, ◌^◌, List, cond, length, min, nat_lt, take, drop}
use Rattle.std.specs.Prelude.{Option, Some, None, option_map, unwrap_or, IfOk, IfErr, Result, slice_get}
use Rattle.xet_error.specs.declared.error.Corruption.{Corruption}
use Rattle.xet_error.specs.declared.error.Corruption.TheVariants.{OffsetCount, TermPastBlock}
use Rattle.xet_error.specs.declared.error.FileReconstructionError.{FileReconstructionError}
use Rattle.xet_blocks.specs.declared.reconstruction_terms.file_term.FileTerm.{FileTerm}
use Rattle.xet_offers.specs.declared.reconstruction_terms.xorb_block.XorbBlockData.{XorbBlockData}
use Rattle.xet_offers.specs.Refusals.{IsRefusal}

-- where a term begins whose first chunk stands at a place, and how many bytes it has
abbrev pub begin_at : FileTerm → ℕ → ℕ
begin_at t place = place + t.offset_into_first_range

abbrev pub term_size : FileTerm → ℕ
term_size t = t.byte_range.end - t.byte_range.start

-- the test of a term whose first chunk stands at a place
abbrev pub end_test : FileTerm → XorbBlockData → ℕ → Option Corruption
end_test t d place =
    let end = begin_at t place + term_size t in
    cond (nat_lt (length d.bytes) end) (Some (TermPastBlock (min end (2 ^ 64 - 1)) (length d.bytes))) None

-- the test of a term whose first chunk is this one of the block, or none
abbrev pub test_at : FileTerm → XorbBlockData → Option (ℕ × ℕ) → Option Corruption
test_at t d None = Some (OffsetCount (min (t.xorb_block_start_index + 1) (2 ^ 64 - 1)) (length d.chunk_offsets))
test_at t d (Some c) = end_test t d c.1

-- the test that a term fails in a block
abbrev pub failed_term_test : FileTerm → XorbBlockData → Option Corruption
failed_term_test t d = test_at t d (slice_get d.chunk_offsets t.xorb_block_start_index)

-- the bytes of a term in a block that has its first chunk
abbrev pub term_bytes_in : FileTerm → XorbBlockData → List ℕ
term_bytes_in t d =
    let place = unwrap_or (option_map (λ (c : ℕ × ℕ). c.1) (slice_get d.chunk_offsets t.xorb_block_start_index)) 0 in
    take (term_size t) (drop (begin_at t place) d.bytes)

-- what the call answers: bytes
abbrev pub Extracted : Type 0
Extracted = Result (List ℕ) FileReconstructionError

-- one call of `extract_bytes`
pub record ExtractCall (t : FileTerm) (d : XorbBlockData) (answer : Extracted) : Type 0 where
  pub bytes : IfOk answer (λ bytes. (failed_term_test t d ≡ None) × (bytes ≡ term_bytes_in t d))
  pub refused : IfErr answer (IsRefusal (failed_term_test t d))
