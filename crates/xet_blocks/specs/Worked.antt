-- Worked plans, terms and blocks.
use Rattle.std.specs.Prelude.{ℕ, ◌+◌, ◌*◌, List, [], ◌∷◌, Some, None}
use Rattle.xet_base.specs.Worked.{x1}
use Rattle.xet_outside.specs.Plan.{Shape}
use Rattle.xet_outside.specs.declared.plan.PlanTerm.{PlanTerm}
use Rattle.xet_outside.specs.declared.plan.FetchRange.{FetchRange}
use Rattle.xet_outside.specs.Worked.{chunk_range, plan_term}
use Rattle.xet_blocks.specs.declared.reconstruction_terms.file_term.FileTerm.{FileTerm}
use Rattle.xet_offers.specs.declared.reconstruction_terms.xorb_block.XorbReference.{XorbReference}
use Rattle.xet_offers.specs.declared.reconstruction_terms.xorb_block.XorbBlock.{XorbBlock}

-- a term: its bytes, its chunks, its start index, its offset and its block
abbrev pub file_term : ℕ → ℕ → ℕ → ℕ → ℕ → ℕ → ℕ → FileTerm
file_term a b c d start offset block = record {
  byte_range = record { start = a; end = b };
  xorb_chunk_range = chunk_range c d;
  xorb_block_start_index = start;
  offset_into_first_range = offset;
  xorb_block = block;
}

-- chunks of a hundred bytes each
abbrev pub fetch : ℕ → ℕ → FetchRange
fetch a b = record { chunks = chunk_range a b; bytes = record { start = 100 * a; end = 100 * b } }

-- a plan whose xorb has two entries from chunk 0 on
abbrev pub two_entries_of_one_xorb : Shape
two_entries_of_one_xorb = record {
  offset = 0;
  terms = plan_term x1 300 0 3 ∷ plan_term x1 400 1 5 ∷ [];
  xorbs = record {
    xorb = x1;
    entries = (fetch 0 3 ∷ []) ∷ (fetch 0 5 ∷ []) ∷ [];
  } ∷ [];
}

-- terms of these lengths, one chunk each, and a plan of them
abbrev pub terms_of_lengths : ℕ → List ℕ → List PlanTerm
terms_of_lengths k [] = []
terms_of_lengths k (n ∷ ns) = plan_term x1 n k (k + 1) ∷ terms_of_lengths (k + 1) ns

abbrev pub plan_of_lengths : ℕ → List ℕ → Shape
plan_of_lengths o ns = record {
  offset = o;
  terms = terms_of_lengths 0 ns;
  xorbs = record { xorb = x1; entries = (fetch 0 9 ∷ []) ∷ [] } ∷ [];
}

abbrev pub reference : ℕ → ℕ → ℕ → XorbReference
reference a b n = record { term_chunks = chunk_range a b; uncompressed_size = n }

-- the blocks of the nine bytes 4 to 13 of the file of repeats
abbrev pub blocks_of_nine_bytes : List XorbBlock
blocks_of_nine_bytes =
    record {
      xorb_hash = x1;
      chunk_ranges = chunk_range 2 4 ∷ [];
      xorb_block_index = 0;
      references = reference 2 4 6 ∷ [];
      uncompressed_size_if_known = Some 6;
      kept = None;
    }
    ∷ record {
      xorb_hash = x1;
      chunk_ranges = chunk_range 0 1 ∷ [];
      xorb_block_index = 1;
      references = reference 0 1 5 ∷ reference 0 1 5 ∷ [];
      uncompressed_size_if_known = Some 5;
      kept = None;
    }
    ∷ []
