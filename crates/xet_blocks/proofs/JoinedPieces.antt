-- The pieces of an honest plan's terms join to the window.
use Rattle.std.proofs.Common.{◌≡◌, ℕ, ◌+◌, ◌-◌, ◌≤◌, ◌<◌, Bool, List, [], ◌∷◌, length, take, drop, min, sym, ◌∙◌, ap, arith, get_or}
use Rattle.std.specs.Prelude.{Some, Option, option_map, unwrap_or, All, slice_get, slice_range}
use Rattle.std.specs.List.{flat_map, position_or_len}
use Rattle.std.proofs.lemmas.List.{length-drop, length-take, drop-append-le, take_min}
use Rattle.std.proofs.lemmas.List.Elements.{All-cons, All-head, All-nil, All-tail}
use Rattle.xet_base.specs.declared.merklehash.MerkleHash.{MerkleHash}
use Rattle.xet_base.specs.declared.cas_types.FileRange.{FileRange}
use Rattle.xet_base.specs.declared.cas_types.ChunkRange.{ChunkRange}
use Rattle.xet_base.specs.Store.{Store, chunks_of}
use Rattle.xet_base.proofs.CallerLemmas.{take-append, take-nil, drop-nil}
use Rattle.xet_outside.specs.Plan.{Shape}
use Rattle.xet_outside.specs.declared.plan.PlanTerm.{PlanTerm}
use Rattle.xet_outside.specs.Plan.{plan_of, plan_terms, plan_offset, block_of}
use Rattle.xet_outside.proofs.CallerLemmas.{FirstFits, IsPlanTerm, offset_fits, plan_terms_are, planned_window, term_bytes}
use Rattle.xet_offers.specs.Blocks.{PlanBlock, block_ranges, same_block, term_block, blocks_of, start_index}
use Rattle.xet_blocks.specs.Terms.{file_term, terms_from, piece_of, term_piece}
use Rattle.xet_blocks.specs.Laws.{IsPieceSized, PiecesJoin, PiecesSized}
use Rattle.xet_blocks.proofs.TermChunks.{chunks_at, bytes_at}
use Rattle.xet_blocks.proofs.HonestBlocks.{IsBlockOf, block_listed}

-- the number of a term's block gives a block of its xorb that covers it, with the ranges that its start index counts
pub record IsListed (s : Store) (p : Shape) (multi : Bool) (t : PlanTerm) : Type 0 where
  pub block : PlanBlock
  pub at : slice_get (blocks_of p multi) (position_or_len (λ b. same_block b (term_block p multi t)) (blocks_of p multi)) ≡ Some block
  pub ranges : block_ranges (term_block p multi t) ≡ block_ranges block
  pub fits : IsBlockOf s t block

-- a term's bytes, read in its block
piece_is : (s : Store) (p : Shape) (q : FileRange) (multi : Bool) (place o : ℕ) (t : PlanTerm) → IsPlanTerm s t → IsListed s p multi t → o ≤ t.unpacked_length
    → term_piece s p multi (file_term p q multi place o t) ≡ take (q.end - place) (drop o (term_bytes s t))
piece_is s p q multi place o t is listed within =
    let b = listed.block in
    let rs = block_ranges b in
    let ft = file_term p q multi place o t in
    let size = min (place + (t.unpacked_length - o)) q.end - place in
    let xs = chunks_of s t.xorb in
    let found = chunks_at xs 0 rs t.range.start t.range.end is.some listed.fits.ascends listed.fits.covers in
    let at_block : term_piece s p multi ft ≡ piece_of (block_of s b.xorb rs) ft = ap (λ (o : Option PlanBlock). unwrap_or (option_map (λ b. piece_of (block_of s b.xorb (block_ranges b)) ft) o) []) listed.at in
    let at_xorb : piece_of (block_of s b.xorb rs) ft ≡ piece_of (block_of s t.xorb rs) ft = ap (λ (x : MerkleHash). piece_of (block_of s x rs) ft) listed.fits.xorb in
    let some : t.range.start < t.range.end = is.some in
    let length_is : t.unpacked_length ≡ length (term_bytes s t) = is.size in
    let at_index : piece_of (block_of s t.xorb rs) ft ≡ take size (drop (get_or (block_of s t.xorb rs).offsets (start_index rs t.range.start) 0 + o) (block_of s t.xorb rs).bytes) =
    ap (λ (r : List ChunkRange). take size (drop (get_or (block_of s t.xorb rs).offsets (start_index r t.range.start) 0 + o) (block_of s t.xorb rs).bytes)) listed.ranges in
    let bytes = bytes_at (flat_map (λ r. slice_range xs r.start r.end) rs) (slice_range xs t.range.start t.range.end) (start_index rs t.range.start) (t.range.end - t.range.start) o size
    (omega arith) found.1 found.0 (omega (arith, length_is)) in
    at_block ∙ at_xorb ∙ at_index ∙ bytes ∙ trim size (q.end - place) (drop o (term_bytes s t)) (omega (arith, length_is, length-drop o (term_bytes s t)))
  where
    trim : (m n : ℕ) (xs : List ℕ) → m ≡ min n (length xs) → take m xs ≡ take n xs
    trim m n xs e = ap (λ (k : ℕ). take k xs) e ∙ take_min n xs

fits_zero : (ts : List PlanTerm) → FirstFits 0 ts
fits_zero [] = tt
fits_zero (t ∷ ts) = omega arith

-- the pieces of terms from a place on
pieces_from : (s : Store) (p : Shape) (q : FileRange) (multi : Bool) (place o : ℕ) (ts : List PlanTerm) → All (IsPlanTerm s) ts → All (IsListed s p multi) ts → FirstFits o ts
    → flat_map (term_piece s p multi) (terms_from p q multi place o ts) ≡ take (q.end - place) (drop o (flat_map (term_bytes s) ts))
pieces_from s p q multi place o [] a l f = sym (ap (λ (xs : List ℕ). take (q.end - place) xs) (drop-nil o) ∙ take-nil (q.end - place))
pieces_from s p q multi place o (t ∷ ts) a l f =
    let is = All-head (IsPlanTerm s) t ts a in
    let here = piece_is s p q multi place o t is (All-head (IsListed s p multi) t ts l) f in
    let next = pieces_from s p q multi (place + (t.unpacked_length - o)) 0 ts (All-tail (IsPlanTerm s) t ts a) (All-tail (IsListed s p multi) t ts l) (fits_zero ts) in
    let length_is : t.unpacked_length ≡ length (term_bytes s t) = is.size in
    let d = drop-append-le o (term_bytes s t) (flat_map (term_bytes s) ts) (omega (arith, length_is, f)) in
    let k : q.end - (place + (t.unpacked_length - o)) ≡ (q.end - place) - length (drop o (term_bytes s t)) = omega (arith, length_is, length-drop o (term_bytes s t)) in
    let w = take-append (q.end - place) (drop o (term_bytes s t)) (flat_map (term_bytes s) ts) in
    cc

pub all_listed : (s : Store) (f : MerkleHash) (q : FileRange) (multi : Bool) → All (IsListed s (plan_of s f q) multi) (plan_terms s f q)
all_listed s f q multi = λ k d h. let b = block_listed s f q multi k d h in record { block = b.0; at = b.1; ranges = b.2; fits = b.3 }

-- each piece is as long as its term
sized_from : (s : Store) (p : Shape) (q : FileRange) (multi : Bool) (place o : ℕ) (ts : List PlanTerm) → All (IsPlanTerm s) ts → All (IsListed s p multi) ts → FirstFits o ts
    → All (IsPieceSized s p multi) (terms_from p q multi place o ts)
sized_from s p q multi place o [] a l f = All-nil (IsPieceSized s p multi)
sized_from s p q multi place o (t ∷ ts) a l f =
    let is = All-head (IsPlanTerm s) t ts a in
    let length_is : t.unpacked_length ≡ length (term_bytes s t) = is.size in
    let here = ap (λ (xs : List ℕ). length xs) (piece_is s p q multi place o t is (All-head (IsListed s p multi) t ts l) f) in
    let size : length (term_piece s p multi (file_term p q multi place o t)) ≡ min (place + (t.unpacked_length - o)) q.end - place =
    omega (arith, here, length_is, length-take (q.end - place) (drop o (term_bytes s t)), length-drop o (term_bytes s t)) in
    All-cons (IsPieceSized s p multi) (file_term p q multi place o t) (terms_from p q multi (place + (t.unpacked_length - o)) 0 ts) size
    (sized_from s p q multi (place + (t.unpacked_length - o)) 0 ts (All-tail (IsPlanTerm s) t ts a) (All-tail (IsListed s p multi) t ts l) (fits_zero ts))

pub pieces_join : PiecesJoin
pieces_join s v f q multi =
    pieces_from s (plan_of s f q) q multi q.start (plan_offset s f q) (plan_terms s f q) (plan_terms_are s f q)
    (all_listed s f q multi)
    (offset_fits s v f q)
    ∙ planned_window s v f q

pub pieces_sized : PiecesSized
pieces_sized s v f q multi =
    sized_from s (plan_of s f q) q multi q.start (plan_offset s f q) (plan_terms s f q) (plan_terms_are s f q)
    (all_listed s f q multi)
    (offset_fits s v f q)
