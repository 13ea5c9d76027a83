-- An honest block passes its tests, and so does each term of an honest plan in its block.
use Rattle.std.proofs.Common.{◌≡◌, ℕ, suc, ◌+◌, ◌-◌, ◌^◌, ◌≤◌, ◌<◌, Bool, true, false, cond, List, [], ◌∷◌, ◌++◌, length, take, drop, min, refl, sym, ◌∙◌, ap, arith, map, get_or, subst, zip}
use Rattle.std.specs.Prelude.{Some, None, Option, find, option_map, unwrap_or, All, IsSome, sum, slice_get, slice_range}
use Rattle.std.specs.List.{concat, flat_map, range_with_len}
use Rattle.std.proofs.lemmas.Bool.{lt-leb, le-ltb, eq-eqb}
use Rattle.std.proofs.lemmas.List.{length-append, length-drop, length-map, length-take, take-append-drop}
use Rattle.std.proofs.lemmas.List.Elements.{All-head, All-tail, All-nil, All-cons, All-append, All-take, All-drop, All-weaker}
use Rattle.std.proofs.lemmas.List.Folds.{concat-append}
use Rattle.std.proofs.lemmas.List.FromFn.{length-range_with_len}
use Rattle.std.proofs.lemmas.Option.{slice_get-get_or}
use Rattle.std.proofs.lemmas.Slice.Zip.{get_or-zip, length-zip}
use Rattle.std.proofs.lemmas.List.Sums.{sum_by-cons}
use Rattle.xet_base.specs.declared.merklehash.MerkleHash.{MerkleHash}
use Rattle.xet_base.specs.declared.cas_types.ChunkRange.{ChunkRange}
use Rattle.xet_base.specs.declared.cas_types.FileRange.{FileRange}
use Rattle.xet_base.specs.declared.mdb_shard.Xorb.{Xorb}
use Rattle.xet_base.specs.Hashes.{hash_eq}
use Rattle.xet_base.specs.Lists.{placed, starts}
use Rattle.xet_base.specs.Ranges.{Ascend, Covers}
use Rattle.xet_base.specs.Store.{Store, IsValid, IsValidXorb, chunks_of, xorb_of}
use Rattle.xet_base.proofs.CallerLemmas.{length-slice_range}
use Rattle.xet_outside.specs.declared.block.BlockBytes.{BlockBytes}
use Rattle.xet_outside.specs.declared.plan.PlanTerm.{PlanTerm}
use Rattle.xet_outside.specs.Plan.{Shape, lengths, chunks_in, block_of, plan_of, plan_offset, plan_terms}
use Rattle.xet_outside.specs.Told.{Holds}
use Rattle.xet_outside.proofs.CallerLemmas.{FirstFits, Full, IsPlanTerm, full_chunks_of, offset_fits, plan_terms_are}
use Rattle.xet_error.specs.declared.error.Corruption.TheVariants.{TermPastBlock}
use Rattle.xet_blocks.specs.declared.reconstruction_terms.file_term.FileTerm.{FileTerm}
use Rattle.xet_offers.specs.Blocks.{PlanBlock, block_ranges, blocks_of, start_index}
use Rattle.xet_offers.specs.BlockChecks.{block_data, chunk_total, failed_block_test, is_misplaced, misplaced_after, numbers_in}
use Rattle.xet_blocks.specs.Extracts.{failed_term_test, term_bytes_in, term_size, test_at}
use Rattle.xet_blocks.specs.Terms.{file_term, piece_of, terms_from, terms_of}
use Rattle.xet_blocks.proofs.JoinedPieces.{IsListed, all_listed}
use Rattle.xet_blocks.proofs.TermChunks.{chunks_at, start_at}

-- the block of these ranges of a list of chunks
abbrev block_of_chunks : List (List ℕ) → List ChunkRange → BlockBytes
block_of_chunks xs rs = record { offsets = starts (lengths (flat_map (λ r. slice_range xs r.start r.end) rs)); bytes = concat (flat_map (λ r. slice_range xs r.start r.end) rs) }

-- ---- how many chunks

-- the chunks of ranges that ascend within a list: as many as their numbers, and no more than lie from the first place on
pub record IsCounted (xs : List (List ℕ)) (low : ℕ) (rs : List ChunkRange) : Type 0 where
  pub chunks : length (flat_map (λ r. slice_range xs r.start r.end) rs) ≡ sum (map (λ r. r.end - r.start) rs)
  pub numbers : length (numbers_in rs) ≡ sum (map (λ r. r.end - r.start) rs)
  pub within : sum (map (λ r. r.end - r.start) rs) ≤ length xs - low

pub counted : (xs : List (List ℕ)) (low : ℕ) (rs : List ChunkRange) → Ascend low (length xs) rs → IsCounted xs low rs
counted xs low [] a = record { chunks = refl; numbers = refl; within = omega arith }
counted xs low (r ∷ rs) a =
    let l : low ≤ r.start = a.0 in let w : r.start < r.end = a.1 in let h : r.end ≤ length xs = a.2 in
    let next = counted xs r.end rs a.3 in
    let n1 = next.chunks in let n2 = next.numbers in let n3 = next.within in
    let here = length-slice_range xs r.start r.end in
    let e = sum_by-cons (λ x. x) (r.end - r.start) (map (λ r. r.end - r.start) rs) in
    let f = length-append (slice_range xs r.start r.end) (flat_map (λ r. slice_range xs r.start r.end) rs) in
    let g = length-append (range_with_len r.start (r.end - r.start)) (numbers_in rs) in
    let k = length-range_with_len r.start (r.end - r.start) in
    record { chunks = omega arith; numbers = omega arith; within = omega arith }

pub length-placed : (p : ℕ) (ns : List ℕ) → length (placed p ns) ≡ length ns
length-placed p [] = refl
length-placed p (n ∷ ns) = ap suc (length-placed (p + n) ns)

pub length-starts : (cs : List (List ℕ)) → length (starts (lengths cs)) ≡ length cs
length-starts cs = length-map (placed 0 (lengths cs)) (λ (c : ℕ × ℕ). c.0) ∙ length-placed 0 (lengths cs) ∙ length-map cs (λ c. length c)

-- a stored xorb has few chunks
pub few_chunks : (s : Store) → IsValid s → (h : MerkleHash) → length (chunks_of s h) < 2 ^ 32
few_chunks s v h = among s.xorbs v.xorbs
  where
    among : (xs : List Xorb) → All IsValidXorb xs → length (unwrap_or (option_map (λ (x : Xorb). x.chunks) (find (λ (x : Xorb). hash_eq x.hash h) xs)) []) < 2 ^ 32
    among [] a = omega arith
    among (x ∷ xs) a = pick (hash_eq x.hash h) (All-head IsValidXorb x xs a).chunk_count (among xs (All-tail IsValidXorb x xs a))
      where
        pick : (b : Bool) → length x.chunks < 2 ^ 32 → length (unwrap_or (option_map (λ (x : Xorb). x.chunks) (find (λ (x : Xorb). hash_eq x.hash h) xs)) []) < 2 ^ 32
            → length (unwrap_or (option_map (λ (x : Xorb). x.chunks) (cond b (Some x) (find (λ (x : Xorb). hash_eq x.hash h) xs))) []) < 2 ^ 32
        pick true f g = f
        pick false f g = g

-- ---- where they begin

-- an offset stands before a place, or the place is the first
abbrev Follows : Option ℕ → ℕ → Type 0
Follows None p = p ≡ 0
Follows (Some b) p = b < p

well_placed : (size : ℕ) (before : Option ℕ) (p : ℕ) → Follows before p → p < size → is_misplaced size before p ≡ false
well_placed size None p f h = rw (eq-eqb p 0 f, lt-leb size p h)
well_placed size (Some b) p f h = rw (lt-leb p b f, lt-leb size p h)

-- chunks that each have a byte stand one after another
in_order : (size : ℕ) (before : Option ℕ) (p : ℕ) (cs : List (List ℕ)) → Full cs → Follows before p → p + length (concat cs) ≤ size
    → misplaced_after size before (map (λ (c : ℕ × ℕ). c.0) (placed p (lengths cs))) ≡ None
in_order size before p [] f b h = refl
in_order size before p (c ∷ cs) f b h =
    let some : 0 < length c = All-head (λ c. 0 < length c) c cs f in
    let l = length-append c (concat cs) in
    let here = well_placed size before p b (omega arith) in
    let next = in_order size (Some p) (p + length c) cs (All-tail (λ c. 0 < length c) c cs f) (omega arith) (omega arith) in
    rw (here, next)

full_in : (xs : List (List ℕ)) (rs : List ChunkRange) → Full xs → Full (flat_map (λ r. slice_range xs r.start r.end) rs)
full_in xs [] f = All-nil (λ c. 0 < length c)
full_in xs (r ∷ rs) f =
    All-append (λ c. 0 < length c) _ _
    (All-take (λ c. 0 < length c) (r.end - r.start) (drop r.start xs) (All-drop (λ c. 0 < length c) r.start xs f))
    (full_in xs rs f)

-- the block of a xorb and ranges that ascend within it passes its tests
pub honest_block_passes : (s : Store) → IsValid s → (x : MerkleHash) (rs : List ChunkRange) → Ascend 0 (length (chunks_of s x)) rs → failed_block_test rs None (block_of s x rs) ≡ None
honest_block_passes s v x rs a =
    let cs = chunks_in s x rs in
    let n = counted (chunks_of s x) 0 rs a in
    let n1 = n.chunks in let n2 = n.within in
    let few = few_chunks s v x in
    let l = length-starts cs in
    let count : chunk_total rs ≡ length (starts (lengths cs)) = omega arith in
    let order = in_order (length (concat cs)) None 0 cs (full_in (chunks_of s x) rs (full_chunks_of s v x)) refl (omega arith) in
    rw (eq-eqb (chunk_total rs) (length (starts (lengths cs))) count, order)

-- some bytes of some chunks of a list end within the joined list
ends_at : (cs ts : List (List ℕ)) (i m n : ℕ) → 0 < m → i + m ≤ length cs → take m (drop i cs) ≡ ts → n ≤ length (concat ts)
    → get_or (starts (lengths cs)) i 0 + n ≤ length (concat cs)
ends_at cs ts i m n pos fits e within =
    let at : get_or (starts (lengths cs)) i 0 ≡ 0 + length (concat (take i cs)) = start_at 0 cs i (omega arith) in
    let all : concat cs ≡ concat (take i cs) ++ concat (drop i cs) = ap concat (sym (take-append-drop i cs)) ∙ concat-append (take i cs) (drop i cs) in
    let rest : concat (drop i cs) ≡ concat (take m (drop i cs)) ++ concat (drop m (drop i cs)) =
    ap concat (sym (take-append-drop m (drop i cs))) ∙ concat-append (take m (drop i cs)) (drop m (drop i cs)) in
    omega (
      arith,
      at,
      ap length all,
      length-append (concat (take i cs)) (concat (drop i cs)),
      ap length rest,
      length-append (concat (take m (drop i cs))) (concat (drop m (drop i cs))),
      ap (λ (l : List (List ℕ)). length (concat l)) e,
    )

-- ---- terms in their blocks

-- what is read of a term in a block of these chunks
record IsReadOf (xs : List (List ℕ)) (rs : List ChunkRange) (t : FileTerm) : Type 0 where
  passes : failed_term_test t (block_data rs (block_of_chunks xs rs)) ≡ None
  piece : term_bytes_in t (block_data rs (block_of_chunks xs rs)) ≡ piece_of (block_of_chunks xs rs) t
  size : length (piece_of (block_of_chunks xs rs) t) ≡ term_size t

read_in_block : (xs : List (List ℕ)) (rs : List ChunkRange) (u v : ℕ) (t : FileTerm) → u < v → Ascend 0 (length xs) rs → Covers u v rs → t.xorb_block_start_index ≡ start_index rs u
    → t.offset_into_first_range + term_size t ≤ length (concat (slice_range xs u v)) → IsReadOf xs rs t
read_in_block xs rs u v t w a c i within =
    let cs = flat_map (λ r. slice_range xs r.start r.end) rs in
    let offsets = starts (lengths cs) in
    let k = t.xorb_block_start_index in
    let found = chunks_at xs 0 rs u v w a c in
    let n = counted xs 0 rs a in
    let n1 = n.chunks in let n2 = n.numbers in
    let l = length-starts cs in
    let bound = found.1 in
    let z = length-zip (numbers_in rs) offsets in
    let at : slice_get (zip (numbers_in rs) offsets) k ≡ Some (get_or (numbers_in rs) k 0, get_or offsets k 0) =
    slice_get-get_or (zip (numbers_in rs) offsets) k (0, 0) (omega arith)
    ∙ ap (λ (c : ℕ × ℕ). Some c) (get_or-zip (numbers_in rs) offsets k (0, 0) (omega arith) (omega arith)) in
    let ends = ends_at cs (slice_range xs u v) k (v - u) (t.offset_into_first_range + term_size t) (omega arith) (omega arith) (ap (λ (i : ℕ). take (v - u) (drop i cs)) i ∙ found.0) within in
    let place = get_or offsets k 0 in
    record {
      passes = ap (test_at t (block_data rs (block_of_chunks xs rs))) at ∙ ap (λ b. cond b (Some (TermPastBlock (min (place + t.offset_into_first_range + term_size t) (2 ^ 64 - 1)) (length (concat cs)))) None)
          (le-ltb (length (concat cs)) (place + t.offset_into_first_range + term_size t) (omega arith));
      piece = ap (λ (o : Option (ℕ × ℕ)). take (term_size t) (drop (unwrap_or (option_map (λ (c : ℕ × ℕ). c.1) o) 0 + t.offset_into_first_range) (concat cs))) at;
      size = omega (arith, length-take (term_size t) (drop (place + t.offset_into_first_range) (concat cs)), length-drop (place + t.offset_into_first_range) (concat cs));
    }

-- a term of a plan at a place of the file, with its block
record IsPlanned (s : Store) (p : Shape) (q : FileRange) (multi : Bool) (t : FileTerm) : Type 0 where
  place : ℕ
  offset : ℕ
  term : PlanTerm
  is : t ≡ file_term p q multi place offset term
  planned : IsPlanTerm s term
  listed : IsListed s p multi term
  fits : offset ≤ term.unpacked_length

planned_from : (s : Store) (p : Shape) (q : FileRange) (multi : Bool) (place o : ℕ) (ts : List PlanTerm) → All (IsPlanTerm s) ts → All (IsListed s p multi) ts → FirstFits o ts
    → All (IsPlanned s p q multi) (terms_from p q multi place o ts)
planned_from s p q multi place o [] a l f = All-nil (IsPlanned s p q multi)
planned_from s p q multi place o (t ∷ ts) a l f =
    All-cons (IsPlanned s p q multi) (file_term p q multi place o t) (terms_from p q multi (place + (t.unpacked_length - o)) 0 ts)
    (record {
      place = place;
      offset = o;
      term = t;
      is = refl;
      planned = All-head (IsPlanTerm s) t ts a;
      listed = All-head (IsListed s p multi) t ts l;
      fits = f;
    })
    (planned_from s p q multi (place + (t.unpacked_length - o)) 0 ts (All-tail (IsPlanTerm s) t ts a) (All-tail (IsListed s p multi) t ts l) (fits_zero ts))
  where
    fits_zero : (ts : List PlanTerm) → FirstFits 0 ts
    fits_zero [] = tt
    fits_zero (t ∷ ts) = omega arith

-- a term's block is listed and stored, and the term is read in it
pub record IsHonestTerm (s : Store) (p : Shape) (multi : Bool) (t : FileTerm) : Type 0 where
  pub block : PlanBlock
  pub listed : slice_get (blocks_of p multi) t.xorb_block ≡ Some block
  pub holds : Holds s block.xorb (block_ranges block)
  pub passes : failed_term_test t (block_data (block_ranges block) (block_of s block.xorb (block_ranges block))) ≡ None
  pub piece : term_bytes_in t (block_data (block_ranges block) (block_of s block.xorb (block_ranges block))) ≡ piece_of (block_of s block.xorb (block_ranges block)) t
  pub size : length (piece_of (block_of s block.xorb (block_ranges block)) t) ≡ term_size t

-- a xorb that has a chunk is stored
stored : (s : Store) (x : MerkleHash) → 0 < length (chunks_of s x) → IsSome (xorb_of s x)
stored s x h = go (xorb_of s x) h
  where
    go : (o : Option Xorb) → 0 < length (unwrap_or (option_map (λ (x : Xorb). x.chunks) o) []) → IsSome o
    go (Some x) h = refl
    go None h = absurd (omega arith)

planned_is_honest : (s : Store) (p : Shape) (q : FileRange) (multi : Bool) (t : FileTerm) → IsPlanned s p q multi t → IsHonestTerm s p multi t
planned_is_honest s p q multi t is =
    subst (λ (t : FileTerm). IsHonestTerm s p multi t) (sym is.is) (of_planned is.place is.offset is.term is.planned is.listed is.fits)
  where
    of_planned : (place o : ℕ) (t : PlanTerm) → IsPlanTerm s t → IsListed s p multi t → o ≤ t.unpacked_length → IsHonestTerm s p multi (file_term p q multi place o t)
    of_planned place o t is listed fits =
        let b = listed.block in
        let rs = block_ranges b in
        let xs = chunks_of s b.xorb in
        let same : chunks_of s t.xorb ≡ xs = ap (chunks_of s) (sym listed.fits.xorb) in
        let some : t.range.start < t.range.end = is.some in
        let inside : t.range.end ≤ length (chunks_of s t.xorb) = is.inside in
        let size : t.unpacked_length ≡ length (concat (slice_range xs t.range.start t.range.end)) =
        is.size ∙ ap (λ (cs : List (List ℕ)). length (concat (slice_range cs t.range.start t.range.end))) same in
        let ascends : Ascend 0 (length xs) rs = subst (λ (cs : List (List ℕ)). Ascend 0 (length cs) rs) same listed.fits.ascends in
        let read = read_in_block xs rs t.range.start t.range.end (file_term p q multi place o t) some ascends listed.fits.covers
        (ap (λ (r : List ChunkRange). start_index r t.range.start) listed.ranges) (omega arith) in
        record {
          block = b;
          listed = listed.at;
          holds = (stored s b.xorb (omega (arith, ap length same)), ascends);
          passes = read.passes;
          piece = read.piece;
          size = read.size;
        }

-- each term of an honest plan
pub honest_terms : (s : Store) → IsValid s → (f : MerkleHash) (q : FileRange) (multi : Bool) → All (IsHonestTerm s (plan_of s f q) multi) (terms_of (plan_of s f q) q multi)
honest_terms s v f q multi =
    All-weaker (IsPlanned s (plan_of s f q) q multi) (IsHonestTerm s (plan_of s f q) multi) (λ t is. planned_is_honest s (plan_of s f q) q multi t is) (terms_of (plan_of s f q) q multi)
    (planned_from s (plan_of s f q) q multi q.start (plan_offset s f q) (plan_terms s f q) (plan_terms_are s f q) (all_listed s f q multi) (offset_fits s v f q))

-- each term of an honest plan, whole and at the file's start
pub whole_terms : (s : Store) (f : MerkleHash) (q : FileRange) (multi : Bool) (k : ℕ) (d : PlanTerm) → k < length (plan_terms s f q)
    → IsHonestTerm s (plan_of s f q) multi (file_term (plan_of s f q) (record { start = 0; end = (get_or (plan_terms s f q) k d).unpacked_length }) multi 0 0 (get_or (plan_terms s f q) k d))
whole_terms s f q multi k d h =
    let t = get_or (plan_terms s f q) k d in
    let whole : FileRange = record { start = 0; end = t.unpacked_length } in
    planned_is_honest s (plan_of s f q) whole multi (file_term (plan_of s f q) whole multi 0 0 t)
    (record { place = 0; offset = 0; term = t; is = refl; planned = plan_terms_are s f q k d h; listed = all_listed s f q multi k d h; fits = omega arith })
