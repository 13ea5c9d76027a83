-- Over a store the plan of a query is the plan of the bytes that its terms cover.
use Rattle.std.proofs.Common.{◌≡◌, ℕ, suc, ◌+◌, ◌-◌, ◌≤◌, ◌<◌, Bool, true, false, cond, List, [], ◌∷◌, length, min, max, refl, sym, ◌∙◌, ap, arith, get_or, map, subst, Some, None, Option}
use Rattle.std.specs.Prelude.{All, IsNone, IsSome, count_by, filter, find, sum, nat_eq, nat_lt, nat_le, option_map, unwrap_or}
use Rattle.std.specs.List.{concat, enumerate_from, flat_map}
use lib.Pointwise.{pointwise}
use Rattle.std.proofs.lemmas.Bool.{and_from, eq-eqb, le-ltb, lt-ltb, ltb-false, ltb-true}
use Rattle.std.proofs.lemmas.List.{length-append}
use Rattle.std.proofs.lemmas.List.Elements.{All-cons, All-head, All-nil, All-tail}
use Rattle.std.proofs.lemmas.List.Folds.{concat-append}
use Rattle.std.proofs.lemmas.List.Sums.{sum_by-cons}
use Rattle.xet_base.specs.declared.cas_types.ChunkRange.{ChunkRange}
use Rattle.xet_base.specs.declared.cas_types.FileRange.{FileRange}
use Rattle.xet_base.specs.declared.merklehash.MerkleHash.{MerkleHash}
use Rattle.xet_base.specs.declared.stored.StoredFile.{StoredFile}
use Rattle.xet_base.specs.declared.stored.StoredTerm.{StoredTerm}
use Rattle.xet_base.specs.Hashes.{hash_eq}
use Rattle.xet_base.specs.Lists.{first_some, firsts, placed}
use Rattle.xet_base.specs.Store.{Store, IsValid, bytes_of, chunks_of, chunks_of_file, chunks_of_term, file_of, terms_of_file, window}
use Rattle.xet_base.proofs.CallerLemmas.{hash_eq-own}
use Rattle.xet_base.proofs.CallerLemmas.{window_length}
use Rattle.xet_outside.specs.declared.plan.Plan.{Plan}
use Rattle.xet_outside.specs.declared.plan.PlanAnswer.{PlanAnswer}
use Rattle.xet_outside.specs.declared.plan.PlanAnswer.TheVariants.{Found, NoFile, PastEnd}
use Rattle.xet_outside.specs.declared.plan.PlanTerm.{PlanTerm}
use Rattle.xet_outside.specs.Plan.{Shape, block_of, cut_term, ends_before, lengths, placed_terms, plan_of, plan_offset, plan_term, plan_terms, plan_xorb, shape, touches}
use Rattle.xet_outside.specs.Told.{Holds, IsHonest}
use Rattle.xet_outside.proofs.CallerLemmas.{count_by-cons, sum_lengths}
use Rattle.xet_error.specs.declared.error.Corruption.TheVariants.{RefreshBlocks, RefreshRange}
use Rattle.xet_error.specs.declared.error.FileReconstructionError.TheVariants as error
use Rattle.xet_blocks.specs.declared.reconstruction_terms.file_term.FileTerm.{FileTerm}
use Rattle.xet_offers.specs.declared.reconstruction_terms.xorb_block.XorbBlock.{XorbBlock}
use Rattle.xet_offers.specs.Blocks.{PlanBlock, block_ranges, blocks_of, range_eq}
use Rattle.xet_blocks.specs.Extracts.{term_size}
use Rattle.xet_fetch.specs.Laws.{HonestTables}
use Rattle.xet_requests.specs.Refreshes.{Extent, blocks_test, extent_of, first_difference, plan_extents, range_test, refusal_of, same_extent}
use Rattle.xet_blocks.specs.Terms.{term_piece, terms_of}
use Rattle.xet_offers.specs.PlanChecks.{covered, failed_test, sizes}
use Rattle.xet_blocks.specs.TermBlocks.{xorb_block, xorb_blocks}
use Rattle.xet_offers.specs.BlockCalls.{failed_check}
use Rattle.xet_blocks.specs.Laws.{TellsLength}
use Rattle.xet_blocks.proofs.CallerLemmas.{honest_accepted}
use Rattle.xet_blocks.proofs.CallerLemmas.{honest_block_passes, known_sizes, length_passes, pieces_join, pieces_sized, sized_passes}
use Rattle.xet_fetch.proofs.HonestEntries.{all_map, blocks_held}
use Rattle.xet_requests.proofs.CallerLemmas.{extents_are, refused_after}
use Rattle.xet_fetch.proofs.TermRows.{Follow, terms_follow}

-- ---- two queries that touch the same chunks

-- the same start, and the same end within a length
pub record IsSameWithin (n : ℕ) (q r : FileRange) : Type 0 where
  pub start : r.start ≡ q.start
  pub end : r.end ≡ max q.start (min q.end n)
  pub inside : q.start ≤ n

module _ (n : ℕ) (q r : FileRange) (same : IsSameWithin n q r) where
  touch : (p k : ℕ) → p + k ≤ n → touches r (p, k) ≡ touches q (p, k)
  touch p k h = go (touches q (p, k)) refl
    where
      go : (b : Bool) → touches q (p, k) ≡ b → touches r (p, k) ≡ b
      go true e =
          let l = ltb-true (max p q.start) (min (p + k) q.end) e in
          let s = same.start in let t = same.end in
          lt-ltb (max p r.start) (min (p + k) r.end) (omega arith)
      go false e =
          let l = ltb-false (max p q.start) (min (p + k) q.end) e in
          let s = same.start in let t = same.end in
          le-ltb (max p r.start) (min (p + k) r.end) (omega arith)

  count_touches : (p : ℕ) (ns : List ℕ) → p + sum ns ≤ n → count_by (touches r) (placed p ns) ≡ count_by (touches q) (placed p ns)
  count_touches p [] h = refl
  count_touches p (k ∷ ns) h =
      let e = sum_by-cons (λ x. x) k ns in
      let here = touch p k (omega arith) in
      let next = count_touches (p + k) ns (omega arith) in
      count_by-cons (touches r) (p, k) (placed (p + k) ns) ∙ ap (λ b. cond b 1 0 + count_by (touches r) (placed (p + k) ns)) here
      ∙ ap (λ (m : ℕ). cond (touches q (p, k)) 1 0 + m) next ∙ sym (count_by-cons (touches q) (p, k) (placed (p + k) ns))

  find_touches : (p : ℕ) (ns : List ℕ) → p + sum ns ≤ n → find (touches r) (placed p ns) ≡ find (touches q) (placed p ns)
  find_touches p [] h = refl
  find_touches p (k ∷ ns) h =
      let e = sum_by-cons (λ x. x) k ns in
      let here = touch p k (omega arith) in
      let next = find_touches (p + k) ns (omega arith) in
      ap (λ b. cond b (Some (p, k)) (find (touches r) (placed (p + k) ns))) here ∙ ap (λ o. cond (touches q (p, k)) (Some (p, k)) o) next

  count_before : (cs : List (ℕ × ℕ)) → count_by (ends_before r) cs ≡ count_by (ends_before q) cs
  count_before cs = ap (λ (a : ℕ). count_by (λ (c : ℕ × ℕ). nat_le (c.0 + c.1) a) cs) same.start

  cut_same : (s : Store) (p : ℕ) (t : StoredTerm) → p + sum (lengths (chunks_of_term s t)) ≤ n → cut_term s r (p, t) ≡ cut_term s q (p, t)
  cut_same s p t h =
      let cs = placed p (lengths (chunks_of_term s t)) in
      let first = count_before cs in
      let count = count_touches p (lengths (chunks_of_term s t)) h in
      ap (λ (k : ℕ). plan_term (chunks_of s t.xorb) t.xorb (record { start = t.from + k; end = t.from + k + count_by (touches r) cs })) first
      ∙ ap (λ (k : ℕ). plan_term (chunks_of s t.xorb) t.xorb (record { start = t.from + count_by (ends_before q) cs; end = t.from + count_by (ends_before q) cs + k })) count

  cuts_same : (s : Store) (p : ℕ) (ts : List StoredTerm) → p + length (concat (flat_map (chunks_of_term s) ts)) ≤ n → map (cut_term s r) (placed_terms s p ts) ≡ map (cut_term s q) (placed_terms s p ts)
  cuts_same s p [] h = refl
  cuts_same s p (t ∷ ts) h =
      let size = sum_lengths (chunks_of_term s t) in
      let all = ap length (concat-append (chunks_of_term s t) (flat_map (chunks_of_term s) ts)) in
      let l = length-append (concat (chunks_of_term s t)) (concat (flat_map (chunks_of_term s) ts)) in
      let here = cut_same s p t (omega arith) in
      let next = cuts_same s (p + sum (lengths (chunks_of_term s t))) ts (omega arith) in
      λ i. here i ∷ next i

plans_same : (s : Store) (f : MerkleHash) (q r : FileRange) → IsSameWithin (length (bytes_of s f)) q r → plan_of s f r ≡ plan_of s f q
plans_same s f q r same =
    let n = length (bytes_of s f) in
    let cuts = cuts_same n q r same s 0 (terms_of_file s f) (omega arith) in
    let terms : plan_terms s f r ≡ plan_terms s f q = ap (filter (λ (t : PlanTerm). nat_lt t.range.start t.range.end)) cuts in
    let size = sum_lengths (chunks_of_file s f) in
    let found = find_touches n q r same 0 (lengths (chunks_of_file s f)) (omega arith) in
    let offset : plan_offset s f r ≡ plan_offset s f q =
    ap (λ (a : ℕ). unwrap_or (option_map (λ (c : ℕ × ℕ). a - c.0) (find (touches r) (placed 0 (lengths (chunks_of_file s f))))) 0) same.start
    ∙ ap (λ o. unwrap_or (option_map (λ (c : ℕ × ℕ). q.start - c.0) o) 0) found in
    ap (λ (o : ℕ). let p : Shape = record { offset = o; terms = plan_terms s f r; xorbs = map (plan_xorb s (plan_terms s f r)) (firsts hash_eq (map (λ t. t.xorb) (plan_terms s f r))) } in p) offset
    ∙ ap (λ (ts : List PlanTerm). let p : Shape = record { offset = plan_offset s f q; terms = ts; xorbs = map (plan_xorb s ts) (firsts hash_eq (map (λ t. t.xorb) ts)) } in p) terms

-- ---- the bytes that an honest plan covers

joined_size : (piece : FileTerm → List ℕ) (ts : List FileTerm) → All (λ t. length (piece t) ≡ term_size t) ts → length (flat_map piece ts) ≡ sum (map term_size ts)
joined_size piece [] a = refl
joined_size piece (t ∷ ts) a =
    let here = All-head (λ t. length (piece t) ≡ term_size t) t ts a in
    let next = joined_size piece ts (All-tail (λ t. length (piece t) ≡ term_size t) t ts a) in
    omega (arith, here, next, length-append (piece t) (flat_map piece ts), sum_by-cons (λ x. x) (term_size t) (map term_size ts))

-- the sizes of an honest plan's terms sum to the window's length
term_sizes_sum : (s : Store) → IsValid s → (f : MerkleHash) (q : FileRange) (multi : Bool) → sum (map term_size (terms_of (plan_of s f q) q multi)) ≡ length (window s f q)
term_sizes_sum s v f q multi =
    sym (joined_size (term_piece s (plan_of s f q) multi) (terms_of (plan_of s f q) q multi) (pieces_sized s v f q multi)) ∙ ap length (pieces_join s v f q multi)

followed : (place end : ℕ) (ts : List FileTerm) → Follow place end ts → place + sum (map term_size ts) ≡ end
followed place end [] h = (let n : place + 0 ≡ place = omega arith in n) ∙ h
followed place end (t ∷ ts) h =
    let e = sum_by-cons (λ x. x) (term_size t) (map term_size ts) in
    let from : t.byte_range.start ≡ place = h.0 in
    let to : place ≤ t.byte_range.end = h.1 in
    let next = followed t.byte_range.end end ts h.2 in
    omega arith

covers : (s : Store) → IsValid s → (f : MerkleHash) (q : FileRange) (multi : Bool) → q.start < length (bytes_of s f) → 0 < length (plan_terms s f q) → IsSameWithin (length (bytes_of s f)) q (covered (plan_of s f q) q)
covers s v f q multi within some =
    let n = length (bytes_of s f) in
    let follow = followed q.start (min (q.start + sum (sizes (plan_of s f q))) q.end) (terms_of (plan_of s f q) q multi) (terms_follow (plan_of s f q) q multi (honest_accepted s v f q multi) some) in
    let all = term_sizes_sum s v f q multi in
    let w = window_length s f q in
    record { start = refl; end = omega arith; inside = omega arith }

-- ---- equal extents

own_ranges : (rs : List ChunkRange) → pointwise range_eq rs rs ≡ true
own_ranges [] = refl
own_ranges (r ∷ rs) = and_from (range_eq r r) (pointwise range_eq rs rs) (and_from (nat_eq r.start r.start) (nat_eq r.end r.end) (eq-eqb r.start r.start refl) (eq-eqb r.end r.end refl)) (own_ranges rs)

own_extent : (x : Extent) → same_extent x x ≡ true
own_extent x = and_from (hash_eq x.0 x.0) (pointwise range_eq x.1 x.1) (hash_eq-own x.0) (own_ranges x.1)

no_difference : (xs : List Extent) → first_difference xs xs ≡ None
no_difference [] = refl
no_difference (x ∷ xs) = ap (λ b. cond b (option_map (λ k. suc k) (first_difference xs xs)) (Some 0)) (own_extent x) ∙ ap (option_map (λ k. suc k)) (no_difference xs)

same_range : (q r : FileRange) → r.start ≡ q.start → r.end ≡ q.end → range_test q r ≡ None
same_range q r a b = ap (λ c. cond c None (Some (RefreshRange r))) (and_from (nat_eq r.start q.start) (nat_eq r.end q.end) (eq-eqb r.start q.start a) (eq-eqb r.end q.end b))

-- ---- refreshes

-- what an honest answer to the query of a table's bytes passes
refresh_passes : (s : Store) → IsValid s → (p : Plan) (q : FileRange) (multi : Bool) (f : MerkleHash) → IsHonest s f q (Found p) → 0 < length p.terms
    → (a : PlanAnswer) → IsHonest s f (covered (shape p) q) a → refusal_of (covered (shape p) q) multi (plan_extents (shape p) multi) a ≡ None
refresh_passes s v p q multi f h some NoFile absent = absurd (none (file_of s f) h.0 absent)
  where
    none : (o : Option StoredFile) → IsSome o → IsNone o → ⊥
    none None is absent = cc
    none (Some x) is absent = cc
refresh_passes s v p q multi f h some PastEnd past = absurd (let a = h.1 in let b = past.1 in omega arith)
refresh_passes s v p q multi f h some (Found p') found =
    let planned : shape p ≡ plan_of s f q = h.2 in
    let count : 0 < length (plan_terms s f q) = subst (λ (x : Shape). 0 < length x.terms) planned some in
    let r : FileRange = covered (shape p) q in
    let spans : IsSameWithin (length (bytes_of s f)) q r = subst (λ (x : Shape). IsSameWithin (length (bytes_of s f)) q (covered x q)) (sym planned) (covers s v f q multi h.1 count) in
    let same : shape p' ≡ shape p = found.2 ∙ plans_same s f q r spans ∙ sym planned in
    let some' : 0 < length p'.terms = subst (λ (x : Shape). 0 < length x.terms) (sym same) some in
    let passes : failed_test (shape p') r multi ≡ None = ap (λ (x : Shape). failed_test x r multi) found.2 ∙ honest_accepted s v f r multi in
    let range : range_test r (covered (shape p') r) ≡ None =
    ap (λ (x : Shape). range_test r (covered x r)) same
    ∙ same_range r (covered (shape p) r) refl (omega arith) in
    let blocks : blocks_test (plan_extents (shape p) multi) (plan_extents (shape p') multi) ≡ None =
    ap (λ (x : Shape). blocks_test (plan_extents (shape p) multi) (plan_extents x multi)) same
    ∙ ap (option_map (λ k. RefreshBlocks k)) (no_difference (plan_extents (shape p) multi)) in
    refused_after r multi (plan_extents (shape p) multi) p' some' passes
    ∙ ap (λ o. option_map (λ k. error.CorruptedReconstruction k) (first_some (o ∷ blocks_test (plan_extents (shape p) multi) (plan_extents (shape p') multi) ∷ []))) range
    ∙ ap (λ o. option_map (λ k. error.CorruptedReconstruction k) (first_some (o ∷ []))) blocks

-- ---- tables

-- a xorb is stored and holds an extent's ranges
abbrev HasExtent : Store → Extent → Type 0
HasExtent s e = Holds s e.0 e.1

each_extent : (s : Store) (xs : List XorbBlock) → All (HasExtent s) (map extent_of xs) → All (λ x. HasExtent s (extent_of x)) xs
each_extent s [] a = All-nil (λ x. HasExtent s (extent_of x))
each_extent s (x ∷ xs) a =
    All-cons (λ x. HasExtent s (extent_of x)) x xs (All-head (HasExtent s) (extent_of x) (map extent_of xs) a) (each_extent s xs (All-tail (HasExtent s) (extent_of x) (map extent_of xs) a))

-- the known sizes of numbered blocks are their lengths in a store
abbrev IsSizedIn : Store → XorbBlock → Type 0
IsSizedIn s x = (n : ℕ) → x.uncompressed_size_if_known ≡ Some n → n ≡ length (block_of s x.xorb_hash x.chunk_ranges).bytes

numbered_sized : (s : Store) (p : Shape) (multi : Bool) (n : ℕ) (bs : List PlanBlock) → All (TellsLength s p multi) bs → All (IsSizedIn s) (map (xorb_block p multi) (enumerate_from n bs))
numbered_sized s p multi n [] a = All-nil (IsSizedIn s)
numbered_sized s p multi n (b ∷ bs) a =
    All-cons (IsSizedIn s) (xorb_block p multi (n, b)) (map (xorb_block p multi) (enumerate_from (n + 1) bs))
    (All-head (TellsLength s p multi) b bs a)
    (numbered_sized s p multi (n + 1) bs (All-tail (TellsLength s p multi) b bs a))

pub honest_tables : HonestTables
honest_tables s v p query b is h some =
    let q = query.range in let multi = query.multirange in let f = query.file in
    let planned : shape p ≡ plan_of s f q = h.2 in
    let extents : map extent_of b.blocks ≡ plan_extents (shape p) multi = extents_are p query b is in
    let range : b.urls.byte_range ≡ covered (shape p) q = is.of_query ∙ is.range in
    let held : All (HasExtent s) (plan_extents (plan_of s f q) multi) = all_map (HasExtent s) (λ c. (c.xorb, block_ranges c)) (blocks_of (plan_of s f q) multi) (blocks_held s f q multi) in
    let here : All (HasExtent s) (map extent_of b.blocks) =
    subst (All (HasExtent s)) (ap (λ (x : Shape). plan_extents x multi) (sym planned) ∙ sym extents) held in
    let sized : All (IsSizedIn s) b.blocks =
    subst (All (IsSizedIn s)) (ap (λ (x : Shape). xorb_blocks x multi) (sym planned) ∙ sym is.blocks)
    (numbered_sized s (plan_of s f q) multi 0 (blocks_of (plan_of s f q) multi) (known_sizes s v f q multi)) in
    let file : f ≡ b.urls.file_hash = sym is.of_file in
    let passes = refresh_passes s v p q multi f h some in
    let passes_of = subst (λ (g : MerkleHash). (a : PlanAnswer) → IsHonest s g (covered (shape p) q) a → refusal_of (covered (shape p) q) multi (plan_extents (shape p) multi) a ≡ None) file passes in
    let passes_in = subst (λ (r : FileRange). (a : PlanAnswer) → IsHonest s b.urls.file_hash r a → refusal_of r multi (plan_extents (shape p) multi) a ≡ None) (sym range) passes_of in
    let passes_by = subst (λ (es : List Extent). (a : PlanAnswer) → IsHonest s b.urls.file_hash b.urls.byte_range a → refusal_of b.urls.byte_range multi es a ≡ None) (sym extents) passes_in in
    λ k d w.
    let held_here = each_extent s b.blocks here k d w in
    let x = get_or b.blocks k d in
    let entry = block_of s x.xorb_hash x.chunk_ranges in
    let passes_here : failed_check x entry ≡ None =
    sized_passes x.chunk_ranges x.uncompressed_size_if_known entry (honest_block_passes s v x.xorb_hash x.chunk_ranges held_here.1)
    (length_passes x.uncompressed_size_if_known entry (sized k d w)) in
    record { holds = held_here; passes = passes_here; refreshes = λ a honest. passes_by a honest }
