-- Honest entries pass the tests of their blocks, and honest data is an entry again.
use Rattle.std.proofs.Common.{◌≡◌, ℕ, ◌+◌, ◌-◌, ◌^◌, ◌≤◌, ◌<◌, Bool, true, false, cond, not, ◌&&◌, List, [], ◌∷◌, ◌++◌, drop, take, length, min, refl, sym, ◌∙◌, ap, arith, map, get_or, subst, zip, Some, None, Option}
use Rattle.std.specs.Prelude.{All, is_none, filter, find, slice_get, slice_range, nat_lt, option_map, unwrap_or}
use Rattle.std.specs.List.{list_all, concat, flat_map}
use Rattle.std.proofs.lemmas.Bool.{le-leb, ltb-false}
use Rattle.std.proofs.lemmas.List.{drop-drop, length-append, take-append-drop}
use Rattle.std.proofs.lemmas.List.Folds.{concat-append}
use Rattle.std.proofs.lemmas.List.Elements.{All-filter, All-head, All-tail, All-nil, All-cons}
use Rattle.std.proofs.lemmas.Option.{get_or_from_slice_get, slice_get-get_or, slice_get_within}
use Rattle.std.proofs.lemmas.Slice.Zip.{get_or-zip, length-zip}
use Rattle.xet_base.specs.declared.cas_types.ChunkRange.{ChunkRange}
use Rattle.xet_base.specs.declared.cas_types.FileRange.{FileRange}
use Rattle.xet_base.specs.declared.merklehash.MerkleHash.{MerkleHash}
use Rattle.xet_base.specs.Lists.{firsts, placed, starts}
use Rattle.xet_base.specs.declared.mdb_shard.Xorb.{Xorb}
use Rattle.xet_base.specs.Hashes.{hash_eq}
use Rattle.xet_base.specs.Ranges.{Ascend}
use Rattle.xet_base.specs.Store.{Store, IsValid, IsValidXorb, chunks_of}
use Rattle.xet_outside.specs.declared.block.BlockBytes.{BlockBytes}
use Rattle.xet_outside.specs.declared.plan.PlanTerm.{PlanTerm}
use Rattle.xet_outside.specs.Plan.{Shape, block_of, chunks_in, lengths, plan_of, plan_terms}
use Rattle.xet_outside.specs.Told.{Holds}
use Rattle.xet_error.specs.declared.error.Corruption.TheVariants.{TermPastBlock}
use Rattle.xet_blocks.specs.declared.reconstruction_terms.file_term.FileTerm.{FileTerm}
use Rattle.xet_offers.specs.declared.reconstruction_terms.xorb_block.XorbReference.{XorbReference}
use Rattle.xet_offers.specs.Blocks.{PlanBlock, block_ranges, blocks_of, same_block, start_index, term_block}
use Rattle.xet_offers.specs.BlockChecks.{block_data, failed_block_test, numbers_in}
use Rattle.xet_fetch.specs.CachedBlocks.{ends_within, has_reference}
use Rattle.xet_blocks.specs.Extracts.{failed_term_test, term_size, test_at}
use Rattle.xet_fetch.specs.Laws.{EntriesReturn, HonestEntriesPass}
use Rattle.xet_offers.specs.Chain.{known_size}
use Rattle.xet_blocks.specs.TermBlocks.{reference_of, references}
use Rattle.xet_blocks.specs.Terms.{file_term}
use Rattle.xet_blocks.specs.Laws.{TellsLength}
use Rattle.xet_fetch.proofs.CachedTerms.{Refers, all_refer, all_sorted, counted, length-numbers_in, place_passes}
use Rattle.xet_offers.proofs.CallerLemmas.{same_block-true}
use Rattle.xet_blocks.proofs.CallerLemmas.{IsHonestTerm, honest_block_passes, known_sizes, length_passes, sized_passes, whole_terms}

-- a whole term that passes its test in an entry has all its bytes there
refers_by : (t : FileTerm) (rs : List ChunkRange) (e : BlockBytes) (r : XorbReference) → failed_block_test rs None e ≡ None → t.xorb_block_start_index ≡ start_index rs r.term_chunks.start
    → t.offset_into_first_range ≡ 0 → term_size t ≡ r.uncompressed_size → failed_term_test t (block_data rs e) ≡ None → has_reference rs e r ≡ true
refers_by t rs e r passes at offset size fits = go (slice_get (zip (numbers_in rs) e.offsets) t.xorb_block_start_index) refl fits
  where
    go : (o : Option (ℕ × ℕ)) → slice_get (zip (numbers_in rs) e.offsets) t.xorb_block_start_index ≡ o → test_at t (block_data rs e) o ≡ None → has_reference rs e r ≡ true
    go None k h = absurd (cc)
    go (Some c) k h =
        let z = length-zip (numbers_in rs) e.offsets in
        let w = slice_get_within (zip (numbers_in rs) e.offsets) t.xorb_block_start_index c k in
        let read = get_or_from_slice_get (zip (numbers_in rs) e.offsets) t.xorb_block_start_index c (0, 0) k in
        let pair = get_or-zip (numbers_in rs) e.offsets t.xorb_block_start_index (0, 0) (omega arith) (omega arith) in
        let place : get_or e.offsets t.xorb_block_start_index 0 ≡ c.1 = ap (λ (c : ℕ × ℕ). c.1) (sym pair ∙ read) in
        let found : slice_get e.offsets t.xorb_block_start_index ≡ Some c.1 = slice_get-get_or e.offsets t.xorb_block_start_index 0 (omega arith) ∙ ap Some place in
        let within : c.1 + t.offset_into_first_range + term_size t ≤ length e.bytes = ltb-false (length e.bytes) (c.1 + t.offset_into_first_range + term_size t) (short (nat_lt (length e.bytes) (c.1 + t.offset_into_first_range + term_size t)) h) in
        ap (λ (i : ℕ). ends_within (length e.bytes) r (slice_get e.offsets i)) (sym at)
        ∙ ap (ends_within (length e.bytes) r) found
        ∙ le-leb (c.1 + r.uncompressed_size) (length e.bytes) (omega arith)
      where
        short : (b : Bool) → cond b (Some (TermPastBlock (min (c.1 + t.offset_into_first_range + term_size t) (2 ^ 64 - 1)) (length e.bytes))) None ≡ None → b ≡ false
        short true h = absurd (cc)
        short false h = refl

-- ---- the blocks of an honest plan

-- a xorb is stored and holds a block's ranges
abbrev pub IsHeld : Store → PlanBlock → Type 0
IsHeld s b = Holds s b.xorb (block_ranges b)

held_same : (s : Store) (a b : PlanBlock) → a.xorb ≡ b.xorb → block_ranges a ≡ block_ranges b → IsHeld s a → IsHeld s b
held_same s a b x r h = subst (λ (rs : List ChunkRange). Holds s b.xorb rs) r (subst (λ (x : MerkleHash). Holds s x (block_ranges a)) x h)

pub all_map : {A B : Type 0} (P : B → Type 0) (g : A → B) (xs : List A) → All (λ x. P (g x)) xs → All P (map g xs)
all_map P g [] a = All-nil P
all_map P g (x ∷ xs) a = All-cons P (g x) (map g xs) (All-head (λ x. P (g x)) x xs a) (all_map P g xs (All-tail (λ x. P (g x)) x xs a))

all_firsts : {A : Type 0} (P : A → Type 0) (same : A → A → Bool) (xs : List A) → All P xs → All P (firsts same xs)
all_firsts P same [] a = All-nil P
all_firsts P same (x ∷ xs) a =
    All-cons P x (filter (λ y. not (same x y)) (firsts same xs)) (All-head P x xs a)
    (All-filter (λ y. not (same x y)) P (firsts same xs) (all_firsts P same xs (All-tail P x xs a)))

-- a term of the plan, whole, in its block
abbrev IsWhole : Store → Shape → Bool → PlanTerm → Type 0
IsWhole s p multi u = IsHonestTerm s p multi (file_term p (record { start = 0; end = u.unpacked_length }) multi 0 0 u)

-- the block of a whole term is the term's
whole_block : (s : Store) (p : Shape) (multi : Bool) (u : PlanTerm) (is : IsWhole s p multi u) → same_block is.block (term_block p multi u) ≡ true
whole_block s p multi u is = place_passes (λ b. same_block b (term_block p multi u)) (blocks_of p multi) is.block is.listed

term_held : (s : Store) (p : Shape) (multi : Bool) (u : PlanTerm) → IsWhole s p multi u → IsHeld s (term_block p multi u)
term_held s p multi u is =
    let same = same_block-true is.block (term_block p multi u) (whole_block s p multi u is) in
    held_same s is.block (term_block p multi u) same.0 same.1 is.holds

pub blocks_held : (s : Store) (f : MerkleHash) (q : FileRange) (multi : Bool) → All (IsHeld s) (blocks_of (plan_of s f q) multi)
blocks_held s f q multi =
    all_firsts (IsHeld s) same_block (map (term_block (plan_of s f q) multi) (plan_terms s f q))
    (all_map (IsHeld s) (term_block (plan_of s f q) multi) (plan_terms s f q)
    (λ k d h. term_held s (plan_of s f q) multi (get_or (plan_terms s f q) k d) (whole_terms s f q multi k d h)))

pub block_held : (s : Store) (f : MerkleHash) (q : FileRange) (multi : Bool) (k : ℕ) (b : PlanBlock) → slice_get (blocks_of (plan_of s f q) multi) k ≡ Some b → Holds s b.xorb (block_ranges b)
block_held s f q multi k b e =
    subst (IsHeld s) (get_or_from_slice_get (blocks_of (plan_of s f q) multi) k b b e) (blocks_held s f q multi k b (slice_get_within (blocks_of (plan_of s f q) multi) k b e))

-- the size that the terms tell of a block is the length of its honest entry
told_size : (s : Store) → IsValid s → (f : MerkleHash) (q : FileRange) (multi : Bool) (k : ℕ) (b : PlanBlock) → slice_get (blocks_of (plan_of s f q) multi) k ≡ Some b
    → TellsLength s (plan_of s f q) multi b
told_size s v f q multi k b e =
    subst (λ (b : PlanBlock). TellsLength s (plan_of s f q) multi b) (get_or_from_slice_get (blocks_of (plan_of s f q) multi) k b b e)
    (known_sizes s v f q multi k b (slice_get_within (blocks_of (plan_of s f q) multi) k b e))

-- ---- entries

-- the reference of a whole term of a block has all its bytes in the block's honest entry
refers_whole : (s : Store) (v : IsValid s) (p : Shape) (multi : Bool) (b : PlanBlock) (u : PlanTerm) → IsWhole s p multi u
    → Refers (λ t. same_block b (term_block p multi t)) (has_reference (block_ranges b) (block_of s b.xorb (block_ranges b))) u
refers_whole s v p multi b u is e =
    let of_term = same_block-true b (term_block p multi u) e in
    let of_block = same_block-true is.block (term_block p multi u) (whole_block s p multi u is) in
    let xorb : is.block.xorb ≡ b.xorb = of_block.0 ∙ sym of_term.0 in
    let ranges : block_ranges is.block ≡ block_ranges b = of_block.1 ∙ sym of_term.1 in
    let size : term_size (file_term p (record { start = 0; end = u.unpacked_length }) multi 0 0 u) ≡ u.unpacked_length = omega arith in
    let here : has_reference (block_ranges is.block) (block_of s is.block.xorb (block_ranges is.block)) (reference_of u) ≡ true =
    refers_by (file_term p (record { start = 0; end = u.unpacked_length }) multi 0 0 u) (block_ranges is.block) (block_of s is.block.xorb (block_ranges is.block)) (reference_of u)
    (honest_block_passes s v is.block.xorb (block_ranges is.block) is.holds.1)
    (ap (λ (rs : List ChunkRange). start_index rs u.range.start) (sym of_block.1)) refl size is.passes in
    subst (λ (rs : List ChunkRange). has_reference rs (block_of s b.xorb rs) (reference_of u) ≡ true) ranges
    (subst (λ (x : MerkleHash). has_reference (block_ranges is.block) (block_of s x (block_ranges is.block)) (reference_of u) ≡ true) xorb here)

pub honest_entries_pass : HonestEntriesPass
honest_entries_pass s v f q multi k b e =
    let p : Shape = plan_of s f q in
    let held = block_held s f q multi k b e in
    let entry : BlockBytes = block_of s b.xorb (block_ranges b) in
    let h = has_reference (block_ranges b) entry in
    let size = known_size (block_ranges b) (references p multi b) in
    let told = told_size s v f q multi k b e in
    let passes : failed_block_test (block_ranges b) size entry ≡ None =
    sized_passes (block_ranges b) size entry (honest_block_passes s v b.xorb (block_ranges b) held.1) (length_passes size entry told) in
    let refer : list_all h (map reference_of (filter (λ t. same_block b (term_block p multi t)) (plan_terms s f q))) ≡ true =
    all_refer (λ t. same_block b (term_block p multi t)) h (plan_terms s f q) (λ k d w. refers_whole s v p multi b (get_or (plan_terms s f q) k d) (whole_terms s f q multi k d w)) in
    let all : list_all h (references p multi b) ≡ true = all_sorted h (map reference_of (filter (λ t. same_block b (term_block p multi t)) (plan_terms s f q))) ∙ refer in
    ap (λ o. is_none o && list_all h (references p multi b)) passes ∙ all

-- ---- entries of honest data

-- the second parts of pairs
seconds : (ns os : List ℕ) → length os ≤ length ns → All (λ o. o < 2 ^ 32) os → map (λ (c : ℕ × ℕ). min c.1 (2 ^ 32 - 1)) (zip ns os) ≡ os
seconds [] [] h a = refl
seconds [] (o ∷ os) h a = absurd (omega arith)
seconds (n ∷ ns) [] h a = refl
seconds (n ∷ ns) (o ∷ os) h a =
    let small : o < 2 ^ 32 = All-head (λ o. o < 2 ^ 32) o os a in
    let here : min o (2 ^ 32 - 1) ≡ o = omega arith in
    let rest = seconds ns os (omega arith) (All-tail (λ o. o < 2 ^ 32) o os a) in
    λ i. here i ∷ rest i

dropped : (xs : List (List ℕ)) (k : ℕ) → length (concat (drop k xs)) ≤ length (concat xs)
dropped xs k =
    let all : concat xs ≡ concat (take k xs) ++ concat (drop k xs) = ap concat (sym (take-append-drop k xs)) ∙ concat-append (take k xs) (drop k xs) in
    omega (arith, ap length all, length-append (concat (take k xs)) (concat (drop k xs)))

sizes_within : (xs : List (List ℕ)) (low : ℕ) (rs : List ChunkRange) → Ascend low (length xs) rs → length (concat (flat_map (λ r. slice_range xs r.start r.end) rs)) ≤ length (concat (drop low xs))
sizes_within xs low [] a = omega arith
sizes_within xs low (r ∷ rs) a =
    let l : low ≤ r.start = a.0 in
    let w : r.start < r.end = a.1 in
    let next = sizes_within xs r.end rs a.3 in
    let from : length (concat (drop r.start xs)) ≤ length (concat (drop low xs)) =
    subst (λ ys. length (concat ys) ≤ length (concat (drop low xs))) (drop-drop (r.start - low) low xs ∙ ap (λ (k : ℕ). drop k xs) (let n : low + (r.start - low) ≡ r.start = omega arith in n)) (dropped (drop low xs) (r.start - low)) in
    let after : drop (r.end - r.start) (drop r.start xs) ≡ drop r.end xs = drop-drop (r.end - r.start) r.start xs ∙ ap (λ (k : ℕ). drop k xs) (let n : r.start + (r.end - r.start) ≡ r.end = omega arith in n) in
    let all : concat (drop r.start xs) ≡ concat (slice_range xs r.start r.end) ++ concat (drop (r.end - r.start) (drop r.start xs)) =
    ap concat (sym (take-append-drop (r.end - r.start) (drop r.start xs))) ∙ concat-append (take (r.end - r.start) (drop r.start xs)) (drop (r.end - r.start) (drop r.start xs)) in
    let joined = concat-append (slice_range xs r.start r.end) (flat_map (λ r. slice_range xs r.start r.end) rs) in
    omega (
      arith,
      next,
      from,
      ap (λ (ys : List (List ℕ)). length (concat ys)) after,
      ap length all,
      length-append (concat (slice_range xs r.start r.end)) (concat (drop (r.end - r.start) (drop r.start xs))),
      ap length joined,
      length-append (concat (slice_range xs r.start r.end)) (concat (flat_map (λ r. slice_range xs r.start r.end) rs)),
    )

starts_below : (m p : ℕ) (cs : List (List ℕ)) → p + length (concat cs) < m → All (λ o. o < m) (map (λ (c : ℕ × ℕ). c.0) (placed p (lengths cs)))
starts_below m p [] h = All-nil (λ o. o < m)
starts_below m p (c ∷ cs) h =
    let l = length-append c (concat cs) in
    All-cons (λ o. o < m) p (map (λ (c : ℕ × ℕ). c.0) (placed (p + length c) (lengths cs))) (omega arith) (starts_below m (p + length c) cs (omega arith))

-- a stored xorb has few bytes
few_bytes : (s : Store) → IsValid s → (h : MerkleHash) → length (concat (chunks_of s h)) < 2 ^ 32
few_bytes s v h = among s.xorbs v.xorbs
  where
    among : (xs : List Xorb) → All IsValidXorb xs → length (concat (unwrap_or (option_map (λ (x : Xorb). x.chunks) (find (λ (x : Xorb). hash_eq x.hash h) xs)) [])) < 2 ^ 32
    among [] a = omega arith
    among (x ∷ xs) a = pick (hash_eq x.hash h) (All-head IsValidXorb x xs a).byte_count (among xs (All-tail IsValidXorb x xs a))
      where
        pick : (b : Bool) → length (concat x.chunks) < 2 ^ 32 → length (concat (unwrap_or (option_map (λ (x : Xorb). x.chunks) (find (λ (x : Xorb). hash_eq x.hash h) xs)) [])) < 2 ^ 32
            → length (concat (unwrap_or (option_map (λ (x : Xorb). x.chunks) (cond b (Some x) (find (λ (x : Xorb). hash_eq x.hash h) xs))) [])) < 2 ^ 32
        pick true f g = f
        pick false f g = g

pub entries_return : EntriesReturn
entries_return s v x rs h =
    let cs = chunks_in s x rs in
    let os = starts (lengths cs) in
    let passes = honest_block_passes s v x rs h.1 in
    let counts = counted rs None (block_of s x rs) passes in
    let numbers = length-numbers_in rs in
    let within = sizes_within (chunks_of s x) 0 rs h.1 in
    let few = few_bytes s v x in
    let small : All (λ o. o < 2 ^ 32) os = starts_below (2 ^ 32) 0 cs (omega arith) in
    ap (λ (l : List ℕ). let e : BlockBytes = record { offsets = l; bytes = concat cs } in e) (seconds (numbers_in rs) os (omega arith) small)
