-- Terms in entries that pass the tests of their blocks, and honest entries.
use Rattle.std.proofs.Common.{◌≡◌, ℕ, suc, ◌+◌, ◌-◌, ◌^◌, ◌≤◌, Bool, true, false, cond, not, ◌&&◌, List, [], ◌∷◌, length, min, refl, sym, ◌∙◌, ap, arith, map, get_or, subst, zip, Some, None, Option}
use Rattle.std.specs.Prelude.{All, is_none, filter, sum, slice_get, option_map, find, nat_eq, nat_le, nat_lt, take}
use Rattle.std.specs.List.{list_all, position_or_len, range_with_len}
use Rattle.std.proofs.lemmas.Bool.{and_parts, eqb-true, leb-true, ltb-false, le-ltb, false≢true}
use Rattle.std.proofs.lemmas.List.Elements.{All-head, All-tail, All-nil, All-cons}
use Rattle.std.proofs.lemmas.List.FromFn.{length-range_with_len}
use Rattle.std.proofs.lemmas.List.Sums.{sum_by-cons}
use Rattle.std.proofs.lemmas.List.{length-append}
use Rattle.std.proofs.lemmas.Option.{get_or_from_slice_get, same_Some, slice_get-get_or, slice_get_within}
use Rattle.std.proofs.lemmas.Slice.Zip.{get_or-zip, length-zip}
use Rattle.xet_base.specs.declared.cas_types.ChunkRange.{ChunkRange}
use Rattle.xet_base.specs.declared.cas_types.FileRange.{FileRange}
use Rattle.xet_base.specs.Lists.{first_some}
use Rattle.xet_outside.specs.declared.block.BlockBytes.{BlockBytes}
use Rattle.xet_outside.specs.declared.plan.PlanTerm.{PlanTerm}
use Rattle.xet_outside.specs.Plan.{Shape}
use Rattle.xet_error.specs.declared.error.Corruption.TheVariants.{Offset, OffsetCount, TermPastBlock}
use Rattle.xet_blocks.specs.declared.reconstruction_terms.file_term.FileTerm.{FileTerm}
use Rattle.xet_offers.specs.declared.reconstruction_terms.xorb_block.XorbReference.{XorbReference}
use Rattle.xet_offers.specs.Blocks.{PlanBlock, block_ranges, blocks_of, same_block, start_index, term_block}
use Rattle.xet_offers.specs.BlockChecks.{block_data, chunk_total, failed_block_test, length_test, numbers_in, order_test}
use Rattle.xet_fetch.specs.CachedBlocks.{ends_within, has_reference, is_sound}
use Rattle.xet_blocks.specs.Extracts.{end_test, failed_term_test, term_size, test_at}
use Rattle.xet_fetch.specs.Laws.{CachedTermsPass, PassesIn}
use Rattle.xet_blocks.specs.TermBlocks.{by_start, reference_of, references, with_reference}
use Rattle.xet_blocks.specs.Terms.{file_term, terms_from}
use Rattle.xet_offers.proofs.CallerLemmas.{same_block-true}
use Rattle.xet_blocks.proofs.CallerLemmas.{tested}

-- ---- references

swap_and : (a b c : Bool) → (a && (b && c)) ≡ (b && (a && c))
swap_and true true c = refl
swap_and true false c = refl
swap_and false true c = refl
swap_and false false c = refl

all_with : (h : XorbReference → Bool) (r : XorbReference) (ss : List XorbReference) → list_all h (with_reference r ss) ≡ (h r && list_all h ss)
all_with h r [] = refl
all_with h r (s ∷ ss) = go (nat_le r.term_chunks.start s.term_chunks.start) (all_with h r ss)
  where
    go : (b : Bool) → list_all h (with_reference r ss) ≡ (h r && list_all h ss) → list_all h (cond b (r ∷ s ∷ ss) (s ∷ with_reference r ss)) ≡ (h r && (h s && list_all h ss))
    go true e = refl
    go false e = ap (λ b. h s && b) e ∙ swap_and (h s) (h r) (list_all h ss)

pub all_sorted : (h : XorbReference → Bool) (rs : List XorbReference) → list_all h (by_start rs) ≡ list_all h rs
all_sorted h [] = refl
all_sorted h (r ∷ rs) = all_with h r (by_start rs) ∙ ap (λ b. h r && b) (all_sorted h rs)

-- the reference of each term that passes a test passes another
abbrev pub Refers : (PlanTerm → Bool) → (XorbReference → Bool) → PlanTerm → Type 0
Refers f h u = f u ≡ true → h (reference_of u) ≡ true

each_refers : (f : PlanTerm → Bool) (h : XorbReference → Bool) (us : List PlanTerm) → list_all h (map reference_of (filter f us)) ≡ true → All (Refers f h) us
each_refers f h [] e = All-nil (Refers f h)
each_refers f h (u ∷ us) e = let is = go (f u) refl e in All-cons (Refers f h) u us is.0 (each_refers f h us is.1)
  where
    go : (b : Bool) → f u ≡ b → list_all h (map reference_of (cond b (u ∷ filter f us) (filter f us))) ≡ true → Refers f h u × (list_all h (map reference_of (filter f us)) ≡ true)
    go true k e = let p = and_parts (h (reference_of u)) (list_all h (map reference_of (filter f us))) e in (λ _. p.0, p.1)
    go false k e = (λ m. absurd (false≢true (sym k ∙ m)), e)

pub all_refer : (f : PlanTerm → Bool) (h : XorbReference → Bool) (us : List PlanTerm) → All (Refers f h) us → list_all h (map reference_of (filter f us)) ≡ true
all_refer f h [] a = refl
all_refer f h (u ∷ us) a = go (f u) refl (all_refer f h us (All-tail (Refers f h) u us a))
  where
    go : (b : Bool) → f u ≡ b → list_all h (map reference_of (filter f us)) ≡ true → list_all h (map reference_of (cond b (u ∷ filter f us) (filter f us))) ≡ true
    go true k e = rw (All-head (Refers f h) u us a k) e
    go false k e = e

-- the element at the place of the first that passes passes
pub place_passes : {A : Type 0} (p : A → Bool) (xs : List A) (b : A) → slice_get xs (position_or_len p xs) ≡ Some b → p b ≡ true
place_passes p [] b e = let w = slice_get_within [] 0 b e in absurd (omega arith)
place_passes p (x ∷ xs) b e = go (p x) refl e (λ h. place_passes p xs b h)
  where
    go : (t : Bool) → p x ≡ t → slice_get (x ∷ xs) (cond (not t) (1 + position_or_len p xs) 0) ≡ Some b → (slice_get xs (position_or_len p xs) ≡ Some b → p b ≡ true) → p b ≡ true
    go true k e next = let same : x ≡ b = same_Some x b e in subst (λ y. p y ≡ true) same k
    go false k e next =
        let n : suc (position_or_len p xs) ≡ 1 + position_or_len p xs = omega arith in
        next (ap (slice_get (x ∷ xs)) n ∙ e)

-- ---- a term in an entry

pub length-numbers_in : (rs : List ChunkRange) → length (numbers_in rs) ≡ sum (map (λ r. r.end - r.start) rs)
length-numbers_in [] = refl
length-numbers_in (r ∷ rs) =
    let next = length-numbers_in rs in
    let k = length-range_with_len r.start (r.end - r.start) in
    let l = length-append (range_with_len r.start (r.end - r.start)) (numbers_in rs) in
    let e = sum_by-cons (λ x. x) (r.end - r.start) (map (λ r. r.end - r.start) rs) in
    omega arith

none_first : {A : Type 0} (o : Option A) → is_none o ≡ true → o ≡ None
none_first None e = refl
none_first (Some x) e = cc

pub counted : (rs : List ChunkRange) (size : Option ℕ) (e : BlockBytes) → failed_block_test rs size e ≡ None → chunk_total rs ≡ length e.offsets
counted rs size e passes = go (nat_eq (chunk_total rs) (length e.offsets)) refl passes
  where
    go : (b : Bool) → nat_eq (chunk_total rs) (length e.offsets) ≡ b → first_some (cond b None (Some (OffsetCount (chunk_total rs) (length e.offsets))) ∷ order_test e ∷ length_test size e ∷ []) ≡ None → chunk_total rs ≡ length e.offsets
    go true k h = eqb-true (chunk_total rs) (length e.offsets) k
    go false k h = absurd (cc)

-- what is read at a place of an entry
read_at : (rs : List ChunkRange) (size : Option ℕ) (e : BlockBytes) (i place : ℕ) → failed_block_test rs size e ≡ None → slice_get e.offsets i ≡ Some place
    → slice_get (zip (numbers_in rs) e.offsets) i ≡ Some (get_or (numbers_in rs) i 0, place)
read_at rs size e i place passes at =
    let c = counted rs size e passes in
    let l = length-numbers_in rs in
    let z = length-zip (numbers_in rs) e.offsets in
    let w = slice_get_within e.offsets i place at in
    let same = get_or_from_slice_get e.offsets i place 0 at in
    slice_get-get_or (zip (numbers_in rs) e.offsets) i (0, 0) (omega arith)
    ∙ ap (λ (c : ℕ × ℕ). Some c) (get_or-zip (numbers_in rs) e.offsets i (0, 0) (omega arith) (omega arith))
    ∙ ap (λ (n : ℕ). Some (get_or (numbers_in rs) i 0, n)) same

ends_in : (t : FileTerm) (rs : List ChunkRange) (e : BlockBytes) (place : ℕ) → place + t.offset_into_first_range + term_size t ≤ length e.bytes → end_test t (block_data rs e) place ≡ None
ends_in t rs e place h =
    ap (λ b. cond b (Some (TermPastBlock (min (place + t.offset_into_first_range + term_size t) (2 ^ 64 - 1)) (length e.bytes))) None)
    (le-ltb (length e.bytes) (place + t.offset_into_first_range + term_size t) h)

-- a term whose reference has all its bytes passes its test
passes_by : (t : FileTerm) (rs : List ChunkRange) (size : Option ℕ) (e : BlockBytes) (r : XorbReference) → failed_block_test rs size e ≡ None → has_reference rs e r ≡ true
    → t.xorb_block_start_index ≡ start_index rs r.term_chunks.start → t.offset_into_first_range + term_size t ≤ r.uncompressed_size → failed_term_test t (block_data rs e) ≡ None
passes_by t rs known e r passes has at size = go (slice_get e.offsets (start_index rs r.term_chunks.start)) refl has
  where
    go : (o : Option ℕ) → slice_get e.offsets (start_index rs r.term_chunks.start) ≡ o → ends_within (length e.bytes) r o ≡ true → failed_term_test t (block_data rs e) ≡ None
    go None k h = absurd (false≢true h)
    go (Some place) k h =
        let within = leb-true (place + r.uncompressed_size) (length e.bytes) h in
        let found = read_at rs known e t.xorb_block_start_index place passes (ap (slice_get e.offsets) at ∙ k) in
        ap (test_at t (block_data rs e)) found ∙ ends_in t rs e place (omega arith)

-- ---- the terms of a plan

abbrev FirstFits : ℕ → List PlanTerm → Type 0
FirstFits o [] = Unit {0}
FirstFits o (t ∷ ts) = o ≤ t.unpacked_length

module _ (p : Shape) (q : FileRange) (multi : Bool) (e : BlockBytes) where
  -- a term's reference has all its bytes where the entry passes the tests of the term's block
  abbrev HasBytes : PlanTerm → Type 0
  HasBytes u = (b : PlanBlock) (size : Option ℕ) → is_sound (block_ranges b) size (references p multi b) e ≡ true → same_block b (term_block p multi u) ≡ true → has_reference (block_ranges b) e (reference_of u) ≡ true

  has_bytes : All HasBytes p.terms
  has_bytes = λ k d h. λ b size sound same.
      let parts = and_parts (is_none (failed_block_test (block_ranges b) size e)) (list_all (has_reference (block_ranges b) e) (references p multi b)) sound in
      let all = sym (all_sorted (has_reference (block_ranges b) e) (map reference_of (filter (λ t. same_block b (term_block p multi t)) p.terms))) ∙ parts.1 in
      each_refers (λ t. same_block b (term_block p multi t)) (has_reference (block_ranges b) e) p.terms all k d h same

  term_passes : (place o : ℕ) (u : PlanTerm) → o ≤ u.unpacked_length → HasBytes u → PassesIn p multi e (file_term p q multi place o u)
  term_passes place o u fits has = λ b size at sound.
      let same = place_passes (λ b. same_block b (term_block p multi u)) (blocks_of p multi) b at in
      let parts = and_parts (is_none (failed_block_test (block_ranges b) size e)) (list_all (has_reference (block_ranges b) e) (references p multi b)) sound in
      let ranges : block_ranges b ≡ block_ranges (term_block p multi u) = (same_block-true b (term_block p multi u) same).1 in
      passes_by (file_term p q multi place o u) (block_ranges b) size e (reference_of u) (none_first (failed_block_test (block_ranges b) size e) parts.0) (has b size sound same)
      (ap (λ (rs : List ChunkRange). start_index rs u.range.start) (sym ranges)) (omega arith)

  terms_pass : (place o : ℕ) (us : List PlanTerm) → FirstFits o us → All HasBytes us → All (PassesIn p multi e) (terms_from p q multi place o us)
  terms_pass place o [] f a = All-nil (PassesIn p multi e)
  terms_pass place o (u ∷ us) f a =
      All-cons (PassesIn p multi e) (file_term p q multi place o u) (terms_from p q multi (place + (u.unpacked_length - o)) 0 us)
      (term_passes place o u f (All-head HasBytes u us a))
      (terms_pass (place + (u.unpacked_length - o)) 0 us (any_fits us) (All-tail HasBytes u us a))
    where
      any_fits : (us : List PlanTerm) → FirstFits 0 us
      any_fits [] = tt
      any_fits (u ∷ us) = omega arith

pub cached_terms_pass : CachedTermsPass
cached_terms_pass p q multi e a = terms_pass p q multi e q.start p.offset p.terms (first p.terms (tested p q multi a).offset) (has_bytes p q multi e)
  where
    first : (ts : List PlanTerm) → option_map (λ t. Offset p.offset t.unpacked_length) (find (λ t. nat_lt t.unpacked_length p.offset) (take 1 ts)) ≡ None → FirstFits p.offset ts
    first [] h = tt
    first (t ∷ ts) h = ltb-false t.unpacked_length p.offset (go (nat_lt t.unpacked_length p.offset) h)
      where
        go : (b : Bool) → option_map (λ t. Offset p.offset t.unpacked_length) (cond b (Some t) None) ≡ None → b ≡ false
        go false h = refl
        go true h = absurd (cc)
