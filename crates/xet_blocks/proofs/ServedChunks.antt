-- Where each block of an honest plan was served, so was each chunk of the file that has a byte in the range.
use Rattle.std.proofs.Common.{◌≡◌, inl, inr, ℕ, zero, suc, ◌+◌, ◌-◌, ◌<◌, ◌≤◌, min, max, Bool, true, false, cond, List, [], ◌∷◌, filter, get_or, length, map, refl, sym, ◌∙◌, ap, subst, arith}
use Rattle.std.specs.Prelude.{All, MatchOption, Option, slice_get}
use Rattle.std.specs.List.{flat_map, position_or_len}
use Rattle.std.proofs.lemmas.Bool.{false≢true, leb-true, leb-false, ltb-true, ltb-false, lt-ltb}
use Rattle.std.proofs.lemmas.List.{length-map}
use Rattle.std.proofs.lemmas.List.Elements.{All-append, All-cons, All-drop, All-head, All-nil, All-tail, All-take}
use Rattle.xet_base.specs.declared.cas_types.ChunkRange.{ChunkRange}
use Rattle.xet_base.specs.declared.cas_types.FileRange.{FileRange}
use Rattle.xet_base.specs.declared.merklehash.MerkleHash.{MerkleHash}
use Rattle.xet_base.specs.declared.stored.StoredTerm.{StoredTerm}
use Rattle.xet_base.specs.Lists.{placed}
use Rattle.xet_base.specs.Ranges.{Covers}
use Rattle.xet_base.specs.Store.{Store, IsValid, bytes_of, chunks_of, chunks_of_term, terms_of_file}
use Rattle.xet_outside.specs.declared.plan.PlanTerm.{PlanTerm}
use Rattle.xet_outside.specs.Plan.{Shape, cut_term, ends_before, lengths, placed_terms, plan_of, plan_terms, touches}
use Rattle.xet_outside.specs.declared.served.Served.{Served}
use Rattle.xet_outside.proofs.CallerLemmas.{Full, count_by-cons, count_by-no, count_by-yes, full_chunks_of, has_chunks, keeps, skips, skips_past, touched_past}
use Rattle.xet_offers.specs.Blocks.{PlanBlock, block_ranges, blocks_of, same_block, term_block}
use Rattle.xet_blocks.specs.Laws.{IsServedBlock, IsServedTerm, ServedChunks}
use Rattle.xet_blocks.specs.Terms.{terms_from, terms_of}
use Rattle.xet_blocks.specs.declared.reconstruction_terms.file_term.FileTerm.{FileTerm}
use Rattle.xet_blocks.specs.ServedChunks.{AllServed, FileChunk, IsServedIn, chunks_from, part_of}
use Rattle.xet_blocks.proofs.HonestBlocks.{block_listed}
use Rattle.xet_blocks.proofs.HonestBlockTests.{length-placed}

-- ---- a touched chunk is among those that a cut term has

abbrev one : Bool → ℕ
one z = cond z 1 0

touched_at : (q : FileRange) (p : ℕ) (cs : List (List ℕ)) → Full cs → (j : ℕ) (d : ℕ × ℕ) → j < length cs → touches q (get_or (placed p (lengths cs)) j d) ≡ true → (skips q p cs ≤ j) × (j < skips q p cs + keeps q p cs)
touched_at q p [] f j d l h = absurd (omega arith)
touched_at q p (c ∷ cs) f zero d l h =
    let some : 0 < length c = All-head (λ c. 0 < length c) c cs f in
    let w : max p q.start < min (p + length c) q.end = ltb-true (max p q.start) (min (p + length c) q.end) h in
    let none : ends_before q (p, length c) ≡ false = not_before (ends_before q (p, length c)) refl w in
    let skip = count_by-no (ends_before q) (p, length c) (placed (p + length c) (lengths cs)) none in
    let past = skips_past q (p + length c) cs (All-tail (λ c. 0 < length c) c cs f) (omega (arith, w)) in
    let keep = count_by-yes (touches q) (p, length c) (placed (p + length c) (lengths cs)) h in
    (omega (arith, skip, past), omega (arith, skip, past, keep))
  where
    not_before : (b : Bool) → ends_before q (p, length c) ≡ b → max p q.start < min (p + length c) q.end → b ≡ false
    not_before false e w = refl
    not_before true e w = absurd (omega (arith, leb-true (p + length c) q.start e, w))
touched_at q p (c ∷ cs) f (suc j) d l h =
    let some : 0 < length c = All-head (λ c. 0 < length c) c cs f in
    let full = All-tail (λ c. 0 < length c) c cs f in
    let next = touched_at q (p + length c) cs full j d (omega arith) h in
    let a = count_by-cons (ends_before q) (p, length c) (placed (p + length c) (lengths cs)) in
    let b = count_by-cons (touches q) (p, length c) (placed (p + length c) (lengths cs)) in
    go (ends_before q (p, length c)) refl (touches q (p, length c)) refl some full next.0 next.1 a b
  where
    rest : ℕ
    rest = keeps q (p + length c) cs

    go : (x : Bool) → ends_before q (p, length c) ≡ x → (y : Bool) → touches q (p, length c) ≡ y → 0 < length c → Full cs
        → skips q (p + length c) cs ≤ j → j < skips q (p + length c) cs + rest
        → skips q p (c ∷ cs) ≡ cond (ends_before q (p, length c)) 1 0 + skips q (p + length c) cs
        → keeps q p (c ∷ cs) ≡ cond (touches q (p, length c)) 1 0 + rest
        → (skips q p (c ∷ cs) ≤ suc j) × (suc j < skips q p (c ∷ cs) + keeps q p (c ∷ cs))
    go true e true g some full low high a b =
        let w = leb-true (p + length c) q.start e in
        let v : max p q.start < min (p + length c) q.end = ltb-true (max p q.start) (min (p + length c) q.end) g in
        absurd (omega (arith, w, v))
    go true e false g some full low high a b =
        let x = ap one e in
        let y = ap one g in
        (omega (arith, a, x, low), omega (arith, a, b, x, y, high))
    go false e true g some full low high a b =
        let x = ap one e in
        let y = ap one g in
        let w : q.start < p + length c = leb-false (p + length c) q.start e in
        let past = skips_past q (p + length c) cs full (omega (arith, w)) in
        (omega (arith, a, x, past), omega (arith, a, b, x, y, past, high))
    go false e false g some full low high a b =
        let w : q.start < p + length c = leb-false (p + length c) q.start e in
        let v : min (p + length c) q.end ≤ max p q.start = ltb-false (max p q.start) (min (p + length c) q.end) g in
        let past = skips_past q (p + length c) cs full (omega (arith, w)) in
        let none = (touched_past q (p + length c) cs (omega (arith, w, v, some))).1 in
        absurd (omega (arith, past, none, high))

-- ---- the block numbers of terms

length-terms_from : (p : Shape) (q : FileRange) (multi : Bool) (place o : ℕ) (ts : List PlanTerm) → length (terms_from p q multi place o ts) ≡ length ts
length-terms_from p q multi place o [] = refl
length-terms_from p q multi place o (t ∷ ts) = ap (λ (k : ℕ). suc k) (length-terms_from p q multi (place + (t.unpacked_length - o)) 0 ts)

number_of : (p : Shape) (q : FileRange) (multi : Bool) (place o : ℕ) (ts : List PlanTerm) (i : ℕ) (d : PlanTerm) (e : FileTerm) → i < length ts
    → (get_or (terms_from p q multi place o ts) i e).xorb_block ≡ position_or_len (λ b. same_block b (term_block p multi (get_or ts i d))) (blocks_of p multi)
number_of p q multi place o [] i d e l = absurd (omega arith)
number_of p q multi place o (t ∷ ts) zero d e l = refl
number_of p q multi place o (t ∷ ts) (suc i) d e l = number_of p q multi (place + (t.unpacked_length - o)) 0 ts i d e (omega arith)

-- ---- each chunk of a term

chunk_at : (x : MerkleHash) (k : ℕ) (cs : List (ℕ × ℕ)) (i : ℕ) (d : FileChunk) (e : ℕ × ℕ) → i < length cs → get_or (chunks_from x k cs) i d ≡ (x, k + i, (get_or cs i e).0, (get_or cs i e).1)
chunk_at x k [] i d e l = absurd (omega arith)
chunk_at x k (c ∷ cs) zero d e l = let n : k ≡ k + 0 = omega arith in ap (λ (m : ℕ). (x, m, c.0, c.1)) n
chunk_at x k (c ∷ cs) (suc i) d e l =
    let n : suc k + i ≡ k + suc i = omega arith in
    chunk_at x (suc k) cs i d e (omega arith) ∙ ap (λ (m : ℕ). (x, m, (get_or cs i e).0, (get_or cs i e).1)) n

length-chunks_from : (x : MerkleHash) (k : ℕ) (cs : List (ℕ × ℕ)) → length (chunks_from x k cs) ≡ length cs
length-chunks_from x k [] = refl
length-chunks_from x k (c ∷ cs) = ap (λ (n : ℕ). suc n) (length-chunks_from x (suc k) cs)

-- what holds of what passes
unfilter : {A : Type 0} (p : A → Bool) (Q : A → Type 0) (xs : List A) → All Q (filter p xs) → All (λ x. p x ≡ true → Q x) xs
unfilter p Q [] h = All-nil (λ x. p x ≡ true → Q x)
unfilter p Q (x ∷ xs) h = go (p x) refl h (λ g. unfilter p Q xs g)
  where
    go : (b : Bool) → p x ≡ b → All Q (cond b (x ∷ filter p xs) (filter p xs)) → (All Q (filter p xs) → All (λ x. p x ≡ true → Q x) xs) → All (λ x. p x ≡ true → Q x) (x ∷ xs)
    go true e g next = All-cons (λ x. p x ≡ true → Q x) x xs (λ _. All-head Q x (filter p xs) g) (next (All-tail Q x (filter p xs) g))
    go false e g next = All-cons (λ x. p x ≡ true → Q x) x xs (λ t. absurd (false≢true (sym e ∙ t))) (next g)

unmap : {A B : Type 0} (f : A → B) (Q : B → Type 0) (xs : List A) → All Q (map f xs) → All (λ x. Q (f x)) xs
unmap f Q [] h = All-nil (λ x. Q (f x))
unmap f Q (x ∷ xs) h = All-cons (λ x. Q (f x)) x xs (All-head Q (f x) (map f xs) h) (unmap f Q xs (All-tail Q (f x) (map f xs) h))

covers_part : (u v a b : ℕ) (rs : List ChunkRange) → u ≤ a → b ≤ v → Covers u v rs → Covers a b rs
covers_part u v a b [] l m c = absurd c
covers_part u v a b (r ∷ rs) l m (inl d) = let x = d.0 in let y = d.1 in inl (omega (arith, x), omega (arith, y))
covers_part u v a b (r ∷ rs) l m (inr d) = inr (covers_part u v a b rs l m d)

-- a range with a nearer end touches no more
wider : (q : FileRange) (n : ℕ) (c : ℕ × ℕ) → touches (record { start = q.start; end = min q.end n }) c ≡ true → touches q c ≡ true
wider q n c h = lt-ltb (max c.0 q.start) (min (c.0 + c.1) q.end) (omega (arith, ltb-true (max c.0 q.start) (min (c.0 + c.1) (min q.end n)) h))

module _ (s : Store) (valid : IsValid s) (f : MerkleHash) (q : FileRange) (multi : Bool) (es : List Served) (served : All (IsServedTerm (plan_of s f q) multi es) (terms_of (plan_of s f q) q multi)) where
  -- each chunk of a plan's term is served
  abbrev HasAll : PlanTerm → Type 0
  HasAll t = (k : ℕ) → t.range.start ≤ k → k < t.range.end → IsServedIn es t.xorb k

  terms_served : All HasAll (plan_terms s f q)
  terms_served i d l k low high =
      let t = get_or (plan_terms s f q) i d in
      let bs = blocks_of (plan_of s f q) multi in
      let n = position_or_len (λ b. same_block b (term_block (plan_of s f q) multi t)) bs in
      let listed = block_listed s f q multi i d l in
      let b = listed.0 in
      let fits = listed.3 in
      let p = plan_of s f q in
      let none : FileTerm = record { byte_range = record { start = 0; end = 0 }; xorb_chunk_range = record { start = 0; end = 0 }; xorb_block_start_index = 0; offset_into_first_range = 0; xorb_block = 0 } in
      let ts = plan_terms s f q in
      let long = length-terms_from p q multi q.start p.offset ts in
      let number : (get_or (terms_of p q multi) i none).xorb_block ≡ n = number_of p q multi q.start p.offset ts i d none l in
      let here = served i none (omega (arith, l, long)) in
      let is : IsServedBlock es b = subst (λ (o : Option PlanBlock). MatchOption o ⊥ (IsServedBlock es)) (ap (λ (k : ℕ). slice_get bs k) number ∙ listed.1) here in
      let covers = subst (λ (rs : List ChunkRange). Covers k (suc k) rs) (sym is.3) (covers_part t.range.start t.range.end k (suc k) (block_ranges b) low (omega arith) fits.covers) in
      (is.0, is.1, (is.2 ∙ fits.xorb, covers))

  abbrev IsChunkServed : FileChunk → Type 0
  IsChunkServed c = touches (part_of s f q) (c.2, c.3) ≡ true → IsServedIn es c.0 c.1

  full_term : (t : StoredTerm) → Full (chunks_of_term s t)
  full_term t = All-take (λ c. 0 < length c) (t.to - t.from) _ (All-drop (λ c. 0 < length c) t.from (chunks_of s t.xorb) (full_chunks_of s valid t.xorb))

  chunks_served : (t : ℕ × StoredTerm) → (has_chunks (cut_term s q t) ≡ true → HasAll (cut_term s q t)) → All IsChunkServed (chunks_from t.1.xorb t.1.from (placed t.0 (lengths (chunks_of_term s t.1))))
  chunks_served t has i d l =
      let cs = chunks_of_term s t.1 in
      let ps = placed t.0 (lengths cs) in
      let none : ℕ × ℕ = (0, 0) in
      let long = length-chunks_from t.1.xorb t.1.from ps in
      let few = length-placed t.0 (lengths cs) in
      let many = length-map cs (λ (c : List ℕ). length c) in
      let low : i < length cs = omega (arith, l, long, few, many) in
      subst IsChunkServed (sym (chunk_at t.1.xorb t.1.from ps i d none (omega (arith, low, few, many)))) (λ h.
      let at = touched_at q t.0 cs (full_term t.1) i none low (wider q (length (bytes_of s f)) (get_or ps i none) h) in
      let a = at.0 in let b = at.1 in
      has (lt-ltb (cut_term s q t).range.start (cut_term s q t).range.end (omega (arith, a, b))) (t.1.from + i) (omega (arith, a)) (omega (arith, b)))

  file_served : (ts : List (ℕ × StoredTerm)) → All (λ t. has_chunks (cut_term s q t) ≡ true → HasAll (cut_term s q t)) ts
      → All IsChunkServed (flat_map (λ t. chunks_from t.1.xorb t.1.from (placed t.0 (lengths (chunks_of_term s t.1)))) ts)
  file_served [] h = All-nil IsChunkServed
  file_served (t ∷ ts) h =
      All-append IsChunkServed _ _
      (chunks_served t (All-head (λ t. has_chunks (cut_term s q t) ≡ true → HasAll (cut_term s q t)) t ts h))
      (file_served ts (All-tail (λ t. has_chunks (cut_term s q t) ≡ true → HasAll (cut_term s q t)) t ts h))

  pub all_served : AllServed s f q es
  all_served =
      file_served (placed_terms s 0 (terms_of_file s f))
      (unmap (cut_term s q) (λ t. has_chunks t ≡ true → HasAll t) (placed_terms s 0 (terms_of_file s f))
      (unfilter has_chunks HasAll (map (cut_term s q) (placed_terms s 0 (terms_of_file s f))) terms_served))

pub served_chunks : ServedChunks
served_chunks s v f q multi es h = all_served s v f q multi es h
