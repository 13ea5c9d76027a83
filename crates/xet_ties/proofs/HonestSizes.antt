-- Each term of a valid store's plan has bytes.
use Rattle.std.proofs.Common.{◌≡◌, ◌⊎◌, inl, inr, ⊎_elim, ℕ, suc, ◌+◌, ◌-◌, ◌<◌, ◌≤◌, min, max, Bool, true, false, cond, List, [], ◌∷◌, ◌++◌, length, take, drop, map, refl, sym, ◌∙◌, ap, subst, arith, length-append, Some, Option}
use Rattle.std.specs.Prelude.{All, filter, find, option_map, slice_range, sum, unwrap_or}
use Rattle.std.specs.List.{concat, flat_map}
use Rattle.std.proofs.lemmas.Bool.{cases_lt, leb-true, leb-false, ltb-true, ltb-false, lt-ltb, le-ltb}
use Rattle.std.proofs.lemmas.List.{drop-drop, drop-take, length-take, take-take, take_all}
use Rattle.std.proofs.lemmas.List.Elements.{All-cons, All-drop, All-head, All-nil, All-tail, All-take}
use Rattle.xet_base.specs.declared.cas_types.FileRange.{FileRange}
use Rattle.xet_base.specs.declared.merklehash.MerkleHash.{MerkleHash}
use Rattle.xet_base.specs.declared.stored.StoredTerm.{StoredTerm}
use Rattle.xet_base.specs.Lists.{placed}
use Rattle.xet_base.specs.Store.{IsValid, Store, chunks_of, chunks_of_term, terms_of_file}
use Rattle.xet_outside.specs.declared.plan.PlanTerm.{PlanTerm}
use Rattle.xet_outside.specs.Plan.{Shape, cut_term, ends_before, lengths, placed_terms, plan_of, plan_offset, plan_terms, touches}
use Rattle.xet_outside.proofs.CallerLemmas.{Full, count_by-no, count_by-yes, full_chunks_of, has_chunks, keeps, offset_skip, skips, skips-keeps, skips_past, sum_lengths, touched_past}
use Rattle.xet_blocks.specs.declared.reconstruction_terms.file_term.FileTerm.{FileTerm}
use Rattle.xet_blocks.specs.Terms.{file_term, terms_from, terms_of}

-- ---- the touched chunks of one term of the file

-- how far into the range's first touched chunk it starts
abbrev offset_in : FileRange → ℕ → List (List ℕ) → ℕ
offset_in q p cs = unwrap_or (option_map (λ c. q.start - c.0) (find (touches q) (placed p (lengths cs)))) 0

-- the bytes of the chunks that end before the range, and of those that it touches
abbrev left : FileRange → ℕ → List (List ℕ) → ℕ
left q p cs = length (concat (take (skips q p cs) cs))

abbrev kept : FileRange → ℕ → List (List ℕ) → ℕ
kept q p cs = length (concat (take (keeps q p cs) (drop (skips q p cs) cs)))

-- past the range's start all chunks are touched that end within it
all_kept : (q : FileRange) (p : ℕ) (cs : List (List ℕ)) → Full cs → q.start ≤ p → p + length (concat cs) ≤ q.end → keeps q p cs ≡ length cs
all_kept q p [] f a b = refl
all_kept q p (c ∷ cs) f a b =
    let some : 0 < length c = All-head (λ c. 0 < length c) c cs f in
    let n = length-append c (concat cs) in
    let yes : touches q (p, length c) ≡ true = lt-ltb (max p q.start) (min (p + length c) q.end) (omega (arith, some, a, b, n)) in
    count_by-yes (touches q) (p, length c) (placed (p + length c) (lengths cs)) yes
    ∙ ap (λ (k : ℕ). suc k) (all_kept q (p + length c) cs (All-tail (λ c. 0 < length c) c cs f) (omega (arith, a)) (omega (arith, b, n)))

-- where some chunk is touched
record IsCut (q : FileRange) (p : ℕ) (cs : List (List ℕ)) : Type 0 where
  forward : q.start < q.end
  before : p + left q p cs < q.end
  after : q.start < (p + left q p cs) + kept q p cs
  some : 0 < kept q p cs
  low : p ≤ q.start → p + left q p cs ≤ q.start
  first : q.start ≤ p → left q p cs ≡ 0
  full : p + length (concat cs) < q.end → left q p cs + kept q p cs ≡ length (concat cs)
  offset : (ds : List (List ℕ)) → offset_in q p (cs ++ ds) ≡ q.start - (p + left q p cs)

cut_facts : (q : FileRange) (p : ℕ) (cs : List (List ℕ)) → Full cs → 0 < keeps q p cs → IsCut q p cs
cut_facts q p [] f h = absurd (omega (arith, h))
cut_facts q p (c ∷ cs) f h = go (ends_before q (p, length c)) refl (touches q (p, length c)) refl (λ k. cut_facts q (p + length c) cs (All-tail (λ c. 0 < length c) c cs f) k)
  where
    full_rest : Full cs
    full_rest = All-tail (λ c. 0 < length c) c cs f

    bytes : 0 < length c
    bytes = All-head (λ c. 0 < length c) c cs f

    later : List (List ℕ) → Option (ℕ × ℕ)
    later ds = find (touches q) (placed (p + length c) (lengths (cs ++ ds)))

    go : (x : Bool) → ends_before q (p, length c) ≡ x → (y : Bool) → touches q (p, length c) ≡ y → (0 < keeps q (p + length c) cs → IsCut q (p + length c) cs) → IsCut q p (c ∷ cs)
    go true e true g next =
        let w = leb-true (p + length c) q.start e in
        let v : max p q.start < min (p + length c) q.end = ltb-true (max p q.start) (min (p + length c) q.end) g in
        absurd (omega (arith, w, v))
    go false e false g next =
        let w : q.start < p + length c = leb-false (p + length c) q.start e in
        let v : min (p + length c) q.end ≤ max p q.start = ltb-false (max p q.start) (min (p + length c) q.end) g in
        let none = (touched_past q (p + length c) cs (omega (arith, w, v, bytes))).1 in
        let k = count_by-no (touches q) (p, length c) (placed (p + length c) (lengths cs)) g in
        absurd (omega (arith, h, none, k))
    go true e false g next =
        let w : p + length c ≤ q.start = leb-true (p + length c) q.start e in
        let sk = count_by-yes (ends_before q) (p, length c) (placed (p + length c) (lengths cs)) e in
        let k = count_by-no (touches q) (p, length c) (placed (p + length c) (lengths cs)) g in
        let n = next (omega (arith, h, k)) in
        let b : left q p (c ∷ cs) ≡ length c + left q (p + length c) cs = ap (λ (i : ℕ). length (concat (take i (c ∷ cs)))) sk ∙ length-append c (concat (take (skips q (p + length c) cs) cs)) in
        let d : kept q p (c ∷ cs) ≡ kept q (p + length c) cs = ap (λ (i : ℕ). length (concat (take (keeps q p (c ∷ cs)) (drop i (c ∷ cs))))) sk ∙ ap (λ (i : ℕ). length (concat (take i (drop (skips q (p + length c) cs) cs)))) k in
        let all = length-append c (concat cs) in
        let u = n.before in
        let v = n.after in
        let x = n.some in
        record {
          forward = n.forward;
          before = omega (arith, b, u);
          after = omega (arith, b, d, v);
          some = omega (arith, d, x);
          low = λ l. let y = n.low w in omega (arith, b, y);
          first = λ l. absurd (omega (arith, l, w, bytes));
          full = λ l. let y = n.full (omega (arith, all, l)) in omega (arith, b, d, y, all);
          offset = λ ds.
              ap (λ (v : Bool). unwrap_or (option_map (λ (c : ℕ × ℕ). q.start - c.0) (cond v (Some (p, length c)) (later ds))) 0) g
              ∙ n.offset ds
              ∙ (let y : (p + length c) + left q (p + length c) cs ≡ p + left q p (c ∷ cs) = omega (arith, b) in ap (λ (i : ℕ). q.start - i) y);
        }
    go false e true g next =
        let w : q.start < p + length c = leb-false (p + length c) q.start e in
        let v : max p q.start < min (p + length c) q.end = ltb-true (max p q.start) (min (p + length c) q.end) g in
        let sk : skips q p (c ∷ cs) ≡ 0 = count_by-no (ends_before q) (p, length c) (placed (p + length c) (lengths cs)) e ∙ skips_past q (p + length c) cs full_rest (omega (arith, w)) in
        let k = count_by-yes (touches q) (p, length c) (placed (p + length c) (lengths cs)) g in
        let b : left q p (c ∷ cs) ≡ 0 = ap (λ (i : ℕ). length (concat (take i (c ∷ cs)))) sk in
        let m = keeps q (p + length c) cs in
        let d : kept q p (c ∷ cs) ≡ length c + length (concat (take m cs)) =
        ap (λ (i : ℕ). length (concat (take (keeps q p (c ∷ cs)) (drop i (c ∷ cs))))) sk ∙ ap (λ (i : ℕ). length (concat (take i (c ∷ cs)))) k ∙ length-append c (concat (take m cs)) in
        let all = length-append c (concat cs) in
        record {
          forward = omega (arith, v);
          before = omega (arith, b, v);
          after = omega (arith, b, d, w);
          some = omega (arith, d, bytes);
          low = λ l. omega (arith, b, l);
          first = λ l. b;
          full = λ l.
              let every : m ≡ length cs = all_kept q (p + length c) cs full_rest (omega (arith, w)) (omega (arith, all, l)) in
              let same : length (concat (take m cs)) ≡ length (concat cs) = ap (λ (l : List (List ℕ)). length (concat l)) (take_all m cs (omega (arith, every))) in
              omega (arith, b, d, same, all);
          offset = λ ds.
              ap (λ (v : Bool). unwrap_or (option_map (λ (c : ℕ × ℕ). q.start - c.0) (cond v (Some (p, length c)) (later ds))) 0) g
              ∙ (let y : p ≡ p + left q p (c ∷ cs) = omega (arith, b) in ap (λ (i : ℕ). q.start - i) y);
        }

-- where no chunk is touched, though the range starts among them, it is empty
crossed : (q : FileRange) (p : ℕ) (cs : List (List ℕ)) → keeps q p cs ≡ 0 → p ≤ q.start → q.start < p + length (concat cs) → q.end ≤ q.start
crossed q p [] k a b = absurd (omega (arith, a, b))
crossed q p (c ∷ cs) k a b = go (touches q (p, length c)) refl (λ i j l. crossed q (p + length c) cs i j l)
  where
    go : (y : Bool) → touches q (p, length c) ≡ y → (keeps q (p + length c) cs ≡ 0 → p + length c ≤ q.start → q.start < (p + length c) + length (concat cs) → q.end ≤ q.start) → q.end ≤ q.start
    go true g next = let n = count_by-yes (touches q) (p, length c) (placed (p + length c) (lengths cs)) g in absurd (omega (arith, k, n))
    go false g next =
        let n = count_by-no (touches q) (p, length c) (placed (p + length c) (lengths cs)) g in
        let v : min (p + length c) q.end ≤ max p q.start = ltb-false (max p q.start) (min (p + length c) q.end) g in
        ⊎_elim
        (λ (l : q.start < p + length c). omega (arith, v, l, a))
        (λ (l : p + length c ≤ q.start). next (omega (arith, k, n)) l (let m = length-append c (concat cs) in omega (arith, b, m)))
        (cases_lt q.start (p + length c))

-- ---- the terms of a plan

slice_inner : {A : Type 0} (xs : List A) (from to k m : ℕ) → k + m ≤ to - from → slice_range xs (from + k) (from + k + m) ≡ take m (drop k (slice_range xs from to))
slice_inner xs from to k m h =
    let e1 : (from + k + m) - (from + k) ≡ m = omega arith in
    let e2 = drop-drop k from xs in
    let n : k + ((to - from) - k) ≡ to - from = omega arith in
    let e3 = drop-take k ((to - from) - k) (drop from xs) in
    let e4 = take-take m ((to - from) - k) (drop k (drop from xs)) (omega arith) in
    cc

-- a cut term has the touched bytes
cut_length : (s : Store) (q : FileRange) (p : ℕ) (t : StoredTerm) → (cut_term s q (p, t)).unpacked_length ≡ kept q p (chunks_of_term s t)
cut_length s q p t =
    let cs = chunks_of_term s t in
    let bound = skips-keeps q p cs in
    let size = length-take (t.to - t.from) (drop t.from (chunks_of s t.xorb)) in
    sum_lengths (slice_range (chunks_of s t.xorb) (t.from + skips q p cs) (t.from + skips q p cs + keeps q p cs))
    ∙ ap (λ (l : List (List ℕ)). length (concat l)) (slice_inner (chunks_of s t.xorb) t.from t.to (skips q p cs) (keeps q p cs) (omega (arith, bound, size)))

abbrev cut_terms : Store → FileRange → ℕ → List StoredTerm → List PlanTerm
cut_terms s q p ts = filter has_chunks (map (cut_term s q) (placed_terms s p ts))

abbrev AllFull : Store → List StoredTerm → Type 0
AllFull s ts = All (λ t. Full (chunks_of_term s t)) ts

-- past the range's end, and of an empty range, there are none
none_cut : (s : Store) (q : FileRange) (p : ℕ) (ts : List StoredTerm) → q.end ≤ max p q.start → cut_terms s q p ts ≡ []
none_cut s q p [] h = refl
none_cut s q p (t ∷ ts) h = go (has_chunks (cut_term s q (p, t))) refl (none_cut s q (p + sum (lengths (chunks_of_term s t))) ts (omega (arith, h)))
  where
    cs : List (List ℕ)
    cs = chunks_of_term s t

    none : (i : ℕ) (ds : List (List ℕ)) → q.end ≤ max i q.start → keeps q i ds ≡ 0
    none i [] k = refl
    none i (d ∷ ds) k =
        let no_touch : touches q (i, length d) ≡ false = le-ltb (max i q.start) (min (i + length d) q.end) (omega (arith, k)) in
        count_by-no (touches q) (i, length d) (placed (i + length d) (lengths ds)) no_touch ∙ none (i + length d) ds (omega (arith, k))

    go : (v : Bool) → has_chunks (cut_term s q (p, t)) ≡ v → cut_terms s q (p + sum (lengths cs)) ts ≡ [] → cond v (cut_term s q (p, t) ∷ cut_terms s q (p + sum (lengths cs)) ts) (cut_terms s q (p + sum (lengths cs)) ts) ≡ []
    go false e r = r
    go true e r = let some = ltb-true (cut_term s q (p, t)).range.start (cut_term s q (p, t)).range.end e in let k = none p cs h in absurd (omega (arith, some, k))

-- each of the terms from a place on, the first less an offset, begins before the range's end and has bytes
abbrev HaveBytes : FileRange → ℕ → ℕ → List PlanTerm → Type 0
HaveBytes q place o [] = Unit {0}
HaveBytes q place o (u ∷ us) = (o < u.unpacked_length) × (place < q.end) × HaveBytes q (place + (u.unpacked_length - o)) 0 us

none_have : (q : FileRange) (place o : ℕ) (us : List PlanTerm) → us ≡ [] → HaveBytes q place o us
none_have q place o us e = subst (HaveBytes q place o) (sym e) tt

-- past the range's start
have_after : (s : Store) (q : FileRange) (p : ℕ) (ts : List StoredTerm) → AllFull s ts → q.start ≤ p → HaveBytes q p 0 (cut_terms s q p ts)
have_after s q p [] f a = tt
have_after s q p (t ∷ ts) f a = go (has_chunks here) refl (have_after s q (p + sum (lengths cs)) ts (All-tail (λ t. Full (chunks_of_term s t)) t ts f) (omega (arith, a)))
  where
    cs : List (List ℕ)
    cs = chunks_of_term s t

    here : PlanTerm
    here = cut_term s q (p, t)

    rest : List PlanTerm
    rest = cut_terms s q (p + sum (lengths cs)) ts

    full : Full cs
    full = All-head (λ t. Full (chunks_of_term s t)) t ts f

    next_is : p + sum (lengths cs) ≡ p + length (concat cs)
    next_is = ap (λ (n : ℕ). p + n) (sum_lengths cs)

    -- no chunk is touched
    skip : (ds : List (List ℕ)) → Full ds → keeps q p ds ≡ 0 → (p + length (concat ds) ≡ p) ⊎ (q.end ≤ p)
    skip [] w k = inl (omega arith)
    skip (d ∷ ds) w k = by (touches q (p, length d)) refl (All-head (λ c. 0 < length c) d ds w)
      where
        by : (y : Bool) → touches q (p, length d) ≡ y → 0 < length d → (p + length (concat (d ∷ ds)) ≡ p) ⊎ (q.end ≤ p)
        by true g l = let n = count_by-yes (touches q) (p, length d) (placed (p + length d) (lengths ds)) g in absurd (omega (arith, k, n))
        by false g l =
            let v : min (p + length d) q.end ≤ max p q.start = ltb-false (max p q.start) (min (p + length d) q.end) g in
            inr (omega (arith, v, l, a))

    go : (v : Bool) → has_chunks here ≡ v → HaveBytes q (p + sum (lengths cs)) 0 rest → HaveBytes q p 0 (cond v (here ∷ rest) rest)
    go false e r =
        let none = ltb-false here.range.start here.range.end e in
        ⊎_elim
        (λ (same : p + length (concat cs) ≡ p). subst (λ (i : ℕ). HaveBytes q i 0 rest) (next_is ∙ same) r)
        (λ (l : q.end ≤ p). none_have q p 0 rest (none_cut s q (p + sum (lengths cs)) ts (omega (arith, l))))
        (skip cs full (omega (arith, none)))
    go true e r =
        let some = ltb-true here.range.start here.range.end e in
        let c = cut_facts q p cs full (omega (arith, some)) in
        let size = cut_length s q p t in
        let first = c.first a in
        let x = c.some in
        let y = c.before in (
          omega (arith, size, x),
          omega (arith, first, y),
          ⊎_elim
              (λ (l : p + length (concat cs) < q.end).
              let whole = c.full l in
              let same : p + sum (lengths cs) ≡ p + (here.unpacked_length - 0) = omega (arith, whole, first, size, next_is) in
              subst (λ (i : ℕ). HaveBytes q i 0 rest) same r)
              (λ (l : q.end ≤ p + length (concat cs)). none_have q (p + (here.unpacked_length - 0)) 0 rest (none_cut s q (p + sum (lengths cs)) ts (omega (arith, l, next_is))))
              (cases_lt (p + length (concat cs)) q.end),
        )

-- from the file's start on
have_first : (s : Store) (q : FileRange) (p : ℕ) (ts : List StoredTerm) → AllFull s ts → p ≤ q.start → HaveBytes q q.start (offset_in q p (flat_map (chunks_of_term s) ts)) (cut_terms s q p ts)
have_first s q p [] f a = tt
have_first s q p (t ∷ ts) f a = go (has_chunks here) refl (λ l. have_first s q (p + sum (lengths cs)) ts full_rest l)
  where
    cs : List (List ℕ)
    cs = chunks_of_term s t

    ds : List (List ℕ)
    ds = flat_map (chunks_of_term s) ts

    here : PlanTerm
    here = cut_term s q (p, t)

    rest : List PlanTerm
    rest = cut_terms s q (p + sum (lengths cs)) ts

    full : Full cs
    full = All-head (λ t. Full (chunks_of_term s t)) t ts f

    full_rest : AllFull s ts
    full_rest = All-tail (λ t. Full (chunks_of_term s t)) t ts f

    next_is : p + sum (lengths cs) ≡ p + length (concat cs)
    next_is = ap (λ (n : ℕ). p + n) (sum_lengths cs)

    go : (v : Bool) → has_chunks here ≡ v → (p + sum (lengths cs) ≤ q.start → HaveBytes q q.start (offset_in q (p + sum (lengths cs)) ds) rest) → HaveBytes q q.start (offset_in q p (cs ++ ds)) (cond v (here ∷ rest) rest)
    go false e r =
        let none = ltb-false here.range.start here.range.end e in
        let z : keeps q p cs ≡ 0 = omega (arith, none) in
        ⊎_elim
        (λ (l : q.start < p + length (concat cs)).
        let empty = crossed q p cs z a l in
        none_have q q.start (offset_in q p (cs ++ ds)) rest (none_cut s q (p + sum (lengths cs)) ts (omega (arith, empty))))
        (λ (l : p + length (concat cs) ≤ q.start).
        let same : offset_in q (p + sum (lengths cs)) ds ≡ offset_in q p (cs ++ ds) = ap (λ (n : ℕ). offset_in q n ds) next_is ∙ sym (offset_skip q p cs ds z) in
        subst (λ (o : ℕ). HaveBytes q q.start o rest) same (r (omega (arith, l, next_is))))
        (cases_lt q.start (p + length (concat cs)))
    go true e r =
        let some = ltb-true here.range.start here.range.end e in
        let c = cut_facts q p cs full (omega (arith, some)) in
        let size = cut_length s q p t in
        let o = c.offset ds in
        let low = c.low a in
        let after = c.after in (
          omega (arith, size, o, low, after),
          c.forward,
          ⊎_elim
              (λ (l : p + length (concat cs) < q.end).
              let whole = c.full l in
              let same : p + sum (lengths cs) ≡ q.start + (here.unpacked_length - offset_in q p (cs ++ ds)) = omega (arith, whole, size, o, low, after, next_is) in
              subst (λ (i : ℕ). HaveBytes q i 0 rest) same (have_after s q (p + sum (lengths cs)) ts full_rest (omega (arith, whole, after, next_is))))
              (λ (l : q.end ≤ p + length (concat cs)). none_have q (q.start + (here.unpacked_length - offset_in q p (cs ++ ds))) 0 rest (none_cut s q (p + sum (lengths cs)) ts (omega (arith, l, next_is))))
              (cases_lt (p + length (concat cs)) q.end),
        )

full_terms : (s : Store) → IsValid s → (ts : List StoredTerm) → AllFull s ts
full_terms s v ts = λ k d h. All-take (λ c. 0 < length c) _ _ (All-drop (λ c. 0 < length c) _ _ (full_chunks_of s v _))

-- a term of a plan has bytes
abbrev pub HasLength : FileTerm → Type 0
HasLength t = t.byte_range.start < t.byte_range.end

have_length : (p : Shape) (q : FileRange) (multi : Bool) (place o : ℕ) (us : List PlanTerm) → HaveBytes q place o us → All HasLength (terms_from p q multi place o us)
have_length p q multi place o [] h = All-nil HasLength
have_length p q multi place o (u ∷ us) h =
    let a = h.0 in
    let b = h.1 in
    All-cons HasLength (file_term p q multi place o u) (terms_from p q multi (place + (u.unpacked_length - o)) 0 us) (omega (arith, a, b)) (have_length p q multi (place + (u.unpacked_length - o)) 0 us h.2)

pub terms_have_length : (s : Store) → IsValid s → (f : MerkleHash) (q : FileRange) (multi : Bool) → All HasLength (terms_of (plan_of s f q) q multi)
terms_have_length s v f q multi = have_length (plan_of s f q) q multi q.start (plan_offset s f q) (plan_terms s f q) (have_first s q 0 (terms_of_file s f) (full_terms s v (terms_of_file s f)) (omega arith))
