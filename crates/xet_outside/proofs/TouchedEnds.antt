-- Where the touched chunks begin and end.
use Rattle.std.proofs.Common.{◌≡◌, ℕ, ◌+◌, ◌-◌, ◌^◌, ◌≤◌, ◌<◌, Bool, true, false, cond, List, [], ◌∷◌, ◌++◌, length, min, max, refl, sym, ◌∙◌, ap, arith, map, subst}
use Rattle.std.specs.Prelude.{Some, Option, find, option_map, unwrap_or, filter, sum, All, slice_range}
use Rattle.std.specs.List.{concat, flat_map}
use Rattle.std.proofs.lemmas.Bool.{ltb-true, ltb-false}
use Rattle.std.proofs.lemmas.List.{length-append}
use Rattle.std.proofs.lemmas.List.Elements.{All-head, All-tail, All-take, All-drop}
use Rattle.xet_base.specs.declared.merklehash.MerkleHash.{MerkleHash}
use Rattle.xet_base.specs.declared.cas_types.FileRange.{FileRange}
use Rattle.xet_base.specs.declared.stored.StoredTerm.{StoredTerm}
use Rattle.xet_base.specs.declared.stored.StoredFile.{StoredFile}
use Rattle.xet_base.specs.Hashes.{hash_eq}
use Rattle.xet_base.specs.Lists.{placed}
use Rattle.xet_base.specs.Store.{Store, IsValid, chunks_of, chunks_of_term, chunks_of_file, terms_of_file, bytes_of}
use Rattle.xet_base.proofs.CallerLemmas.{hash_eq-true, length-slice_range}
use Rattle.xet_outside.specs.declared.plan.PlanTerm.{PlanTerm}
use Rattle.xet_outside.specs.Plan.{touches, lengths, cut_term, placed_terms, plan_terms, plan_offset}
use Rattle.xet_outside.proofs.TouchedWindows.{touched, offset_in}
use Rattle.xet_outside.proofs.TermChunks.{Full, sum_lengths, term_bytes, cut_chunks, keeps, count_by-yes, count_by-no}
use Rattle.xet_outside.proofs.PlanWindows.{has_chunks, full_terms, full_chunks_of, planned_bytes}
use Rattle.xet_outside.proofs.PlanTerms.{IsPlanTerm, plan_terms_are, cut_size}

-- the place of the first touched chunk, or of the end where there is none
abbrev first_place : FileRange → ℕ → List (List ℕ) → ℕ
first_place q p cs = unwrap_or (option_map (λ c. c.0) (find (touches q) (placed p (lengths cs)))) (p + length (concat cs))

touched_size : (q : FileRange) (p : ℕ) (cs : List (List ℕ)) → length (concat (touched q p cs)) ≤ length (concat cs)
touched_size q p [] = omega arith
touched_size q p (c ∷ cs) = go (touches q (p, length c)) (touched_size q (p + length c) cs)
  where
    go : (b : Bool) → length (concat (touched q (p + length c) cs)) ≤ length (concat cs)
        → length (concat (cond b (c ∷ touched q (p + length c) cs) (touched q (p + length c) cs))) ≤ length (c ++ concat cs)
    go true h = omega (arith, h, length-append c (concat (touched q (p + length c) cs)), length-append c (concat cs))
    go false h = omega (arith, h, length-append c (concat cs))

-- the three facts on one list of chunks
record IsPlaced (q : FileRange) (p : ℕ) (cs : List (List ℕ)) : Type 0 where
  after : p ≤ first_place q p cs
  before : first_place q p cs + length (concat (touched q p cs)) ≤ p + length (concat cs)
  within : 0 < keeps q p cs → first_place q p cs < q.end
  offset : 0 < keeps q p cs → q.start ≤ offset_in q p cs + first_place q p cs

is_placed : (q : FileRange) (p : ℕ) (cs : List (List ℕ)) → IsPlaced q p cs
is_placed q p [] = record { after = omega arith; before = omega arith; within = λ h. absurd (omega arith); offset = λ h. absurd (omega arith) }
is_placed q p (c ∷ cs) = go (touches q (p, length c)) refl (is_placed q (p + length c) cs)
  where
    ts : List (List ℕ)
    ts = touched q (p + length c) cs

    more : Option (ℕ × ℕ)
    more = find (touches q) (placed (p + length c) (lengths cs))

    shift : (e : ℕ) → e ≡ p + length (c ++ concat cs) → first_place q (p + length c) cs ≡ unwrap_or (option_map (λ (c : ℕ × ℕ). c.0) more) e
    shift e h = let k : p + length c + length (concat cs) ≡ e = omega (arith, h, length-append c (concat cs)) in ap (λ (n : ℕ). unwrap_or (option_map (λ (c : ℕ × ℕ). c.0) more) n) k

    go : (b : Bool) → touches q (p, length c) ≡ b → IsPlaced q (p + length c) cs → IsPlaced q p (c ∷ cs)
    go true e next =
        let yes : max p q.start < min (p + length c) q.end = ltb-true _ _ e in
        let f : first_place q p (c ∷ cs) ≡ p = ap (λ b. unwrap_or (option_map (λ (c : ℕ × ℕ). c.0) (cond b (Some (p, length c)) more)) (p + length (c ++ concat cs))) e in
        let o : offset_in q p (c ∷ cs) ≡ q.start - p = ap (λ b. unwrap_or (option_map (λ (c : ℕ × ℕ). q.start - c.0) (cond b (Some (p, length c)) more)) 0) e in
        let t : length (concat (touched q p (c ∷ cs))) ≡ length (c ++ concat ts) = ap (λ b. length (concat (cond b (c ∷ ts) ts))) e in
        let s = touched_size q (p + length c) cs in
        record {
          after = omega (arith, f);
          before = omega (arith, f, t, s, length-append c (concat ts), length-append c (concat cs));
          within = λ _. omega (arith, f, yes);
          offset = λ _. omega (arith, f, o);
        }
    go false e next =
        let f : first_place q p (c ∷ cs) ≡ first_place q (p + length c) cs = ap (λ b. unwrap_or (option_map (λ (c : ℕ × ℕ). c.0) (cond b (Some (p, length c)) more)) (p + length (c ++ concat cs))) e ∙ sym (shift (p + length (c ++ concat cs)) refl) in
        let o : offset_in q p (c ∷ cs) ≡ offset_in q (p + length c) cs = ap (λ b. unwrap_or (option_map (λ (c : ℕ × ℕ). q.start - c.0) (cond b (Some (p, length c)) more)) 0) e in
        let t : length (concat (touched q p (c ∷ cs))) ≡ length (concat ts) = ap (λ b. length (concat (cond b (c ∷ ts) ts))) e in
        let k = count_by-no (touches q) (p, length c) (placed (p + length c) (lengths cs)) e in
        let a1 = next.after in let a2 = next.before in
        record {
          after = omega (arith, f, a1);
          before = omega (arith, f, t, a2, length-append c (concat cs));
          within = λ h. let w = next.within (omega (arith, h, k)) in omega (arith, f, w);
          offset = λ h. let w = next.offset (omega (arith, h, k)) in omega (arith, f, o, w);
        }

place_skip : (q : FileRange) (p : ℕ) (cs ds : List (List ℕ)) → keeps q p cs ≡ 0 → first_place q p (cs ++ ds) ≡ first_place q (p + length (concat cs)) ds
place_skip q p [] ds h = let e : p ≡ p + 0 = omega arith in ap (λ (n : ℕ). first_place q n ds) e
place_skip q p (c ∷ cs) ds h = go (touches q (p, length c)) refl (λ k. place_skip q (p + length c) cs ds k)
  where
    more : Option (ℕ × ℕ)
    more = find (touches q) (placed (p + length c) (lengths (cs ++ ds)))

    go : (b : Bool) → touches q (p, length c) ≡ b
        → (keeps q (p + length c) cs ≡ 0 → first_place q (p + length c) (cs ++ ds) ≡ first_place q (p + length c + length (concat cs)) ds)
        → unwrap_or (option_map (λ (c : ℕ × ℕ). c.0) (cond b (Some (p, length c)) more)) (p + length (c ++ concat (cs ++ ds)))
        ≡ first_place q (p + length (c ++ concat cs)) ds
    go true e next = absurd (omega (arith, h, count_by-yes (touches q) (p, length c) (placed (p + length c) (lengths cs)) e))
    go false e next =
        let f : p + length c + length (concat cs) ≡ p + length (c ++ concat cs) = omega (arith, length-append c (concat cs)) in
        let g : p + length (c ++ concat (cs ++ ds)) ≡ p + length c + length (concat (cs ++ ds)) = omega (arith, length-append c (concat (cs ++ ds))) in
        ap (λ (n : ℕ). unwrap_or (option_map (λ (c : ℕ × ℕ). c.0) more) n) g
        ∙ next (sym (count_by-no (touches q) (p, length c) (placed (p + length c) (lengths cs)) e) ∙ h) ∙ ap (λ (n : ℕ). first_place q n ds) f

place_here : (q : FileRange) (p : ℕ) (cs ds : List (List ℕ)) → 0 < keeps q p cs → first_place q p (cs ++ ds) ≡ first_place q p cs
place_here q p [] ds h = absurd (omega arith)
place_here q p (c ∷ cs) ds h = go (touches q (p, length c)) refl (λ k. place_here q (p + length c) cs ds k)
  where
    one : Option (ℕ × ℕ)
    one = find (touches q) (placed (p + length c) (lengths (cs ++ ds)))

    two : Option (ℕ × ℕ)
    two = find (touches q) (placed (p + length c) (lengths cs))

    go : (b : Bool) → touches q (p, length c) ≡ b
        → (0 < keeps q (p + length c) cs → first_place q (p + length c) (cs ++ ds) ≡ first_place q (p + length c) cs)
        → unwrap_or (option_map (λ (c : ℕ × ℕ). c.0) (cond b (Some (p, length c)) one)) (p + length (c ++ concat (cs ++ ds)))
        ≡ unwrap_or (option_map (λ (c : ℕ × ℕ). c.0) (cond b (Some (p, length c)) two)) (p + length (c ++ concat cs))
    go true e next = refl
    go false e next =
        let f : p + length c + length (concat cs) ≡ p + length (c ++ concat cs) = omega (arith, length-append c (concat cs)) in
        let g : p + length (c ++ concat (cs ++ ds)) ≡ p + length c + length (concat (cs ++ ds)) = omega (arith, length-append c (concat (cs ++ ds))) in
        ap (λ (n : ℕ). unwrap_or (option_map (λ (c : ℕ × ℕ). c.0) one) n) g
        ∙ next (omega (arith, h, count_by-no (touches q) (p, length c) (placed (p + length c) (lengths cs)) e))
        ∙ ap (λ (n : ℕ). unwrap_or (option_map (λ (c : ℕ × ℕ). c.0) two) n) f

-- the length of the last term
abbrev pub last_length : List PlanTerm → ℕ
last_length [] = 0
last_length (t ∷ []) = t.unpacked_length
last_length (t ∷ u ∷ us) = last_length (u ∷ us)

-- the terms of a plan from a place on, and what is known of their end
abbrev cut_terms : Store → FileRange → ℕ → List StoredTerm → List PlanTerm
cut_terms s q p ts = filter has_chunks (map (cut_term s q) (placed_terms s p ts))

abbrev EndsBy : FileRange → ℕ → List PlanTerm → Type 0
EndsBy q n [] = Unit {0}
EndsBy q n (t ∷ ts) = n ≤ q.end + last_length (t ∷ ts)

ends_by : (s : Store) (q : FileRange) (p : ℕ) (ts : List StoredTerm) → All (λ t. Full (chunks_of_term s t)) ts
    → EndsBy q (first_place q p (flat_map (chunks_of_term s) ts) + length (flat_map (term_bytes s) (cut_terms s q p ts))) (cut_terms s q p ts)
ends_by s q p [] f = tt
ends_by s q p (t ∷ ts) f =
    go (has_chunks (cut_term s q (p, t))) refl
    (subst (λ (n : ℕ). EndsBy q (first_place q n ds + length (flat_map (term_bytes s) rest)) rest) (ap (λ n. p + n) (sum_lengths cs)) (ends_by s q (p + sum (lengths cs)) ts (All-tail (λ t. Full (chunks_of_term s t)) t ts f)))
  where
    cs : List (List ℕ)
    cs = chunks_of_term s t

    ds : List (List ℕ)
    ds = flat_map (chunks_of_term s) ts

    rest : List PlanTerm
    rest = cut_terms s q (p + sum (lengths cs)) ts

    here : PlanTerm
    here = cut_term s q (p, t)

    go : (b : Bool) → has_chunks here ≡ b → EndsBy q (first_place q (p + length (concat cs)) ds + length (flat_map (term_bytes s) rest)) rest
        → EndsBy q (first_place q p (cs ++ ds) + length (flat_map (term_bytes s) (cond b (here ∷ rest) rest))) (cond b (here ∷ rest) rest)
    go false e next =
        let none = ltb-false _ _ e in
        let z : keeps q p cs ≡ 0 = omega (arith, none) in
        subst (λ (n : ℕ). EndsBy q (n + length (flat_map (term_bytes s) rest)) rest) (sym (place_skip q p cs ds z)) next
    go true e next =
        let some = ltb-true _ _ e in
        let k : 0 < keeps q p cs = omega (arith, some) in
        let a = is_placed q p cs in
        let b = is_placed q (p + length (concat cs)) ds in
        let w = a.within k in let a2 = a.before in let b1 = b.after in
        let size = cut_size s q (p, t) in
        let bytes = ap length (cut_chunks s q p t (All-head (λ t. Full (chunks_of_term s t)) t ts f)) in
        let at = place_here q p cs ds k in
        let joined = length-append (term_bytes s here) (flat_map (term_bytes s) rest) in
        by_rest rest next (omega (arith, w, at, size, bytes)) (omega (arith, at, a2, b1, bytes)) joined
      where
        by_rest : (us : List PlanTerm) → EndsBy q (first_place q (p + length (concat cs)) ds + length (flat_map (term_bytes s) us)) us
            → first_place q p (cs ++ ds) + length (term_bytes s here) ≤ q.end + here.unpacked_length
            → first_place q p (cs ++ ds) + length (term_bytes s here) ≤ first_place q (p + length (concat cs)) ds
            → length (term_bytes s here ++ flat_map (term_bytes s) us) ≡ length (term_bytes s here) + length (flat_map (term_bytes s) us)
            → first_place q p (cs ++ ds) + length (term_bytes s here ++ flat_map (term_bytes s) us) ≤ q.end + last_length (here ∷ us)
        by_rest [] n one two j = omega (arith, one, j)
        by_rest (u ∷ us) n one two j = omega (arith, n, two, j)

-- ---- of a whole plan

-- a file is shorter than 2 ^ 64
pub file_short : (s : Store) → IsValid s → (f : MerkleHash) → length (bytes_of s f) < 2 ^ 64
file_short s v f = among s.files v.lengths (λ x e. ap (λ (h : MerkleHash). length (bytes_of s h)) e) refl
  where
    among : (fs : List StoredFile) → All (λ x. length (bytes_of s x.hash) < 2 ^ 64) fs → ((x : StoredFile) → x.hash ≡ f → length (bytes_of s x.hash) ≡ length (bytes_of s f))
        → terms_of_file s f ≡ unwrap_or (option_map (λ (x : StoredFile). x.terms) (find (λ (x : StoredFile). hash_eq x.hash f) fs)) [] → length (bytes_of s f) < 2 ^ 64
    among [] a same e = let z : length (bytes_of s f) ≡ 0 = ap (λ (ts : List StoredTerm). length (concat (flat_map (chunks_of_term s) ts))) e in omega (arith, z)
    among (x ∷ fs) a same e = go (hash_eq x.hash f) refl e (λ k. among fs (All-tail (λ x. length (bytes_of s x.hash) < 2 ^ 64) x fs a) same k)
      where
        go : (b : Bool) → hash_eq x.hash f ≡ b → terms_of_file s f ≡ unwrap_or (option_map (λ (x : StoredFile). x.terms) (cond b (Some x) (find (λ (x : StoredFile). hash_eq x.hash f) fs))) []
            → (terms_of_file s f ≡ unwrap_or (option_map (λ (x : StoredFile). x.terms) (find (λ (x : StoredFile). hash_eq x.hash f) fs)) [] → length (bytes_of s f) < 2 ^ 64) → length (bytes_of s f) < 2 ^ 64
        go true h k next = omega (arith, same x (hash_eq-true x.hash f h), All-head (λ x. length (bytes_of s x.hash) < 2 ^ 64) x fs a)
        go false h k next = next k

-- a plan with terms has bytes, ends within the file, and its last term begins before the range's end
pub record IsWithin (s : Store) (f : MerkleHash) (q : FileRange) : Type 0 where
  pub short : q.start + length (flat_map (term_bytes s) (plan_terms s f q)) < 2 ^ 64 + plan_offset s f q
  pub last : q.start + length (flat_map (term_bytes s) (plan_terms s f q)) ≤ q.end + plan_offset s f q + last_length (plan_terms s f q)
  pub forward : q.start < q.end

touched_forward : (q : FileRange) (p : ℕ) (cs : List (List ℕ)) → 0 < keeps q p cs → q.start < q.end
touched_forward q p [] h = absurd (omega arith)
touched_forward q p (c ∷ cs) h = go (touches q (p, length c)) refl (λ k. touched_forward q (p + length c) cs k)
  where
    go : (b : Bool) → touches q (p, length c) ≡ b → (0 < keeps q (p + length c) cs → q.start < q.end) → q.start < q.end
    go true e next = let yes : max p q.start < min (p + length c) q.end = ltb-true _ _ e in omega arith
    go false e next = next (omega (arith, h, count_by-no (touches q) (p, length c) (placed (p + length c) (lengths cs)) e))

some_touched : (q : FileRange) (p : ℕ) (cs : List (List ℕ)) → 0 < length (concat (touched q p cs)) → 0 < keeps q p cs
some_touched q p [] h = absurd (omega arith)
some_touched q p (c ∷ cs) h = go (touches q (p, length c)) refl h (λ k. some_touched q (p + length c) cs k)
  where
    go : (b : Bool) → touches q (p, length c) ≡ b → 0 < length (concat (cond b (c ∷ touched q (p + length c) cs) (touched q (p + length c) cs)))
        → (0 < length (concat (touched q (p + length c) cs)) → 0 < keeps q (p + length c) cs) → 0 < keeps q p (c ∷ cs)
    go true e h next = omega (arith, count_by-yes (touches q) (p, length c) (placed (p + length c) (lengths cs)) e)
    go false e h next = let n = next h in omega (arith, n, count_by-no (touches q) (p, length c) (placed (p + length c) (lengths cs)) e)

full_some : (cs : List (List ℕ)) → Full cs → 0 < length cs → 0 < length (concat cs)
full_some [] f h = absurd (omega arith)
full_some (c ∷ cs) f h = omega (arith, All-head (λ c. 0 < length c) c cs f, length-append c (concat cs))

-- a plan's term has bytes
term_some : (s : Store) → IsValid s → (t : PlanTerm) → IsPlanTerm s t → 0 < length (term_bytes s t)
term_some s v t is =
    let some : t.range.start < t.range.end = is.some in
    let inside : t.range.end ≤ length (chunks_of s t.xorb) = is.inside in
    full_some (slice_range (chunks_of s t.xorb) t.range.start t.range.end)
    (All-take (λ c. 0 < length c) _ _ (All-drop (λ c. 0 < length c) _ _ (full_chunks_of s v t.xorb)))
    (omega (arith, length-slice_range (chunks_of s t.xorb) t.range.start t.range.end))

pub plan_within : (s : Store) → IsValid s → (f : MerkleHash) (q : FileRange) → 0 < length (plan_terms s f q) → IsWithin s f q
plan_within s v f q h =
    let cs = chunks_of_file s f in
    let full = full_terms s v (terms_of_file s f) in
    let all = ap length (planned_bytes s q 0 (terms_of_file s f) full) in
    let bytes : 0 < length (flat_map (term_bytes s) (plan_terms s f q)) = some_bytes (plan_terms s f q) (plan_terms_are s f q) h in
    let kept : 0 < keeps q 0 cs = some_touched q 0 cs (omega (arith, all, bytes)) in
    let is = is_placed q 0 cs in
    let off = is.offset kept in
    let bef = is.before in
    let short = file_short s v f in
    let by = ends_by s q 0 (terms_of_file s f) full in
    record {
      short = omega (arith, off, bef, short, all);
      last = last_by (plan_terms s f q) h by off;
      forward = touched_forward q 0 cs kept;
    }
  where
    some_bytes : (ts : List PlanTerm) → All (IsPlanTerm s) ts → 0 < length ts → 0 < length (flat_map (term_bytes s) ts)
    some_bytes [] a h = absurd (omega arith)
    some_bytes (t ∷ ts) a h = omega (arith, term_some s v t (All-head (IsPlanTerm s) t ts a), length-append (term_bytes s t) (flat_map (term_bytes s) ts))

    last_by : (ts : List PlanTerm) → 0 < length ts → EndsBy q (first_place q 0 (chunks_of_file s f) + length (flat_map (term_bytes s) ts)) ts
        → q.start ≤ plan_offset s f q + first_place q 0 (chunks_of_file s f)
        → q.start + length (flat_map (term_bytes s) ts) ≤ q.end + plan_offset s f q + last_length ts
    last_by [] h e o = absurd (omega arith)
    last_by (t ∷ ts) h e o = omega (arith, e, o)
