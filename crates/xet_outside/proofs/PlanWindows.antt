-- The bytes of a plan's terms, less the offset and up to the range's length, are the window.
use Rattle.std.proofs.Common.{◌≡◌, ℕ, ◌+◌, ◌-◌, ◌≤◌, ◌<◌, Bool, true, false, cond, List, [], ◌∷◌, ◌++◌, length, take, drop, refl, sym, ◌∙◌, ap, arith, map, ltb}
use Rattle.std.specs.Prelude.{Some, find, option_map, unwrap_or, filter, sum, All}
use Rattle.std.specs.List.{concat, flat_map}
use Rattle.std.proofs.lemmas.Bool.{ltb-false}
use Rattle.std.proofs.lemmas.List.{length-append}
use Rattle.std.proofs.lemmas.List.Elements.{All-head, All-tail, All-nil, All-take, All-drop}
use Rattle.std.proofs.lemmas.List.Folds.{concat-append}
use Rattle.xet_base.specs.declared.merklehash.MerkleHash.{MerkleHash}
use Rattle.xet_base.specs.declared.cas_types.FileRange.{FileRange}
use Rattle.xet_base.specs.declared.mdb_shard.Xorb.{Xorb}
use Rattle.xet_base.specs.declared.stored.StoredTerm.{StoredTerm}
use Rattle.xet_base.specs.Hashes.{hash_eq}
use Rattle.xet_base.specs.Store.{Store, chunks_of, chunks_of_term, chunks_of_file, terms_of_file, window, IsValid, IsValidXorb, bytes_of}
use Rattle.xet_outside.specs.declared.plan.PlanTerm.{PlanTerm}
use Rattle.xet_outside.specs.Plan.{touches, lengths, cut_term, placed_terms, plan_terms, plan_offset}
use Rattle.xet_outside.proofs.TouchedWindows.{touched, touched_part}
use Rattle.xet_outside.proofs.TermChunks.{Full, sum_lengths, term_bytes, cut_chunks}

touched-append : (q : FileRange) (p : ℕ) (xs ys : List (List ℕ)) → touched q p (xs ++ ys) ≡ touched q p xs ++ touched q (p + length (concat xs)) ys
touched-append q p [] ys = let e : p ≡ p + 0 = omega arith in ap (λ (n : ℕ). touched q n ys) e
touched-append q p (c ∷ xs) ys =
    let e : p + length c + length (concat xs) ≡ p + length (c ++ concat xs) = omega (arith, length-append c (concat xs)) in
    step (touches q (p, length c)) _ _ _ (touched-append q (p + length c) xs ys ∙ ap (λ (n : ℕ). touched q (p + length c) xs ++ touched q n ys) e)
  where
    step : (b : Bool) (us bs cs : List (List ℕ)) → us ≡ bs ++ cs → cond b (c ∷ us) us ≡ cond b (c ∷ bs) bs ++ cs
    step true us bs cs e = ap (λ r. c ∷ r) e
    step false us bs cs e = e

-- a term without chunks has no bytes
abbrev pub has_chunks : PlanTerm → Bool
has_chunks t = ltb t.range.start t.range.end

no_bytes : (s : Store) (t : PlanTerm) → has_chunks t ≡ false → term_bytes s t ≡ []
no_bytes s t e =
    let h : t.range.end ≤ t.range.start = ltb-false _ _ e in
    let z : t.range.end - t.range.start ≡ 0 = omega arith in
    ap (λ (n : ℕ). concat (take n (drop t.range.start (chunks_of s t.xorb)))) z

-- the bytes of the plan's terms for some terms of the file that stand from a place on
pub planned_bytes : (s : Store) (q : FileRange) (p : ℕ) (ts : List StoredTerm) → All (λ t. Full (chunks_of_term s t)) ts
    → flat_map (term_bytes s) (filter has_chunks (map (cut_term s q) (placed_terms s p ts))) ≡ concat (touched q p (flat_map (chunks_of_term s) ts))
planned_bytes s q p [] f = refl
planned_bytes s q p (t ∷ ts) f =
    let cs = chunks_of_term s t in
    let e : p + sum (lengths cs) ≡ p + length (concat cs) = ap (λ n. p + n) (sum_lengths cs) in
    let next = planned_bytes s q (p + sum (lengths cs)) ts (All-tail (λ t. Full (chunks_of_term s t)) t ts f) in
    let here = cut_chunks s q p t (All-head (λ t. Full (chunks_of_term s t)) t ts f) in
    step (has_chunks (cut_term s q (p, t))) refl
    ∙ ap (λ r. term_bytes s (cut_term s q (p, t)) ++ r) (next ∙ ap (λ (n : ℕ). concat (touched q n (flat_map (chunks_of_term s) ts))) e)
    ∙ ap (λ r. r ++ concat (touched q (p + length (concat cs)) (flat_map (chunks_of_term s) ts))) here
    ∙ sym (concat-append (touched q p cs) (touched q (p + length (concat cs)) (flat_map (chunks_of_term s) ts)))
    ∙ ap concat (sym (touched-append q p cs (flat_map (chunks_of_term s) ts)))
  where
    rest : List PlanTerm
    rest = filter has_chunks (map (cut_term s q) (placed_terms s (p + sum (lengths (chunks_of_term s t))) ts))

    step : (b : Bool) → has_chunks (cut_term s q (p, t)) ≡ b → flat_map (term_bytes s) (cond b (cut_term s q (p, t) ∷ rest) rest) ≡ term_bytes s (cut_term s q (p, t)) ++ flat_map (term_bytes s) rest
    step true e = refl
    step false e = ap (λ r. r ++ flat_map (term_bytes s) rest) (sym (no_bytes s (cut_term s q (p, t)) e))

-- each chunk of a stored xorb has a byte
pub full_chunks_of : (s : Store) → IsValid s → (h : MerkleHash) → Full (chunks_of s h)
full_chunks_of s v h = among s.xorbs v.xorbs
  where
    among : (xs : List Xorb) → All IsValidXorb xs → Full (unwrap_or (option_map (λ (x : Xorb). x.chunks) (find (λ (x : Xorb). hash_eq x.hash h) xs)) [])
    among [] a = All-nil (λ c. 0 < length c)
    among (x ∷ xs) a = pick (hash_eq x.hash h) (All-head IsValidXorb x xs a).nonempty (among xs (All-tail IsValidXorb x xs a))
      where
        pick : (b : Bool) → Full x.chunks → Full (unwrap_or (option_map (λ (x : Xorb). x.chunks) (find (λ (x : Xorb). hash_eq x.hash h) xs)) []) → Full (unwrap_or (option_map (λ (x : Xorb). x.chunks) (cond b (Some x) (find (λ (x : Xorb). hash_eq x.hash h) xs))) [])
        pick true f g = f
        pick false f g = g

pub full_terms : (s : Store) → IsValid s → (ts : List StoredTerm) → All (λ t. Full (chunks_of_term s t)) ts
full_terms s v ts = λ k d h.
    All-take (λ c. 0 < length c) _ _ (All-drop (λ c. 0 < length c) _ _ (full_chunks_of s v _))

-- the bytes of the plan's terms, less the offset and up to the range's length, are the window
pub planned_window : (s : Store) → IsValid s → (f : MerkleHash) (q : FileRange)
    → take (q.end - q.start) (drop (plan_offset s f q) (flat_map (term_bytes s) (plan_terms s f q))) ≡ window s f q
planned_window s v f q =
    let all = planned_bytes s q 0 (terms_of_file s f) (full_terms s v (terms_of_file s f)) in
    let part = touched_part q 0 (chunks_of_file s f) (omega arith) in
    let z : q.start - 0 ≡ q.start = omega arith in
    ap (λ (xs : List ℕ). take (q.end - q.start) (drop (plan_offset s f q) xs)) all
    ∙ part ∙ ap (λ (n : ℕ). take (q.end - q.start) (drop n (bytes_of s f))) z
