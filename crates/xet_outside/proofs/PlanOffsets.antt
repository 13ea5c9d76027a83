-- A plan's offset lies within its first term.
use Rattle.std.proofs.Common.{◌≡◌, ℕ, ◌+◌, ◌-◌, ◌≤◌, ◌<◌, Bool, true, false, cond, List, [], ◌∷◌, ◌++◌, length, min, max, refl, sym, ◌∙◌, ap, arith, map, subst}
use Rattle.std.specs.Prelude.{Some, find, option_map, unwrap_or, filter, sum, All}
use Rattle.std.specs.List.{concat, flat_map}
use Rattle.std.proofs.lemmas.Bool.{ltb-true, ltb-false}
use Rattle.std.proofs.lemmas.List.{length-append}
use Rattle.std.proofs.lemmas.List.Elements.{All-head, All-tail}
use Rattle.xet_base.specs.declared.merklehash.MerkleHash.{MerkleHash}
use Rattle.xet_base.specs.declared.cas_types.FileRange.{FileRange}
use Rattle.xet_base.specs.declared.stored.StoredTerm.{StoredTerm}
use Rattle.xet_base.specs.Lists.{placed}
use Rattle.xet_base.specs.Store.{Store, IsValid, chunks_of_term, terms_of_file}
use Rattle.xet_outside.specs.declared.plan.PlanTerm.{PlanTerm}
use Rattle.xet_outside.specs.Plan.{touches, lengths, cut_term, placed_terms, plan_terms, plan_offset}
use Rattle.xet_outside.proofs.TouchedWindows.{touched, offset_in}
use Rattle.xet_outside.proofs.TermChunks.{Full, sum_lengths, cut_chunks, keeps, count_by-yes, count_by-no}
use Rattle.xet_outside.proofs.PlanWindows.{has_chunks, full_terms}
use Rattle.xet_outside.proofs.PlanTerms.{cut_size}

pub offset_skip : (q : FileRange) (p : ℕ) (cs ds : List (List ℕ)) → keeps q p cs ≡ 0 → offset_in q p (cs ++ ds) ≡ offset_in q (p + length (concat cs)) ds
offset_skip q p [] ds h = let e : p ≡ p + 0 = omega arith in ap (λ (n : ℕ). offset_in q n ds) e
offset_skip q p (c ∷ cs) ds h = go (touches q (p, length c)) refl (λ k. offset_skip q (p + length c) cs ds k)
  where
    go : (b : Bool) → touches q (p, length c) ≡ b
        → (keeps q (p + length c) cs ≡ 0 → offset_in q (p + length c) (cs ++ ds) ≡ offset_in q (p + length c + length (concat cs)) ds)
        → unwrap_or (option_map (λ (c : ℕ × ℕ). q.start - c.0) (cond b (Some (p, length c)) (find (touches q) (placed (p + length c) (lengths (cs ++ ds)))))) 0
        ≡ offset_in q (p + length (c ++ concat cs)) ds
    go true e next = absurd (omega (arith, h, count_by-yes (touches q) (p, length c) (placed (p + length c) (lengths cs)) e))
    go false e next =
        let f : p + length c + length (concat cs) ≡ p + length (c ++ concat cs) = omega (arith, length-append c (concat cs)) in
        next (sym (count_by-no (touches q) (p, length c) (placed (p + length c) (lengths cs)) e) ∙ h) ∙ ap (λ (n : ℕ). offset_in q n ds) f

offset_here : (q : FileRange) (p : ℕ) (cs ds : List (List ℕ)) → 0 < keeps q p cs → offset_in q p (cs ++ ds) ≤ length (concat (touched q p cs))
offset_here q p [] ds h = absurd (omega arith)
offset_here q p (c ∷ cs) ds h = go (touches q (p, length c)) refl (λ k. offset_here q (p + length c) cs ds k)
  where
    go : (b : Bool) → touches q (p, length c) ≡ b
        → (0 < keeps q (p + length c) cs → offset_in q (p + length c) (cs ++ ds) ≤ length (concat (touched q (p + length c) cs)))
        → unwrap_or (option_map (λ (c : ℕ × ℕ). q.start - c.0) (cond b (Some (p, length c)) (find (touches q) (placed (p + length c) (lengths (cs ++ ds)))))) 0
        ≤ length (concat (cond b (c ∷ touched q (p + length c) cs) (touched q (p + length c) cs)))
    go true e next =
        let yes : max p q.start < min (p + length c) q.end = ltb-true _ _ e in
        omega (arith, length-append c (concat (touched q (p + length c) cs)))
    go false e next = next (omega (arith, h, count_by-no (touches q) (p, length c) (placed (p + length c) (lengths cs)) e))

-- the offset is at most the first term's length
abbrev pub FirstFits : ℕ → List PlanTerm → Type 0
FirstFits o [] = Unit {0}
FirstFits o (t ∷ ts) = o ≤ t.unpacked_length

first_fits : (s : Store) (q : FileRange) (p : ℕ) (ts : List StoredTerm) → All (λ t. Full (chunks_of_term s t)) ts
    → FirstFits (offset_in q p (flat_map (chunks_of_term s) ts)) (filter has_chunks (map (cut_term s q) (placed_terms s p ts)))
first_fits s q p [] f = tt
first_fits s q p (t ∷ ts) f =
    go (has_chunks (cut_term s q (p, t))) refl (first_fits s q (p + sum (lengths (chunks_of_term s t))) ts (All-tail (λ t. Full (chunks_of_term s t)) t ts f))
  where
    ds : List (List ℕ)
    ds = flat_map (chunks_of_term s) ts

    rest : List PlanTerm
    rest = filter has_chunks (map (cut_term s q) (placed_terms s (p + sum (lengths (chunks_of_term s t))) ts))

    go : (b : Bool) → has_chunks (cut_term s q (p, t)) ≡ b → FirstFits (offset_in q (p + sum (lengths (chunks_of_term s t))) ds) rest
        → FirstFits (offset_in q p (chunks_of_term s t ++ ds)) (cond b (cut_term s q (p, t) ∷ rest) rest)
    go true e next =
        let some = ltb-true _ _ e in
        let fits = offset_here q p (chunks_of_term s t) ds (omega (arith, some)) in
        omega (arith, fits, cut_size s q (p, t), ap length (cut_chunks s q p t (All-head (λ t. Full (chunks_of_term s t)) t ts f)))
    go false e next =
        let none = ltb-false _ _ e in
        let z : keeps q p (chunks_of_term s t) ≡ 0 = omega (arith, none) in
        let w : offset_in q (p + sum (lengths (chunks_of_term s t))) ds ≡ offset_in q p (chunks_of_term s t ++ ds) =
        ap (λ (n : ℕ). offset_in q (p + n) ds) (sum_lengths (chunks_of_term s t)) ∙ sym (offset_skip q p (chunks_of_term s t) ds z) in
        subst (λ (n : ℕ). FirstFits n rest) w next

pub offset_fits : (s : Store) → IsValid s → (f : MerkleHash) (q : FileRange) → FirstFits (plan_offset s f q) (plan_terms s f q)
offset_fits s v f q = first_fits s q 0 (terms_of_file s f) (full_terms s v (terms_of_file s f))
