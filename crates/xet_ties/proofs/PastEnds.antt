-- Past a file's end a store's plan has no terms.
use Rattle.std.proofs.Common.{◌≡◌, ℕ, ◌+◌, ◌-◌, ◌<◌, ◌≤◌, min, max, false, List, [], ◌∷◌, length, take, drop, refl, sym, subst, ◌∙◌, ap, arith, length-append, None, Option}
use Rattle.std.specs.Prelude.{All, find, option_map, slice_range, unwrap_or}
use Rattle.std.specs.List.{concat, flat_map}
use Rattle.std.proofs.lemmas.Bool.{le-ltb}
use Rattle.std.proofs.lemmas.List.{length-take}
use Rattle.std.proofs.lemmas.List.Elements.{All-drop, All-head, All-take}
use Rattle.xet_base.specs.declared.cas_types.FileRange.{FileRange}
use Rattle.xet_base.specs.declared.merklehash.MerkleHash.{MerkleHash}
use Rattle.xet_base.specs.Lists.{placed}
use Rattle.xet_base.specs.Store.{IsValid, Store, bytes_of, chunks_of, chunks_of_file, window}
use Rattle.xet_base.proofs.CallerLemmas.{length-slice_range}
use Rattle.xet_outside.specs.declared.plan.PlanTerm.{PlanTerm}
use Rattle.xet_outside.specs.Plan.{lengths, plan_of, plan_offset, plan_terms, touches}
use Rattle.xet_outside.proofs.CallerLemmas.{Full, IsPlanTerm, full_chunks_of, plan_terms_are, plan_within, planned_window, term_bytes}

-- no chunk touches a range that starts at or past the end of all
none_touched : (q : FileRange) (p : ℕ) (cs : List (List ℕ)) → p + length (concat cs) ≤ q.start → find (touches q) (placed p (lengths cs)) ≡ None
none_touched q p [] h = refl
none_touched q p (c ∷ cs) h =
    let n = length-append c (concat cs) in
    let no : touches q (p, length c) ≡ false = le-ltb (max p q.start) (min (p + length c) q.end) (omega (arith, n, h)) in
    let rest = none_touched q (p + length c) cs (omega (arith, n, h)) in
    rw no rest

full_some : (cs : List (List ℕ)) → Full cs → 0 < length cs → 0 < length (concat cs)
full_some [] f h = absurd (omega arith)
full_some (c ∷ cs) f h = omega (arith, All-head (λ c. 0 < length c) c cs f, length-append c (concat cs))

term_some : (s : Store) → IsValid s → (t : PlanTerm) → IsPlanTerm s t → 0 < length (term_bytes s t)
term_some s v t is =
    let some : t.range.start < t.range.end = is.some in
    let inside : t.range.end ≤ length (chunks_of s t.xorb) = is.inside in
    full_some (slice_range (chunks_of s t.xorb) t.range.start t.range.end)
    (All-take (λ c. 0 < length c) _ _ (All-drop (λ c. 0 < length c) _ _ (full_chunks_of s v t.xorb)))
    (omega (arith, length-slice_range (chunks_of s t.xorb) t.range.start t.range.end))

pub past_none : (s : Store) → IsValid s → (f : MerkleHash) (q : FileRange) → length (bytes_of s f) ≤ q.start → (plan_of s f q).terms ≡ []
past_none s v f q past = by (plan_terms s f q) refl
  where
    by : (ts : List PlanTerm) → plan_terms s f q ≡ ts → plan_terms s f q ≡ []
    by [] e = e
    by (t ∷ ts) e =
        let some : 0 < length (plan_terms s f q) = (let n = ap (λ (l : List PlanTerm). length l) e in omega (arith, n)) in
        let forward : q.start < q.end = (plan_within s v f q some).forward in
        let is : IsPlanTerm s t = All-head (IsPlanTerm s) t ts (subst (λ (l : List PlanTerm). All (IsPlanTerm s) l) e (plan_terms_are s f q)) in
        let bytes = term_some s v t is in
        let all = flat_map (term_bytes s) (plan_terms s f q) in
        let long : 0 < length all = (let n = ap (λ (l : List PlanTerm). length (flat_map (term_bytes s) l)) e in let m = length-append (term_bytes s t) (flat_map (term_bytes s) ts) in omega (arith, n, m, bytes)) in
        let none : plan_offset s f q ≡ 0 = ap (λ (o : Option (ℕ × ℕ)). unwrap_or (option_map (λ (c : ℕ × ℕ). q.start - c.0) o) 0) (none_touched q 0 (chunks_of_file s f) (omega (arith, past))) in
        let whole : take (q.end - q.start) all ≡ window s f q = sym (ap (λ (n : ℕ). take (q.end - q.start) (drop n all)) none) ∙ planned_window s v f q in
        let size = ap (λ (l : List ℕ). length l) whole in
        let cut = length-take (q.end - q.start) all in
        let w = length-slice_range (bytes_of s f) q.start q.end in
        absurd (omega (arith, size, cut, w, long, forward, past))
