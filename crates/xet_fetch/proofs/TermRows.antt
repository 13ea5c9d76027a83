-- The terms of an accepted plan follow one another, from the query's start to where the plan ends.
use Rattle.std.proofs.Common.{◌≡◌, ℕ, ◌+◌, ◌-◌, ◌≤◌, ◌<◌, Bool, true, false, cond, List, [], ◌∷◌, length, min, refl, sym, ◌∙◌, ap, arith, map, subst}
use Rattle.std.specs.Prelude.{Some, None, option_and_then, sum, nat_lt}
use Rattle.std.specs.List.{last_or}
use Rattle.std.proofs.lemmas.Bool.{ltb-false}
use Rattle.std.proofs.lemmas.List.Sums.{sum_by-cons}
use Rattle.xet_base.specs.declared.cas_types.FileRange.{FileRange}
use Rattle.xet_outside.specs.declared.plan.PlanTerm.{PlanTerm}
use Rattle.xet_outside.specs.Plan.{Shape}
use Rattle.xet_error.specs.declared.error.Corruption.TheVariants.{Trim}
use Rattle.xet_blocks.specs.declared.reconstruction_terms.file_term.FileTerm.{FileTerm}
use Rattle.xet_blocks.specs.Terms.{terms_from, terms_of}
use Rattle.xet_offers.specs.PlanChecks.{IsAccepted, sizes, sizes_from}
use Rattle.xet_blocks.proofs.CallerLemmas.{tested}

-- ---- where the terms end, and where the last one begins

sum-cons : (n : ℕ) (ns : List ℕ) → sum (n ∷ ns) ≡ n + sum ns
sum-cons n ns = sum_by-cons (λ x. x) n ns

-- where the last of these sizes begins
abbrev last_place : ℕ → List ℕ → ℕ
last_place p [] = p
last_place p (n ∷ []) = p
last_place p (n ∷ m ∷ ms) = last_place (p + n) (m ∷ ms)

last_place_after : (p n : ℕ) (ns : List ℕ) → p ≤ last_place p (n ∷ ns)
last_place_after p n [] = omega arith
last_place_after p n (m ∷ ms) = let next = last_place_after (p + n) m ms in omega (arith, next)

last_size : (p n : ℕ) (ns : List ℕ) → (m : ℕ) × (last_or None (n ∷ ns) ≡ Some m) × (last_place p (n ∷ ns) + m ≡ p + sum (n ∷ ns))
last_size p n [] = (n, refl, omega (arith, sum-cons n []))
last_size p n (m ∷ ms) =
    let next = last_size (p + n) m ms in
    let n2 = next.2 in
    (next.0, next.1, omega (arith, n2, sum-cons n (m ∷ ms)))

none_from_cond : {A : Type 0} (b : Bool) (x : A) → cond b (Some x) None ≡ None → b ≡ false
none_from_cond false x e = refl
none_from_cond true x e = cc

-- the last one begins at or before the query's end
last_within : (start end n : ℕ) (ns : List ℕ)
    → option_and_then (λ last. cond (nat_lt last (start + sum (n ∷ ns) - end)) (Some (Trim (start + sum (n ∷ ns) - end) last)) None) (last_or None (n ∷ ns)) ≡ None
    → last_place start (n ∷ ns) ≤ end
last_within start end n ns h =
    let last = last_size start n ns in
    let k = last.2 in
    let x = start + sum (n ∷ ns) - end in
    let at : cond (nat_lt last.0 x) (Some (Trim x last.0)) None ≡ None =
    sym (ap (option_and_then (λ last. cond (nat_lt last x) (Some (Trim x last)) None)) last.1) ∙ h in
    let f = ltb-false last.0 x (none_from_cond (nat_lt last.0 x) (Trim x last.0) at) in
    omega (arith, f, k)

-- ---- the terms

sizes_zero : (ts : List PlanTerm) → map (λ t. t.unpacked_length) ts ≡ sizes_from 0 ts
sizes_zero [] = refl
sizes_zero (t ∷ ts) = let e : t.unpacked_length ≡ t.unpacked_length - 0 = omega arith in ap (λ (n : ℕ). n ∷ map (λ t. t.unpacked_length) ts) e

-- ---- the terms follow one another

-- each term begins where the one before it ends, the first at a place, and the last one ends at another
abbrev pub Follow : ℕ → ℕ → List FileTerm → Type 0
Follow place end [] = place ≡ end
Follow place end (t ∷ ts) = (t.byte_range.start ≡ place) × (place ≤ t.byte_range.end) × Follow t.byte_range.end end ts

follow_from : (p : Shape) (q : FileRange) (multi : Bool) (place o : ℕ) (t : PlanTerm) (ts : List PlanTerm) → last_place place (sizes_from o (t ∷ ts)) ≤ q.end
    → Follow place (min (place + sum (sizes_from o (t ∷ ts))) q.end) (terms_from p q multi place o (t ∷ ts))
follow_from p q multi place o t [] k = let s = sum-cons (t.unpacked_length - o) [] in (refl, omega (arith, k), omega (arith, s))
follow_from p q multi place o t (u ∷ us) k =
    let n = t.unpacked_length - o in
    let z = sizes_zero (u ∷ us) in
    let s = sum-cons n (map (λ t. t.unpacked_length) (u ∷ us)) in
    let after = last_place_after (place + n) u.unpacked_length (map (λ t. t.unpacked_length) us) in
    let next = follow_from p q multi (place + n) 0 u us (subst (λ (ns : List ℕ). last_place (place + n) ns ≤ q.end) z k) in
    let here : place + n ≡ min (place + n) q.end = omega (arith, k, after) in
    let last : min (place + n + sum (sizes_from 0 (u ∷ us))) q.end ≡ min (place + sum (n ∷ map (λ t. t.unpacked_length) (u ∷ us))) q.end = omega (arith, s, ap sum z) in
    let rest = terms_from p q multi (place + n) 0 (u ∷ us) in (
      refl,
      omega (arith, here),
      subst (λ (m : ℕ). Follow m (min (place + sum (n ∷ map (λ t. t.unpacked_length) (u ∷ us))) q.end) rest) here (subst (λ (m : ℕ). Follow (place + n) m rest) last next),
    )

-- the terms of an accepted plan follow one another from the query's start on
pub terms_follow : (p : Shape) (q : FileRange) (multi : Bool) → IsAccepted p q multi → 0 < length p.terms → Follow q.start (min (q.start + sum (sizes p)) q.end) (terms_of p q multi)
terms_follow p q multi a h = go p.terms h (tested p q multi a).trim
  where
    go : (ts : List PlanTerm) → 0 < length ts
        → option_and_then (λ last. cond (nat_lt last (q.start + sum (sizes_from p.offset ts) - q.end)) (Some (Trim (q.start + sum (sizes_from p.offset ts) - q.end) last)) None) (last_or None (sizes_from p.offset ts)) ≡ None
        → Follow q.start (min (q.start + sum (sizes_from p.offset ts)) q.end) (terms_from p q multi q.start p.offset ts)
    go [] h k = absurd (omega arith)
    go (t ∷ ts) h k = follow_from p q multi q.start p.offset t ts (last_within q.start q.end (t.unpacked_length - p.offset) (map (λ t. t.unpacked_length) ts) k)
