-- On an accepted plan the last term alone is cut at the query's end.
use Rattle.std.proofs.Common.{◌≡◌, ℕ, ◌+◌, ◌-◌, ◌^◌, ◌≤◌, ◌<◌, Bool, true, false, cond, List, [], ◌∷◌, min, refl, sym, ◌∙◌, ap, arith, map, subst, leb}
use Rattle.std.specs.Prelude.{Some, None, Option, option_map, option_and_then, position, sum, nat_le, nat_lt}
use Rattle.std.specs.List.{last_or, list_any}
use Rattle.std.proofs.lemmas.Bool.{leb-false, ltb-false, or_parts}
use Rattle.std.proofs.lemmas.List.Sums.{sum_by-cons}
use Rattle.xet_base.specs.declared.cas_types.FileRange.{FileRange}
use Rattle.xet_base.specs.Lists.{first_some}
use Rattle.xet_base.specs.Worked.{cut}
use Rattle.xet_base.proofs.CallerLemmas.{position_no}
use Rattle.xet_outside.specs.declared.plan.PlanTerm.{PlanTerm}
use Rattle.xet_outside.specs.Plan.{Shape}
use Rattle.xet_error.specs.declared.error.Corruption.TheVariants.{Position, Trim}
use Rattle.xet_blocks.specs.declared.reconstruction_terms.file_term.FileTerm.{FileTerm}
use Rattle.xet_blocks.specs.Laws.{TrimsLastAlone, trim_last}
use Rattle.xet_blocks.specs.Terms.{file_term, terms_from}
use Rattle.xet_offers.specs.PlanChecks.{IsAccepted, ends, sizes_from, ranges_test, no_xorb_test, no_range_test, offset_test, position_test, trim_test}

-- ---- what an accepted plan passes

none_first : {A : Type 0} (o : Option A) (os : List (Option A)) → first_some (o ∷ os) ≡ None → (o ≡ None) × (first_some os ≡ None)
none_first None os e = (refl, e)
none_first (Some x) os e = cc

pub none_from_map : {A B : Type 0} (f : A → B) (o : Option A) → option_map f o ≡ None → o ≡ None
none_from_map f None e = refl
none_from_map f (Some x) e = cc

-- an accepted plan passes each test
pub record IsTested (p : Shape) (q : FileRange) (multi : Bool) : Type 0 where
  pub ranges : ranges_test p multi ≡ None
  pub xorbs : no_xorb_test p ≡ None
  pub blocks : no_range_test p multi ≡ None
  pub offset : offset_test p ≡ None
  pub positions : position_test p q ≡ None
  pub trim : trim_test p q ≡ None

pub tested : (p : Shape) (q : FileRange) (multi : Bool) → IsAccepted p q multi → IsTested p q multi
tested p q multi a =
    let t1 = none_first (ranges_test p multi) (no_xorb_test p ∷ no_range_test p multi ∷ offset_test p ∷ position_test p q ∷ trim_test p q ∷ []) a in
    let t2 = none_first (no_xorb_test p) (no_range_test p multi ∷ offset_test p ∷ position_test p q ∷ trim_test p q ∷ []) t1.1 in
    let t3 = none_first (no_range_test p multi) (offset_test p ∷ position_test p q ∷ trim_test p q ∷ []) t2.1 in
    let t4 = none_first (offset_test p) (position_test p q ∷ trim_test p q ∷ []) t3.1 in
    let t5 = none_first (position_test p q) (trim_test p q ∷ []) t4.1 in
    let t6 = none_first (trim_test p q) [] t5.1 in
    record { ranges = t1.0; xorbs = t2.0; blocks = t3.0; offset = t4.0; positions = t5.0; trim = t6.0 }

-- ---- where the terms end, and where the last one begins

sum-cons : (n : ℕ) (ns : List ℕ) → sum (n ∷ ns) ≡ n + sum ns
sum-cons n ns = sum_by-cons (λ x. x) n ns

last_end : (b p n : ℕ) (ns : List ℕ) → list_any (leb b) (ends p (n ∷ ns)) ≡ false → p + sum (n ∷ ns) < b
last_end b p n [] h = let here = leb-false b (p + n) (or_parts (leb b (p + n)) false h).0 in omega (arith, sum-cons n [], here)
last_end b p n (m ∷ ms) h =
    let next = last_end b (p + n) m ms (or_parts (leb b (p + n)) (list_any (leb b) (ends (p + n) (m ∷ ms))) h).1 in
    omega (arith, sum-cons n (m ∷ ms), next)

-- where the last of these sizes begins
abbrev last_place : ℕ → List ℕ → ℕ
last_place p [] = p
last_place p (n ∷ []) = p
last_place p (n ∷ m ∷ ms) = last_place (p + n) (m ∷ ms)

last_place_after : (p n : ℕ) (ns : List ℕ) → p ≤ last_place p (n ∷ ns)
last_place_after p n [] = omega arith
last_place_after p n (m ∷ ms) = let next = last_place_after (p + n) m ms in omega (arith, next)

last_size : (p n : ℕ) (ns : List ℕ) → (m : ℕ) × (last_or None (n ∷ ns) ≡ Some m) × (last_place p (n ∷ ns) + m ≡ p + sum (n ∷ ns))
last_size p n [] = (n, refl, omega (arith, sum-cons n []))
last_size p n (m ∷ ms) =
    let next = last_size (p + n) m ms in
    let n2 = next.2 in
    (next.0, next.1, omega (arith, n2, sum-cons n (m ∷ ms)))

none_from_cond : {A : Type 0} (b : Bool) (x : A) → cond b (Some x) None ≡ None → b ≡ false
none_from_cond false x e = refl
none_from_cond true x e = cc

-- the last one begins at or before the query's end
last_within : (start end n : ℕ) (ns : List ℕ)
    → option_and_then (λ last. cond (nat_lt last (start + sum (n ∷ ns) - end)) (Some (Trim (start + sum (n ∷ ns) - end) last)) None) (last_or None (n ∷ ns)) ≡ None
    → last_place start (n ∷ ns) ≤ end
last_within start end n ns h =
    let last = last_size start n ns in
    let k = last.2 in
    let x = start + sum (n ∷ ns) - end in
    let at : cond (nat_lt last.0 x) (Some (Trim x last.0)) None ≡ None =
    sym (ap (option_and_then (λ last. cond (nat_lt last x) (Some (Trim x last)) None)) last.1) ∙ h in
    let f = ltb-false last.0 x (none_from_cond (nat_lt last.0 x) (Trim x last.0) at) in
    omega (arith, f, k)

-- ---- the terms

sizes_zero : (ts : List PlanTerm) → map (λ t. t.unpacked_length) ts ≡ sizes_from 0 ts
sizes_zero [] = refl
sizes_zero (t ∷ ts) = let e : t.unpacked_length ≡ t.unpacked_length - 0 = omega arith in ap (λ (n : ℕ). n ∷ map (λ t. t.unpacked_length) ts) e

-- the end that a term has
with_end : (p : Shape) (q r : FileRange) (multi : Bool) (place o : ℕ) (t : PlanTerm) → min (place + (t.unpacked_length - o)) q.end ≡ min (place + (t.unpacked_length - o)) r.end
    → file_term p q multi place o t ≡ file_term p r multi place o t
with_end p q r multi place o t e = ap (λ (n : ℕ). let f : FileTerm = record (file_term p q multi place o t) { byte_range = record { start = place; end = n } } in f) e

trims_from : (p : Shape) (q : FileRange) (multi : Bool) (start place o : ℕ) (t : PlanTerm) (ts : List PlanTerm) → place + sum (sizes_from o (t ∷ ts)) < 2 ^ 64 → last_place place (sizes_from o (t ∷ ts)) ≤ q.end
    → terms_from p q multi place o (t ∷ ts) ≡ trim_last q.end (terms_from p (cut start (2 ^ 64 - 1)) multi place o (t ∷ ts))
trims_from p q multi start place o t [] h k =
    let s = sum-cons (t.unpacked_length - o) [] in
    let e : min (place + (t.unpacked_length - o)) q.end ≡ min (min (place + (t.unpacked_length - o)) (2 ^ 64 - 1)) q.end = omega (arith, s) in
    ap (λ (n : ℕ). let f : FileTerm = record (file_term p q multi place o t) { byte_range = record { start = place; end = n } } in f ∷ []) e
trims_from p q multi start place o t (u ∷ us) h k =
    let n = t.unpacked_length - o in
    let z = sizes_zero (u ∷ us) in
    let s = sum-cons n (map (λ t. t.unpacked_length) (u ∷ us)) in
    let after = last_place_after (place + n) u.unpacked_length (map (λ t. t.unpacked_length) us) in
    let here = with_end p q (cut start (2 ^ 64 - 1)) multi place o t (omega (arith, s, after, k)) in
    let next = trims_from p q multi start (place + n) 0 u us
    (omega (arith, s, ap sum z))
    (subst (λ (ns : List ℕ). last_place (place + n) ns ≤ q.end) z k) in
    λ i. here i ∷ next i

pub trims_last_alone : TrimsLastAlone
trims_last_alone p q multi a = let is = tested p q multi a in go p.terms is.positions is.trim
  where
    go : (ts : List PlanTerm) → option_map (λ i. Position i) (position (nat_le (2 ^ 64)) (ends q.start (sizes_from p.offset ts))) ≡ None
        → option_and_then (λ last. cond (nat_lt last (q.start + sum (sizes_from p.offset ts) - q.end)) (Some (Trim (q.start + sum (sizes_from p.offset ts) - q.end) last)) None) (last_or None (sizes_from p.offset ts)) ≡ None
        → terms_from p q multi q.start p.offset ts ≡ trim_last q.end (terms_from p (cut q.start (2 ^ 64 - 1)) multi q.start p.offset ts)
    go [] h k = refl
    go (t ∷ ts) h k =
        let n = t.unpacked_length - p.offset in
        let ns = map (λ t. t.unpacked_length) ts in
        let below = position_no (nat_le (2 ^ 64)) (ends q.start (n ∷ ns)) (none_from_map (λ i. Position i) (position (nat_le (2 ^ 64)) (ends q.start (n ∷ ns))) h) in
        trims_from p q multi q.start q.start p.offset t ts (last_end (2 ^ 64) q.start n ns below) (last_within q.start q.end n ns k)
