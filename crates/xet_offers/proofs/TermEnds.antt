-- A walk over the ends of a plan's terms in the file.
use Rattle.std.proofs.Common.{◌≡◌, ℕ, suc, ◌+◌, ◌-◌, ◌^◌, ◌<◌, ◌≤◌, Bool, true, false, cond, not, List, [], ◌∷◌, length, map, get_or, drop, leb, ltb, refl, sym, ◌∙◌, ap, subst, arith, add-one, drop-cons, Some, None}
use Rattle.std.specs.Prelude.{Option, option_map, option_and_then, position, sum}
use Rattle.std.specs.List.{last_or, position_or_len}
use Rattle.std.proofs.lemmas.Bool.{le-leb, lt-leb, lt-ltb, le-ltb}
use Rattle.std.proofs.lemmas.List.Sums.{sum_by-cons}
use Rattle.xet_base.specs.declared.cas_types.FileRange.{FileRange}
use Rattle.xet_base.specs.Lists.{first_some}
use Rattle.xet_outside.specs.declared.plan.PlanTerm.{PlanTerm}
use Rattle.xet_outside.specs.Plan.{Shape}
use Rattle.xet_error.specs.declared.error.Corruption.{Corruption}
use Rattle.xet_error.specs.declared.error.Corruption.TheVariants.{Position, Trim}
use Rattle.xet_offers.specs.PlanChecks.{ends, excess, sizes, sizes_from, position_test, trim_test}

abbrev pub too_far : ℕ → Bool
too_far e = leb (2 ^ 64) e

pub length-ends : (p : ℕ) (ns : List ℕ) → length (ends p ns) ≡ length ns
length-ends p [] = refl
length-ends p (n ∷ ns) = ap (λ (k : ℕ). suc k) (length-ends (p + n) ns)

pub sizes_from-zero : (ts : List PlanTerm) → sizes_from 0 ts ≡ map (λ t. t.unpacked_length) ts
sizes_from-zero [] = refl
sizes_from-zero (t ∷ ts) = let e : t.unpacked_length - 0 ≡ t.unpacked_length = omega arith in ap (λ (n : ℕ). n ∷ map (λ t. t.unpacked_length) ts) e

-- the sizes from a term on are its own and those after it
pub sizes_from-drop : (ts items : List PlanTerm) (o i m n : ℕ) (d : PlanTerm) → items ≡ ts → i < length items → m ≡ (get_or items i d).unpacked_length → n ≡ m - o → sizes_from o (drop i ts) ≡ n ∷ sizes_from 0 (drop (i + 1) ts)
sizes_from-drop ts items o i m n d same l e f =
    let rest : drop i items ≡ get_or items i d ∷ drop (i + 1) items = rw (add-one, drop-cons items i d) in
    let size : (get_or items i d).unpacked_length - o ≡ n = omega (arith, e, f) in
    ap (λ (l : List PlanTerm). sizes_from o (drop i l)) (sym same) ∙ ap (λ (l : List PlanTerm). sizes_from o l) rest
    ∙ (λ k. size k ∷ sym (sizes_from-zero (drop (i + 1) items)) k)
    ∙ ap (λ (l : List PlanTerm). n ∷ sizes_from 0 (drop (i + 1) l)) same

-- so many terms are passed, which end at a place, the last of them with a length; these sizes are left
pub record IsAtEnd (start : ℕ) (all : List ℕ) (number place size : ℕ) (rest : List ℕ) : Type 0 where
  pub count : number + length rest ≡ length all
  pub total : place + sum rest ≡ start + sum all
  pub first : number + position_or_len too_far (ends place rest) ≡ position_or_len too_far (ends start all)
  pub last : last_or (Some size) rest ≡ last_or None all

pub at_end_start : (start o : ℕ) (ts : List PlanTerm) → 0 < length ts → IsAtEnd start (sizes_from o ts) 0 start 0 (sizes_from o ts)
at_end_start start o [] h = absurd (omega arith)
at_end_start start o (t ∷ ts) h = record { count = omega arith; total = refl; first = omega arith; last = refl }

pub at_end_more : (start : ℕ) (all : List ℕ) (number place size n : ℕ) (rest rest' : List ℕ) → IsAtEnd start all number place size rest → rest ≡ n ∷ rest' → place + n < 2 ^ 64 → IsAtEnd start all (number + 1) (place + n) n rest'
at_end_more start all number place size n rest rest' w e l =
    let v : IsAtEnd start all number place size (n ∷ rest') = subst (λ (r : List ℕ). IsAtEnd start all number place size r) e w in
    let near : too_far (place + n) ≡ false = lt-leb (2 ^ 64) (place + n) l in
    let first : number + cond (not (too_far (place + n))) (1 + position_or_len too_far (ends (place + n) rest')) 0 ≡ position_or_len too_far (ends start all) = v.first in
    let next = ap (λ b. number + cond (not b) (1 + position_or_len too_far (ends (place + n) rest')) 0) near in
    record {
      count = omega (arith, v.count);
      total = omega (arith, v.total, sum_by-cons (λ (x : ℕ). x) n rest');
      first = omega (arith, first, next);
      last = v.last;
    }

pub at_end_fails : (start : ℕ) (all : List ℕ) (number place size n : ℕ) (rest rest' : List ℕ) → IsAtEnd start all number place size rest → rest ≡ n ∷ rest' → 2 ^ 64 ≤ place + n → position too_far (ends start all) ≡ Some number
at_end_fails start all number place size n rest rest' w e l =
    let v : IsAtEnd start all number place size (n ∷ rest') = subst (λ (r : List ℕ). IsAtEnd start all number place size r) e w in
    let far : too_far (place + n) ≡ true = le-leb (2 ^ 64) (place + n) l in
    let first : number + cond (not (too_far (place + n))) (1 + position_or_len too_far (ends (place + n) rest')) 0 ≡ position_or_len too_far (ends start all) = v.first in
    let next = ap (λ b. number + cond (not b) (1 + position_or_len too_far (ends (place + n) rest')) 0) far in
    let at : position_or_len too_far (ends start all) ≡ number = omega (arith, first, next) in
    let within : position_or_len too_far (ends start all) < length (ends start all) = omega (arith, at, v.count, length-ends start all) in
    ap (λ b. cond b (Some (position_or_len too_far (ends start all))) None) (lt-ltb (position_or_len too_far (ends start all)) (length (ends start all)) within) ∙ ap Some at

pub at_end_done : (start : ℕ) (all : List ℕ) (number place size : ℕ) (rest : List ℕ) → IsAtEnd start all number place size rest → rest ≡ []
    → (position too_far (ends start all) ≡ None) × (place ≡ start + sum all) × (last_or None all ≡ Some size)
at_end_done start all number place size rest w e =
    let v : IsAtEnd start all number place size [] = subst (λ (r : List ℕ). IsAtEnd start all number place size r) e w in
    let past : length (ends start all) ≤ position_or_len too_far (ends start all) = omega (arith, v.first, v.count, length-ends start all) in (
      ap (λ b. cond b (Some (position_or_len too_far (ends start all))) None) (le-ltb (position_or_len too_far (ends start all)) (length (ends start all)) past),
      omega (arith, v.total),
      sym v.last,
    )

-- ---- the tests of the ends

pub fails_position : (p : Shape) (q : FileRange) (i : ℕ) → position too_far (ends q.start (sizes p)) ≡ Some i → first_some (position_test p q ∷ trim_test p q ∷ []) ≡ Some (Position i)
fails_position p q i h = ap (λ o. first_some (option_map (λ i. Position i) o ∷ trim_test p q ∷ [])) h

pub after_position : (p : Shape) (q : FileRange) → position too_far (ends q.start (sizes p)) ≡ None → (o : Option Corruption) → trim_test p q ≡ o → first_some (position_test p q ∷ trim_test p q ∷ []) ≡ o
after_position p q h o e = ap (λ f. first_some (option_map (λ i. Position i) f ∷ trim_test p q ∷ [])) h ∙ only (trim_test p q) ∙ e
  where
    only : (o : Option Corruption) → first_some (o ∷ []) ≡ o
    only None = refl
    only (Some k) = refl

pub trim_fails : (p : Shape) (q : FileRange) (size over : ℕ) → last_or None (sizes p) ≡ Some size → over ≡ excess p q → size < over → trim_test p q ≡ Some (Trim over size)
trim_fails p q size over last e l =
    ap (λ o. option_and_then (λ last. cond (ltb last (excess p q)) (Some (Trim (excess p q) last)) None) o) last
    ∙ ap (λ b. cond b (Some (Trim (excess p q) size)) None) (lt-ltb size (excess p q) (omega (arith, e)))
    ∙ ap (λ (n : ℕ). Some (Trim n size)) (sym e)

pub trim_passes : (p : Shape) (q : FileRange) (size over : ℕ) → last_or None (sizes p) ≡ Some size → over ≡ excess p q → over ≤ size → trim_test p q ≡ None
trim_passes p q size over last e l =
    ap (λ o. option_and_then (λ last. cond (ltb last (excess p q)) (Some (Trim (excess p q) last)) None) o) last
    ∙ ap (λ b. cond b (Some (Trim (excess p q) size)) None) (le-ltb size (excess p q) (omega (arith, e)))
