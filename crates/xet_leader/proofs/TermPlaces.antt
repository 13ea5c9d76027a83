-- The terms of a leader's plans by their places.
use Rattle.std.proofs.Common.{◌≡◌, ℕ, zero, suc, ◌+◌, ◌-◌, ◌<◌, ◌≤◌, List, [], ◌∷◌, ◌++◌, length, take, drop, get_or, refl, sym, subst, ◌∙◌, ap, arith, Option, Some, None}
use Rattle.std.specs.Prelude.{map, slice_get}
use Rattle.std.proofs.lemmas.List.{drop_more, get_or_default}
use Rattle.xet_blocks.specs.declared.reconstruction_terms.file_term.FileTerm.{FileTerm}
use Rattle.xet_leader.specs.declared.leader.LedPlan.{LedPlan}
use Rattle.xet_leader.specs.LedTerms.{PlanTerm, led_terms, of_plan}

-- ---- lists

nil_drop : {A : Type 0} (n : ℕ) → drop {A = A} n [] ≡ []
nil_drop zero = refl
nil_drop (suc n) = refl

next_suc : {A : Type 0} (k : ℕ) (xs : List A) (y : A) (ys : List A) → drop k xs ≡ y ∷ ys
    → (take (suc k) xs ≡ take k xs ++ y ∷ []) × (drop (suc k) xs ≡ ys) × (slice_get xs k ≡ Some y)
    × (suc k ≤ length xs)
next_suc zero [] y ys h = absurd (cc)
next_suc (suc k) [] y ys h = absurd (cc)
next_suc zero (x ∷ xs) y ys h = let e : x ≡ y = cc in let f : xs ≡ ys = cc in
    (ap (λ z. z ∷ []) e, f, ap (λ z. Some z) e, omega arith)
next_suc (suc k) (x ∷ xs) y ys h = let r = next_suc k xs y ys h in let n = r.3 in
    (ap (λ l. x ∷ l) r.0, r.1, r.2, omega arith)

-- the element after the first ones
pub record NextIs {A : Type 0} (k : ℕ) (xs : List A) (y : A) (ys : List A) : Type 0 where
  pub front : take (k + 1) xs ≡ take k xs ++ y ∷ []
  pub back : drop (k + 1) xs ≡ ys
  pub there : slice_get xs k ≡ Some y
  pub within : k + 1 ≤ length xs

pub next_is : {A : Type 0} (k : ℕ) (xs : List A) (y : A) (ys : List A) → drop k xs ≡ y ∷ ys → NextIs k xs y ys
next_is k xs y ys h =
    let e : suc k ≡ k + 1 = omega arith in
    let r = next_suc k xs y ys h in
    let n = r.3 in
    record {
      front = ap (λ j. take j xs) (sym e) ∙ r.0;
      back = ap (λ j. drop j xs) (sym e) ∙ r.1;
      there = r.2;
      within = omega arith;
    }

-- ---- terms of plans

past_terms : (l : LedPlan) (ts : List FileTerm) (ys : List PlanTerm) (j : ℕ) → length ts ≤ j
    → drop j (map (of_plan l) ts ++ ys) ≡ drop (j - length ts) ys
past_terms l [] ys j h = let e : j ≡ j - 0 = omega arith in ap (λ k. drop k ys) e
past_terms l (t ∷ ts) ys zero h = absurd (omega (arith, h))
past_terms l (t ∷ ts) ys (suc j) h = let e : j - length ts ≡ suc j - suc (length ts) = omega arith in
    past_terms l ts ys j (omega (arith, h)) ∙ ap (λ k. drop k ys) e

front_plan : (ls : List LedPlan) (i : ℕ) (p : LedPlan) → i < length ls → p ≡ get_or ls i p
    → led_terms (drop i ls) ≡ map (of_plan p) p.block.terms ++ led_terms (drop (i + 1) ls)
front_plan ls i p h e = ap led_terms (drop_more ls i p h ∙ ap (λ q. q ∷ drop (i + 1) ls) (sym e))

-- a place past a plan's terms
pub past_plan : (ls : List LedPlan) (i j : ℕ) (p : LedPlan) → i < length ls → p ≡ get_or ls i p
    → length p.block.terms ≤ j → drop (j - length p.block.terms) (led_terms (drop (i + 1) ls)) ≡ drop j
    (led_terms (drop i ls))
past_plan ls i j p h e n = sym (ap (λ l. drop j l) (front_plan ls i p h e)
    ∙ past_terms p p.block.terms (led_terms (drop (i + 1) ls)) j n)

in_terms : (l : LedPlan) (ts : List FileTerm) (ys : List PlanTerm) (j : ℕ) (t : FileTerm) → j < length ts
    → t ≡ get_or ts j t → drop j (map (of_plan l) ts ++ ys) ≡ of_plan l t ∷ drop (suc j) (map (of_plan l) ts ++ ys)
in_terms l [] ys j t h e = absurd (omega (arith, h))
in_terms l (u ∷ ts) ys zero t h e = ap (λ (x : FileTerm). of_plan l x ∷ map (of_plan l) ts ++ ys) (sym e)
in_terms l (u ∷ ts) ys (suc j) t h e = in_terms l ts ys j t (omega (arith, h)) e

-- a place within a plan's terms
pub in_plan : (ls : List LedPlan) (i j : ℕ) (p : LedPlan) (t : FileTerm) → i < length ls → p ≡ get_or ls i p
    → j < length p.block.terms → t ≡ get_or p.block.terms j t
    → drop j (led_terms (drop i ls)) ≡ of_plan p t ∷ drop (j + 1) (led_terms (drop i ls))
in_plan ls i j p t h e n f =
    let k : suc j ≡ j + 1 = omega arith in
    let q = front_plan ls i p h e in
    ap (λ l. drop j l) q ∙ in_terms p p.block.terms (led_terms (drop (i + 1) ls)) j t n f
    ∙ ap (λ m. of_plan p t ∷ drop m (map (of_plan p) p.block.terms ++ led_terms (drop (i + 1) ls))) k
    ∙ ap (λ l. of_plan p t ∷ drop (j + 1) l) (sym q)

-- any term
abbrev pub no_file_term : FileTerm
no_file_term = record {
  byte_range = record { start = 0; end = 0 };
  xorb_chunk_range = record { start = 0; end = 0 };
  xorb_block_start_index = 0;
  offset_into_first_range = 0;
  xorb_block = 0;
}

-- the term that stands there
pub next_there : (ls : List LedPlan) (i j : ℕ) (p : LedPlan) (ts : List FileTerm) → i < length ls → p ≡ get_or ls i p
    → ts ≡ p.block.terms → ((d : LedPlan) → i < length ls → j < length (get_or ls i d).block.terms)
    → drop j (led_terms (drop i ls)) ≡ of_plan p (get_or ts j no_file_term) ∷ drop (j + 1) (led_terms (drop i ls))
next_there ls i j p ts h e f inside =
    let t : FileTerm = get_or p.block.terms j no_file_term in
    let n : j < length p.block.terms = subst (λ (q : LedPlan). j < length q.block.terms) (sym e) (inside p h) in
    let g : t ≡ get_or p.block.terms j t = get_or_default p.block.terms j no_file_term t n in
    in_plan ls i j p t h e n g ∙ ap (λ (l : List FileTerm). of_plan p (get_or l j no_file_term) ∷ drop (j + 1)
    (led_terms (drop i ls))) (sym f)

no_plan : (ls : List LedPlan) (i : ℕ) → length ls ≤ i → drop i ls ≡ []
no_plan [] i h = nil_drop i
no_plan (l ∷ ls) zero h = absurd (omega (arith, h))
no_plan (l ∷ ls) (suc i) h = no_plan ls i (omega (arith, h))

-- past the plans there are no terms
pub past_all : (ls : List LedPlan) (i j : ℕ) → length ls ≤ i → drop j (led_terms (drop i ls)) ≡ []
past_all ls i j h = ap (λ l. drop j (led_terms l)) (no_plan ls i h) ∙ nil_drop j
