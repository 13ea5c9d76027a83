-- Offsets that ascend are in order.
use Rattle.std.proofs.Common.{◌≡◌, ℕ, ◌+◌, ◌-◌, ◌≤◌, ◌<◌, List, [], ◌∷◌, Bool, true, false, ◌&&◌, Some, None, map, refl, ◌∙◌, ap, arith, cond, option_map, suc}
use Rattle.std.specs.Prelude.{nat_lt, Option}
use Rattle.std.proofs.lemmas.Bool.{ltb-true}
use Rattle.std.proofs.lemmas.Grind.{common_steps}
use Rattle.xet_offers.specs.BlockChecks.{is_misplaced, misplaced_after}
use Rattle.xet_offers.specs.steps.Ascents.{ascend_below}

both : (a b : Bool) → a && b ≡ true → (a ≡ true) × (b ≡ true)
both true b h = (refl, h)
both false b h = cc

-- the first of numbers that ascend below an end is below it
first_below : (end first : ℕ) (ns : List ℕ) → ascend_below end first ns ≡ true → first < end
first_below end first [] h = ltb-true first end h
first_below end first (n ∷ ns) h =
    let up : first < n = ltb-true first n (both (nat_lt first n) (ascend_below end n ns) h).0 in
    let rest : n < end = first_below end n ns (both (nat_lt first n) (ascend_below end n ns) h).1 in
    omega arith

in_place : (size before o : ℕ) → before < o → o < size → is_misplaced size (Some before) o ≡ false
in_place size before o h k = grind (arith, common_steps)

-- numbers that ascend from one on, each less a base, are in order after it
ascend_in_order : (end base size first : ℕ) (ns : List ℕ) → end ≤ base + size → base ≤ first → ascend_below end first ns ≡ true
    → misplaced_after size (Some (first - base)) (map (λ p. p - base) ns) ≡ None
ascend_in_order end base size first [] e l h = refl
ascend_in_order end base size first (n ∷ ns) e l h =
    let parts = both (nat_lt first n) (ascend_below end n ns) h in
    let up : first < n = ltb-true first n parts.0 in
    let below : n < end = first_below end n ns parts.1 in
    let here : is_misplaced size (Some (first - base)) (n - base) ≡ false = in_place size (first - base) (n - base) (omega arith) (omega arith) in
    let rest = ascend_in_order end base size n ns e (omega arith) parts.1 in
    ap (λ (b : Bool). cond b (Some 0) (option_map (λ k. suc k) (misplaced_after size (Some (n - base)) (map (λ p. p - base) ns)))) here
    ∙ ap (λ (o : Option ℕ). option_map (λ k. suc k) o) rest

first_in_place : (size o : ℕ) → o ≡ 0 → 0 < size → is_misplaced size None o ≡ false
first_in_place size o h k = grind (arith, common_steps)

-- and so are all of them, where the first one is the base
pub all_in_order : (end base size : ℕ) (ns : List ℕ) → end ≤ base + size → ascend_below end base ns ≡ true
    → misplaced_after size None (map (λ p. p - base) (base ∷ ns)) ≡ None
all_in_order end base size ns e h =
    let below : base < end = first_below end base ns h in
    let here : is_misplaced size None (base - base) ≡ false = first_in_place size (base - base) (omega arith) (omega arith) in
    let rest = ascend_in_order end base size base ns e (omega arith) h in
    ap (λ (b : Bool). cond b (Some 0) (option_map (λ k. suc k) (misplaced_after size (Some (base - base)) (map (λ p. p - base) ns)))) here
    ∙ ap (λ (o : Option ℕ). option_map (λ k. suc k) o) rest
