-- The place of a plan by its number, where numbers follow one another.
use Rattle.std.proofs.Common.{◌≡◌, ℕ, zero, suc, ◌+◌, ◌-◌, ◌<◌, Bool, true, false, cond, List, [], ◌∷◌, length, Some, None, get_or, refl, ap, arith}
use Rattle.std.specs.Prelude.{All, ◌&&◌, nat_le, nat_lt, slice_get}
use Rattle.std.proofs.lemmas.Bool.{leb-false, leb-true, ltb-false}
use Rattle.std.proofs.lemmas.Option.{slice_get-get_or}
use Rattle.xet_leader.specs.declared.leader.LedPlan.{LedPlan}
use Rattle.xet_leader.specs.Led.{FollowOn}
use Rattle.xet_leader.specs.Plans.{find_plan}

-- the number of the plan at this place, where numbers follow one another
pub numbered_at : (l : LedPlan) (ls : List LedPlan) (i : ℕ) (x : LedPlan) → FollowOn (l ∷ ls)
    → slice_get (l ∷ ls) i ≡ Some x → x.number ≡ l.number + i
numbered_at l ls zero x f e =
    let is : l ≡ x = cc in
    let n = ap (λ (z : LedPlan). z.number) is in
    omega (arith, n)
numbered_at l [] (suc i) x f e = absurd (cc)
numbered_at l (k ∷ ls) (suc i) x f e =
    let n = numbered_at k ls i x f.2 e in
    let a = f.0 in
    omega (arith, n, a)

-- ---- the place of a number

here : (l : LedPlan) (ls : List LedPlan) (p place : ℕ) (u v : Bool) → nat_le l.number p ≡ u
    → nat_lt (p - l.number) (length (l ∷ ls)) ≡ v → cond (u && v) (Some (p - l.number)) None ≡ Some place
    → p ≡ l.number + place
here l ls p place true true e f h =
    let same : p - l.number ≡ place = cc in
    let low = leb-true l.number p e in
    omega (arith, same, low)
here l ls p place true false e f h = absurd (cc)
here l ls p place false v e f h = absurd (cc)

-- the plan at the place of a number has it
pub place_number : (ls : List LedPlan) (p place : ℕ) (x : LedPlan) → FollowOn ls → find_plan ls p ≡ Some place
    → slice_get ls place ≡ Some x → x.number ≡ p
place_number [] p place x f h e = absurd (cc)
place_number (l ∷ ls) p place x f h e =
    let n = numbered_at l ls place x f e in
    let m = here l ls p place (nat_le l.number p) (nat_lt (p - l.number) (length (l ∷ ls))) refl refl h in
    omega (arith, n, m)

absent_here : (l : LedPlan) (ls : List LedPlan) (p k : ℕ) (u v : Bool) → nat_le l.number p ≡ u
    → nat_lt (p - l.number) (length (l ∷ ls)) ≡ v → cond (u && v) (Some (p - l.number)) None ≡ None
    → k < length (l ∷ ls) → p ≡ l.number + k → ⊥
absent_here l ls p k true true e f h w n = cc
absent_here l ls p k true false e f h w n = let high = ltb-false (p - l.number) (length (l ∷ ls)) f in
    omega (arith, high, w, n)
absent_here l ls p k false v e f h w n = let low = leb-false l.number p e in omega (arith, low, n)

-- where a number has no place no plan has it
pub place_absent : (ls : List LedPlan) (p : ℕ) → FollowOn ls → find_plan ls p ≡ None → All (λ l. p ≡ l.number → ⊥) ls
place_absent [] p f h = λ k d w n. absurd (omega arith)
place_absent (l ∷ ls) p f h = λ k d w n.
    let m = numbered_at l ls k (get_or (l ∷ ls) k d) f (slice_get-get_or (l ∷ ls) k d w) in
    absent_here l ls p k (nat_le l.number p) (nat_lt (p - l.number) (length (l ∷ ls))) refl refl h w
    (omega (arith, m, n))
