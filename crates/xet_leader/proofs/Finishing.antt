-- The plans of a leader whose next terms are written.
use Rattle.std.proofs.Common.{◌≡◌, ℕ, ◌+◌, ◌<◌, ◌≤◌, Bool, true, false, cond, List, [], ◌∷◌, length, refl, arith}
use Rattle.std.specs.Prelude.{All, nat_le}
use Rattle.std.proofs.lemmas.Bool.Decides.{nat_tests}
use Rattle.std.proofs.lemmas.List.Elements.{All-tail}
use Rattle.xet_leader.specs.declared.leader.LedPlan.{LedPlan}
use Rattle.xet_leader.specs.Advances.{first_ends, unfinished_plans}
use Rattle.xet_leader.specs.Led.{BeginsWith, FollowOn, LastNumberIs, LastTermsAre}

-- ---- what is left

-- what holds of all plans holds of those that stay
pub stay_each : (P : LedPlan → Type 0) (n : ℕ) (ls : List LedPlan) → All P ls → All P (unfinished_plans n ls)
stay_each P n [] a = a
stay_each P n (l ∷ ls) a = by (stay_each P n ls (All-tail P l ls a)) (first_ends n (l ∷ ls))
  where
    by : All P (unfinished_plans n ls) → (v : Bool) → All P (cond v (unfinished_plans n ls) (l ∷ ls))
    by more true = more
    by more false = a

rest_follows : (l : LedPlan) (ls : List LedPlan) → FollowOn (l ∷ ls) → FollowOn ls
rest_follows l [] f = tt
rest_follows l (k ∷ ls) f = f.2

-- they follow one another still
pub stay_following : (n : ℕ) (ls : List LedPlan) → FollowOn ls → FollowOn (unfinished_plans n ls)
stay_following n [] f = f
stay_following n (l ∷ ls) f = by (stay_following n ls (rest_follows l ls f)) (first_ends n (l ∷ ls))
  where
    by : FollowOn (unfinished_plans n ls) → (v : Bool) → FollowOn (cond v (unfinished_plans n ls) (l ∷ ls))
    by more true = more
    by more false = f

last_number : (number : ℕ) (l : LedPlan) (ls : List LedPlan) → LastNumberIs number (l ∷ ls) → LastNumberIs number ls
last_number number l [] f = tt
last_number number l (k ∷ ls) f = f

-- the last one stays the last
pub stay_numbered : (n number : ℕ) (ls : List LedPlan) → LastNumberIs number ls
    → LastNumberIs number (unfinished_plans n ls)
stay_numbered n number [] f = f
stay_numbered n number (l ∷ ls) f = by (stay_numbered n number ls (last_number number l ls f)) (first_ends n (l ∷ ls))
  where
    by : LastNumberIs number (unfinished_plans n ls) → (v : Bool)
        → LastNumberIs number (cond v (unfinished_plans n ls) (l ∷ ls))
    by more true = more
    by more false = f

last_terms : (terms : ℕ) (l : LedPlan) (ls : List LedPlan) → LastTermsAre terms (l ∷ ls) → LastTermsAre terms ls
last_terms terms l [] f = tt
last_terms terms l (k ∷ ls) f = f

pub stay_last : (n terms : ℕ) (ls : List LedPlan) → LastTermsAre terms ls → LastTermsAre terms (unfinished_plans n ls)
stay_last n terms [] f = f
stay_last n terms (l ∷ ls) f = by (stay_last n terms ls (last_terms terms l ls f)) (first_ends n (l ∷ ls))
  where
    by : LastTermsAre terms (unfinished_plans n ls) → (v : Bool)
        → LastTermsAre terms (cond v (unfinished_plans n ls) (l ∷ ls))
    by more true = more
    by more false = f

-- the first plan starts at this number or before it; where there is none so many terms are planned
abbrev Starts : ℕ → ℕ → List LedPlan → Type 0
Starts n terms [] = n ≡ terms
Starts n terms (l ∷ ls) = l.first ≤ n

next_starts : (n terms : ℕ) (l : LedPlan) (ls : List LedPlan) → n ≤ terms → FollowOn (l ∷ ls)
    → LastTermsAre terms (l ∷ ls) → l.first + length l.block.terms ≤ n → Starts n terms ls
next_starts n terms l [] w f t h = let e : l.first + length l.block.terms ≡ terms = t in omega (arith, e, h, w)
next_starts n terms l (k ∷ ls) w f t h = let e : k.first ≡ l.first + length l.block.terms = f.1 in omega (arith, e, h)

begins : (n terms : ℕ) (ls : List LedPlan) → n ≤ terms → FollowOn ls → LastTermsAre terms ls → Starts n terms ls
    → BeginsWith n terms (unfinished_plans n ls)
begins n terms [] w f t s = s
begins n terms (l ∷ ls) w f t s = by (λ h. begins n terms ls w (rest_follows l ls f) (last_terms terms l ls t)
    (next_starts n terms l ls w f t h)) (first_ends n (l ∷ ls)) refl
  where
    by : (l.first + length l.block.terms ≤ n → BeginsWith n terms (unfinished_plans n ls)) → (v : Bool)
        → nat_le (l.first + length l.block.terms) n ≡ v → BeginsWith n terms (cond v (unfinished_plans n ls) (l ∷ ls))
    by more true e = more (grind (arith, nat_tests))
    by more false e = let past : n < l.first + length l.block.terms = grind (arith, nat_tests) in (s, past)

-- the next term is one of the first plan's that stays
pub stay_first : (finished n terms : ℕ) (ls : List LedPlan) → finished ≤ n → n ≤ terms → FollowOn ls
    → LastTermsAre terms ls → BeginsWith finished terms ls → BeginsWith n terms (unfinished_plans n ls)
stay_first finished n terms [] h w f t b = begins n terms [] w f t (let e : finished ≡ terms = b in
    omega (arith, e, h, w))
stay_first finished n terms (l ∷ ls) h w f t b =
    begins n terms (l ∷ ls) w f t (let e : l.first ≤ finished = b.0 in omega (arith, e, h))
