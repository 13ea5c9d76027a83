-- Taps that leave for connections, the last one first, and come back.
use Rattle.std.proofs.Common.{◌≡◌, ℕ, ◌+◌, ◌≤◌, zero, suc, Bool, true, false, List, [], ◌∷◌, ◌++◌, length, map, min, take, drop, refl, ap, sym, ◌∙◌, append_assoc, arith, length-append}
use Rattle.std.specs.Prelude.{All, nat_lt, reverse}
use Rattle.std.proofs.lemmas.Bool.{ltb-true, ltb-false}
use Rattle.std.proofs.lemmas.List.{append-nil, drop_at, map-append, reverse-append}
use Rattle.std.proofs.lemmas.List.Elements.{All-append, All-cons, All-nil}
use Rattle.xet_base.specs.Store.{Store}
use Rattle.xet_outside.specs.Told.{ClientTold}
use Rattle.xet_store.specs.Taps.{TapTold}
use Rattle.xet_get_command.specs.steps.OwnTaps.{behind_own}
use Rattle.xet_get_command.specs.steps.TapRuns.{IsNew}

reverse-last : {X : Type 0} (xs : List X) (x : X) → reverse (xs ++ x ∷ []) ≡ x ∷ reverse xs
reverse-last xs x = reverse-append xs (x ∷ [])

module _ {X T : Type 0} (tap : X → T) where
  -- one more tap left
  pub one_left : (ts rest : List T) (cs ds : List X) (x : X) (t : T) (all : List T) → ts ≡ rest ++ t ∷ [] → ds ≡ cs ++ x ∷ [] → tap x ≡ t
      → map tap cs ++ reverse ts ≡ all → map tap ds ++ reverse rest ≡ all
  one_left ts rest cs ds x t all e f g h =
      ap (λ (l : List X). map tap l ++ reverse rest) f ∙ ap (λ (l : List T). l ++ reverse rest) (map-append tap cs (x ∷ []))
      ∙ append_assoc (map tap cs) (tap x ∷ []) (reverse rest)
      ∙ ap (λ (u : T). map tap cs ++ (u ∷ reverse rest)) g
      ∙ sym (ap (λ (l : List T). map tap cs ++ l) (ap reverse e ∙ reverse-last rest t)) ∙ h

-- so of each connection
pub each_left : {X : Type 0} (P : X → Type 0) (cs ds : List X) (x : X) → ds ≡ cs ++ x ∷ [] → P x → All P cs → All P ds
each_left P cs ds x e p h = rw e (All-append P cs (x ∷ []) h (All-cons P x [] p (All-nil P)))

-- a connection that was made now
pub is_new : (s r : Store) (t u : TapTold) (c : ClientTold) → c ≡ behind_own r (record { asked = []; said = []; served = [] }) u u → r ≡ s → u ≡ t → IsNew s t c
is_new s r t u c e f g =
    e ∙ ap (λ (z : Store). behind_own z (record { asked = []; said = []; served = [] }) u u) f
    ∙ ap (λ (z : TapTold). behind_own s (record { asked = []; said = []; served = [] }) z z) g

-- ---- the first ones, as many as there are lanes

pub take_front : {X : Type 0} (xs ys : List X) (n : ℕ) → length xs ≡ n → take n (xs ++ ys) ≡ xs
take_front [] ys zero e = refl
take_front [] ys (suc n) e = absurd (omega (arith, e))
take_front (x ∷ xs) ys zero e = absurd (omega (arith, e))
take_front {X} (x ∷ xs) ys (suc n) e = ap (λ (l : List X). x ∷ l) (take_front xs ys n (omega (arith, e)))

take_whole : {X : Type 0} (xs : List X) (n : ℕ) → length xs ≤ n → take n xs ≡ xs
take_whole [] zero h = refl
take_whole [] (suc n) h = refl
take_whole (x ∷ xs) zero h = absurd (omega (arith, h))
take_whole {X} (x ∷ xs) (suc n) h = ap (λ (l : List X). x ∷ l) (take_whole xs n (omega (arith, h)))

drop_past : {X : Type 0} (xs : List X) (n : ℕ) → length xs ≤ n → drop n xs ≡ []
drop_past [] zero h = refl
drop_past [] (suc n) h = refl
drop_past (x ∷ xs) zero h = absurd (omega (arith, h))
drop_past (x ∷ xs) (suc n) h = drop_past xs n (omega (arith, h))

no_rest : {X : Type 0} (xs : List X) → length xs ≡ 0 → xs ≡ []
no_rest [] e = refl
no_rest (x ∷ xs) e = absurd (omega (arith, e))

pub first_ones : {X : Type 0} (n : ℕ) (used rest : List X) → length used ≡ min n 64 → length (used ++ rest) ≡ 64 → (take n (used ++ rest) ≡ used) × (drop n (used ++ rest) ≡ rest)
first_ones {X} n used rest f g = by (nat_lt 64 n) refl
  where
    all : length (used ++ rest) ≡ length used + length rest
    all = length-append used rest

    by : (v : Bool) → nat_lt 64 n ≡ v → (take n (used ++ rest) ≡ used) × (drop n (used ++ rest) ≡ rest)
    by true h =
        let past = ltb-true 64 n h in
        let none : rest ≡ [] = no_rest rest (omega (arith, all, f, g, past)) in (
          take_whole (used ++ rest) n (omega (arith, g, past)) ∙ ap (λ (l : List X). used ++ l) none ∙ append-nil used,
          drop_past (used ++ rest) n (omega (arith, g, past)) ∙ sym none,
        )
    by false h =
        let within = ltb-false 64 n h in
        let size : length used ≡ n = omega (arith, f, within) in
        (take_front used rest n size, drop_at used rest n size)

-- the first ones before and after, and the others
pub first_same : {X : Type 0} (n : ℕ) (olds nows used news rest : List X) → olds ≡ used ++ rest → nows ≡ news ++ rest → length olds ≡ 64 → length used ≡ min n 64 → length news ≡ length used
    → (take n olds ≡ used) × (take n nows ≡ news) × (drop n nows ≡ drop n olds)
first_same {X} n olds nows used news rest is now count few same =
    let all : length (used ++ rest) ≡ 64 = ap length (sym is) ∙ count in
    let a = length-append used rest in
    let b = length-append news rest in
    let before = first_ones n used rest few all in
    let after = first_ones n news rest (same ∙ few) (omega (arith, all, a, b, same)) in
    let left : drop n nows ≡ rest = ap (λ (l : List X). drop n l) now ∙ after.1 in
    let was : drop n olds ≡ rest = ap (λ (l : List X). drop n l) is ∙ before.1 in
    (ap (λ (l : List X). take n l) is ∙ before.0, ap (λ (l : List X). take n l) now ∙ after.0, left ∙ sym was)
