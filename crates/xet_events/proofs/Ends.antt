-- Where a list ends.
use Rattle.std.proofs.Common.{◌≡◌, ℕ, suc, ◌-◌, List, [], ◌∷◌, length, Some, sym, ◌∙◌, ap, arith}
use Rattle.std.specs.Prelude.{map, slice_get}
use Rattle.xet_events.specs.Events.{last_of}

-- the last element of a list
pub last_is : {A : Type 0} (f : A → ℕ) (xs : List A) (d : ℕ) (x : A) → slice_get xs (length xs - 1) ≡ Some x → last_of d (map f xs) ≡ f x
last_is f [] d x h = absurd (cc)
last_is f (y ∷ []) d x h = ap f (let e : y ≡ x = cc in e)
last_is f (y ∷ z ∷ zs) d x h =
    let n : length (y ∷ z ∷ zs) - 1 ≡ suc (length (z ∷ zs) - 1) = omega arith in
    last_is f (z ∷ zs) (f y) x (ap (λ (k : ℕ). slice_get (y ∷ z ∷ zs) k) (sym n) ∙ h)
