-- Numbers as keys of a set.
use Rattle.std.proofs.Common.{◌≡◌, ℕ, ◌==◌, ◌||◌, Bool, true, false, cond, refl, sym, ◌∙◌, arith}
use Rattle.std.specs.declared.cmp.Ordering.TheVariants.{Less, Equal, Greater}
use Rattle.std.specs.Ordering.{is_eq, nat_cmp}
use Rattle.std.proofs.lemmas.Bool.{ltb-true, ne_eqb}
use Rattle.std.specs.Prelude.{nat_lt}

pub is_eq-nat : (a b : ℕ) → is_eq (nat_cmp a b) ≡ (a == b)
is_eq-nat a b = go (nat_lt a b) refl (a == b) refl
  where
    go : (l : Bool) → nat_lt a b ≡ l → (e : Bool) → (a == b) ≡ e → is_eq (cond l Less (cond e Equal Greater)) ≡ e
    go true h e k = sym (sym k ∙ ne_eqb a b (λ s. let t = ltb-true a b h in omega arith))
    go false h true k = refl
    go false h false k = refl

pub or_true : (s t : Bool) → cond s true t ≡ (t || s)
or_true true true = refl
or_true true false = refl
or_true false true = refl
or_true false false = refl

pub or_false : (t : Bool) → t ≡ (t || false)
or_false true = refl
or_false false = refl
