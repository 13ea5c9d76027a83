-- The hash that 64 digits spell.
use Rattle.std.proofs.Common.{◌≡◌, ◌≢◌, ◌≤◌, ◌%◌, ◌/◌, ◌∙◌, ℕ, Bool, true, false, List, eqb, eqb-true, length, refl, ap, sym, arith, None, Some}
use Rattle.std.specs.Prelude.{option_map}
use Rattle.std.proofs.lemmas.Bool.{eqb-false}
use Rattle.std.proofs.lemmas.Option.{none-some}
use Rattle.std.specs.Result.{result_ok}
use Rattle.hex.specs.Hex.{decode_sized}
use Rattle.xet_base.specs.declared.merklehash.MerkleHash.{MerkleHash}
use Rattle.xet_base.specs.HashText.{hash_of_text}

abbrev of_bytes : List ℕ → MerkleHash
of_bytes bytes = record { 0 = bytes }

sized_else : (text : List ℕ) → length text ≢ 64 → result_ok (decode_sized text 32) ≡ None
sized_else text e = go (eqb (length text % 2) 1) refl (eqb (length text / 2) 32) refl
  where
    go : (odd : Bool) → eqb (length text % 2) 1 ≡ odd → (half : Bool) → eqb (length text / 2) 32 ≡ half → result_ok (decode_sized text 32) ≡ None
    go true f half g = grind (arith)
    go false f true g = absurd (e (let h = eqb-true (length text / 2) 32 g in grind (arith)))
    go false f false g = grind (arith)

-- another number of digits spells none
pub hash_else : (text : List ℕ) → length text ≢ 64 → hash_of_text text ≡ None
hash_else text e = ap (λ o. option_map of_bytes o) (sized_else text e)

-- so what spells a hash has eight bytes or more
pub hash_long : (text : List ℕ) (h : MerkleHash) → hash_of_text text ≡ Some h → 8 ≤ length text
hash_long text h e = go (eqb (length text) 64) refl
  where
    go : (v : Bool) → eqb (length text) 64 ≡ v → 8 ≤ length text
    go true f = let g = eqb-true (length text) 64 f in omega (arith, g)
    go false f = absurd (none-some h (sym (hash_else text (eqb-false (length text) 64 f)) ∙ e))
