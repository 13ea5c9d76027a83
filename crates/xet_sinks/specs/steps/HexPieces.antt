-- How a piece of digits is filled, and how the sink below stands in it.
use Rattle.std.specs.Prelude.{ℕ, ◌≡◌, ◌*◌, ◌<◌, ◌≤◌, List, length, take, Option, is_some, Bool, true, false}
use Rattle.hex.specs.Hex.{IsBytes, encode_lower}
use Rattle.xet_outside.specs.Told.{Took}
use Rattle.xet_sinks.specs.HexText.{all_hex, even, since, steps}

-- the digits in front of the array are those of the bytes
pub record Filled (f bs : List ℕ) : Type 0 where
  pub bytes : IsBytes bs
  pub size : length f ≡ 256
  pub hex : all_hex f ≡ true
  pub room : 2 * length bs ≤ length f
  pub front : take (2 * length bs) f ≡ encode_lower bs

-- how the inner sink stands: the digit at `at` is owed, none where that is 0
pub record Stands (start known now : Option (List ℕ)) (digits : List ℕ) (at : ℕ) (stopped : Bool) : Type 0 where
  pub began : Took start now (since start now)
  pub hex : all_hex (since start now) ≡ true
  pub piece : all_hex digits ≡ true
  pub next : even (since start now) ≡ false → steps known now < length digits
  pub whole : stopped ≡ false → at ≡ 0 → even (since start now) ≡ true
  pub owed : stopped ≡ false → 0 < at
      → (at < length digits) × (is_some now ≡ true → (steps known now ≡ at) × (even (since start now) ≡ false))
