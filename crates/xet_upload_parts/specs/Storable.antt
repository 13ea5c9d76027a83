-- Chunks of which a xorb can be stored.
use Rattle.std.specs.Prelude.{ℕ, List}
use Rattle.xet_waiting.specs.Waitings.{HaveBytes, IsWithin}

-- each chunk has a byte, and a xorb of them is within the limits
pub record IsStorable (cs : List (List ℕ)) : Type 0 where
  pub some : HaveBytes cs
  pub within : IsWithin cs
