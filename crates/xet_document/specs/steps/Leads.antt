-- The number that the first bytes of a text write.
use Rattle.std.specs.Prelude.{ℕ, ◌≡◌, ◌<◌, ◌≤◌, List, All, length, take}
use Rattle.xet_base.specs.Words.{number_of}

-- the text has eight bytes or more, and the number is the one that its first eight write
pub record IsLead (lead : ℕ) (text : List ℕ) : Type 0 where
  pub long : 8 ≤ length text
  pub bytes : All (λ b. b < 256) (take 8 text)
  pub is : lead ≡ number_of 0 (take 8 text)
