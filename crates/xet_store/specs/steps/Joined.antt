-- Xorbs whose chunks stand joined.
use Rattle.std.specs.Prelude.{ℕ, ◌≡◌, ◌+◌, List, [], ◌∷◌}
use Rattle.std.specs.List.{concat}
use Rattle.xet_base.specs.declared.mdb_shard.Xorb.{Xorb}
use Rattle.xet_base.specs.Store.{IsValidXorb}
use Rattle.xet_outside.specs.Plan.{lengths}

-- where each of these lengths ends, where the first one stands at the given place
abbrev pub ends_of : ℕ → List ℕ → List ℕ
ends_of p [] = []
ends_of p (n ∷ ns) = (p + n) ∷ ends_of (p + n) ns

-- a valid xorb, its chunks joined, and where each of them starts, with the end of the last
pub record IsJoined (x : Xorb) (bytes places : List ℕ) : Type 0 where
  pub valid : IsValidXorb x
  pub bytes_are : bytes ≡ concat x.chunks
  pub places_are : places ≡ 0 ∷ ends_of 0 (lengths x.chunks)
