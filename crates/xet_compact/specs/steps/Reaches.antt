-- How far the terms of files reach in the xorbs of a store.
use Rattle.std.specs.Prelude.{ℕ, ◌≡◌, ◌<◌, List, [], length, slice_index_or}
use Rattle.std.specs.List.{list_any}
use Rattle.xet_base.specs.declared.mdb_shard.Xorb.{Xorb}
use Rattle.xet_base.specs.declared.stored.StoredFile.{StoredFile}
use Rattle.xet_held.specs.Held.{covers, is_reached}

-- each xorb's terms reach the chunks that a term of these files holds
pub record AreReached (xs : List Xorb) (fs : List StoredFile) (reaches : List (List ℕ)) : Type 0 where
  pub count : length reaches ≡ length xs
  pub long : (i : ℕ) (d : Xorb) → i < length xs
      → length (slice_index_or reaches i []) ≡ length (slice_index_or xs i d).chunks
  pub held : (i k : ℕ) (d : Xorb) → i < length xs → k < length (slice_index_or xs i d).chunks
      → is_reached (slice_index_or reaches i []) k
      ≡ list_any (λ f. list_any (covers (slice_index_or xs i d).hash k) f.terms) fs
