-- What a look for a registered xorb answers.
use Rattle.std.specs.Prelude.{◌≡◌, ◌<◌, List, length, Some, position, slice_index_or}
use Rattle.xet_base.specs.declared.merklehash.MerkleHash.{MerkleHash}
use Rattle.xet_base.specs.Hashes.{hash_eq}
use Rattle.xet_progress_state.specs.declared.xorb.TrackedXorb.{TrackedXorb}
use Rattle.xet_progress_state.specs.declared.xorb.Found.{Found}

pub record IsFound (h : MerkleHash) (xs : List TrackedXorb) (f : Found) : Type 0 where
  pub place_is : position (λ x. hash_eq x.hash h) xs ≡ Some f.place
  pub inside : f.place < length xs
  pub size_is : (d : TrackedXorb) → (slice_index_or xs f.place d).size ≡ Some f.size
  pub sent_is : (d : TrackedXorb) → (slice_index_or xs f.place d).sent ≡ f.sent
  pub completed_is : (d : TrackedXorb) → (slice_index_or xs f.place d).completed ≡ f.completed
