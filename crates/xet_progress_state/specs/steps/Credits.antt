-- What crediting the parts of a xorb does to parts and files.
use Rattle.std.specs.Prelude.{ℕ, ◌≡◌, ◌<◌, ◌≤◌, ◌+◌, ◌-◌, ◌^◌, Bool, false, cond, ◌||◌, nat_eq, List, [], ◌∷◌, ◌++◌}
use Rattle.std.specs.Prelude.{◌⊎◌, map, find, length, None, All, slice_index_or, slice_set}
use Rattle.std.specs.List.{sum_by}
use Rattle.xet_base.specs.declared.merklehash.MerkleHash.{MerkleHash}
use Rattle.xet_base.specs.Hashes.{hash_eq}
use Rattle.xet_progress_state.specs.declared.file.TrackedFile.{TrackedFile}
use Rattle.xet_progress_state.specs.declared.xorb.TrackedXorb.{TrackedXorb}
use Rattle.xet_progress_state.specs.declared.part.Part.{Part}
use Rattle.xet_progress_state.specs.Counts.{share}

-- a part with its share credited
abbrev pub with_share : ℕ → ℕ → Part → Part
with_share sent size p = record p { credited = share p.waiting sent size }

-- what the file of a part gains by that
abbrev pub gain : ℕ → ℕ → Part → ℕ
gain sent size p = share p.waiting sent size - p.credited

abbrev pub gain_in : ℕ → ℕ → ℕ → Part → ℕ
gain_in sent size f p = cond (nat_eq p.file f) (gain sent size p) 0

-- a file with more bytes completed
abbrev pub with_more : ℕ → TrackedFile → TrackedFile
with_more n f = record f { completed = f.completed + n }

abbrev pub total_in : List TrackedFile → ℕ
total_in fs = sum_by (λ f. f.total) fs

abbrev pub completed_in : List TrackedFile → ℕ
completed_in fs = sum_by (λ f. f.completed) fs

-- the parts can be credited
pub record CanCredit (fs : List TrackedFile) (ps : List Part) (sent size : ℕ) : Type 0 where
  pub partly : sent ≤ size
  pub known : All (λ p. p.file < length fs) ps
  pub rises : All (λ p. p.credited ≤ share p.waiting sent size) ps
  pub room : (f : ℕ) (d : TrackedFile) → f < length fs
      → (slice_index_or fs f d).completed + sum_by (gain_in sent size f) ps ≤ (slice_index_or fs f d).total
  pub fits : total_in fs < 2 ^ 64

-- each file gained what its parts gained
abbrev pub Credited : List TrackedFile → List TrackedFile → List Part → ℕ → ℕ → Type 0
Credited fs gs ps sent size = (f : ℕ) (d : TrackedFile) → f < length fs
    → slice_index_or gs f d ≡ with_more (sum_by (gain_in sent size f) ps) (slice_index_or fs f d)

-- a new entry for a xorb
pub record IsBare (h : MerkleHash) (x : TrackedXorb) : Type 0 where
  pub hash_is : x.hash ≡ h
  pub no_size : x.size ≡ None
  pub nothing_sent : x.sent ≡ 0
  pub waiting : x.completed ≡ false
  pub no_parts : x.parts ≡ []

-- the entries, with one for a xorb
abbrev pub Entered : MerkleHash → List TrackedXorb → List TrackedXorb → Type 0
Entered h xs ys = (ys ≡ xs) ⊎ ((x : TrackedXorb) × IsBare h x × (find (λ y. hash_eq y.hash h) xs ≡ None)
    × (ys ≡ xs ++ x ∷ []))

-- an entry after its parts were credited
pub record Advanced (x y : TrackedXorb) (sent size : ℕ) : Type 0 where
  pub same_hash : y.hash ≡ x.hash
  pub same_size : y.size ≡ x.size
  pub parts_are : y.parts ≡ map (with_share sent size) x.parts

-- the entries after the parts of the one at a place were credited, and the files after it
pub record AdvancedAt (xs ys : List TrackedXorb) (fs gs : List TrackedFile) (place : ℕ) (done : Bool)
    (sent size : ℕ) : Type 0 where
  pub old : TrackedXorb
  pub new : TrackedXorb
  pub old_is : old ≡ slice_index_or xs place old
  pub new_is : ys ≡ slice_set xs place new
  pub advanced : Advanced old new sent size
  pub done_is : new.completed ≡ (done || old.completed)
  pub sent_is : done ≡ false → new.sent ≡ sent
  pub credited : Credited fs gs old.parts sent size
