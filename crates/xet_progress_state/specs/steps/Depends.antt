-- The tests of dependencies over the files that the tracker keeps, and the room that they need.
use Rattle.std.specs.Prelude.{ℕ, ◌≡◌, ◌<◌, ◌+◌, ◌^◌, Bool, true, false, cond, ◌||◌, ◌⊎◌, nat_eq, nat_lt, List, [], ◌∷◌}
use Rattle.std.specs.Prelude.{◌++◌, find, length, Option, Some, None, All, position, slice_index_or, slice_set}
use Rattle.std.specs.List.{sum_by, list_any}
use Rattle.xet_base.specs.Hashes.{hash_eq}
use Rattle.xet_base.specs.declared.invalid.Invalid.{Invalid}
use Rattle.xet_base.specs.declared.invalid.Invalid.TheVariants.{UnknownFile}
use Rattle.xet_progress_state.specs.declared.step.FileXorbDependency.{FileXorbDependency}
use Rattle.xet_progress_state.specs.declared.step.TrackerStep.{TrackerStep}
use Rattle.xet_progress_state.specs.declared.file.TrackedFile.{TrackedFile}
use Rattle.xet_progress_state.specs.declared.xorb.TrackedXorb.{TrackedXorb}
use Rattle.xet_progress_state.specs.declared.part.Part.{Part}
use Rattle.xet_progress_state.specs.Counts.{of_file}
use Rattle.xet_progress_state.specs.Accepted.{past_total, or_else}
use Rattle.xet_progress_state.specs.steps.Kept.{IsKept}

abbrev pub no_file : TrackedFile
no_file = record { fixed = false; total = 0; registered = 0; completed = 0 }

abbrev pub unknown_in : ℕ → FileXorbDependency → Option Invalid
unknown_in count d = cond (nat_lt d.file_id count) None (Some (UnknownFile d.file_id))

abbrev pub past_in : List TrackedFile → List FileXorbDependency → FileXorbDependency → Option Invalid
past_in fs before d =
    let f = slice_index_or fs d.file_id (record { fixed = false; total = 0; registered = 0; completed = 0 }) in
    past_total f.total (f.registered + sum_by (of_file d.file_id) before) d.n_bytes

abbrev pub pasts_in : List TrackedFile → List FileXorbDependency → List FileXorbDependency → Option Invalid
pasts_in fs before [] = None
pasts_in fs before (d ∷ ds) = or_else (past_in fs before d) (pasts_in fs (before ++ d ∷ []) ds)

-- files after dependencies were counted as registered
pub record CountedIn (fs gs : List TrackedFile) (ds : List FileXorbDependency) : Type 0 where
  pub count : length gs ≡ length fs
  pub each : (f : ℕ) (e : TrackedFile) → f < length fs
      → slice_index_or gs f e ≡ record
      (slice_index_or fs f e) { registered = (slice_index_or fs f e).registered + sum_by (of_file f) ds }

abbrev pub has_part : ℕ → Option TrackedXorb → Bool
has_part f None = false
has_part f (Some x) = list_any (λ p. nat_eq p.file f) x.parts

-- there is an entry and a part for a dependency
abbrev pub has_room : List TrackedXorb → FileXorbDependency → Bool
has_room xs d = d.is_external || has_part d.file_id (find (λ x. hash_eq x.hash d.xorb_hash) xs)

-- what the entries stand for, these stand for too
abbrev pub StandAlike : ℕ → List TrackedXorb → List TrackedXorb → Type 0
StandAlike count xs ys = (cs : List TrackerStep) (fs : List TrackedFile) (t c s : ℕ) → length fs ≡ count
    → IsKept cs fs xs t c s → IsKept cs fs ys t c s

-- a file with a dependency more, of which all bytes count or none
abbrev pub with_dependency : Bool → ℕ → TrackedFile → TrackedFile
with_dependency counts n f = record f { registered = f.registered + n; completed = f.completed + cond counts n 0 }

-- the parts with one of a file
abbrev pub WithPart : ℕ → List Part → List Part → Type 0
WithPart f ps qs = ((list_any (λ p. nat_eq p.file f) ps ≡ true) × (qs ≡ ps))
    ⊎ ((list_any (λ p. nat_eq p.file f) ps ≡ false)
    × (qs ≡ ps ++ record { file = f; waiting = 0; credited = 0 } ∷ []))

-- the parts, or those with one more of a file
abbrev pub PartsAlike : ℕ → List Part → List Part → Type 0
PartsAlike f ps qs = (qs ≡ ps) ⊎ WithPart f ps qs

-- a part with more bytes waiting, of which all count where the xorb is completed
abbrev pub with_waiting : Bool → ℕ → Part → Part
with_waiting done n p = record p { waiting = p.waiting + n; credited = p.credited + cond done n 0 }

-- the entries after a part of the xorb got more bytes
pub record Waited (xs ys : List TrackedXorb) (d : FileXorbDependency) (done : Bool) : Type 0 where
  pub place : ℕ
  pub old : TrackedXorb
  pub new : TrackedXorb
  pub number : ℕ
  pub place_is : position (λ x. hash_eq x.hash d.xorb_hash) xs ≡ Some place
  pub old_is : old ≡ slice_index_or xs place old
  pub new_is : ys ≡ slice_set xs place new
  pub same_hash : new.hash ≡ old.hash
  pub same_size : new.size ≡ old.size
  pub same_sent : new.sent ≡ old.sent
  pub same_done : new.completed ≡ old.completed
  pub done_is : done ≡ old.completed
  pub inside : number < length old.parts
  pub file_is : (slice_index_or old.parts number (record { file = 0; waiting = 0; credited = 0 })).file ≡ d.file_id
  pub parts_are : new.parts ≡ slice_set old.parts number
      (with_waiting old.completed d.n_bytes
      (slice_index_or old.parts number (record { file = 0; waiting = 0; credited = 0 })))

-- more bytes fit the part of a file
abbrev pub PartFits : ℕ → ℕ → List Part → Type 0
PartFits f n ps = All (λ p. nat_eq p.file f ≡ true → (p.waiting + n < 2 ^ 64) × (p.credited + n < 2 ^ 64)) ps

abbrev pub CanWait : List TrackedXorb → FileXorbDependency → Type 0
CanWait xs d = (x : TrackedXorb) → find (λ x. hash_eq x.hash d.xorb_hash) xs ≡ Some x
    → PartFits d.file_id d.n_bytes x.parts

-- files, entries and the sum after a dependency
pub record Depended (fs gs : List TrackedFile) (xs ys : List TrackedXorb) (c r : ℕ)
    (d : FileXorbDependency) : Type 0 where
  pub counts : Bool
  pub files_are : gs ≡ slice_set fs d.file_id
      (with_dependency counts d.n_bytes
      (slice_index_or fs d.file_id (record { fixed = false; total = 0; registered = 0; completed = 0 })))
  pub sum_is : r ≡ c + cond counts d.n_bytes 0
  pub outside : d.is_external ≡ true → (counts ≡ true) × (ys ≡ xs)
  pub inside : d.is_external ≡ false → Waited xs ys d counts

-- a dependency for which there is room, and whose bytes fit
pub record CanDepend (fs : List TrackedFile) (xs : List TrackedXorb) (c : ℕ) (d : FileXorbDependency) : Type 0 where
  pub known : d.file_id < length fs
  pub room : has_room xs d ≡ true
  pub waits : CanWait xs d
  pub registered_fits : (slice_index_or fs d.file_id
      (record { fixed = false; total = 0; registered = 0; completed = 0 })).registered + d.n_bytes < 2 ^ 64
  pub counted_fits : (slice_index_or fs d.file_id
      (record { fixed = false; total = 0; registered = 0; completed = 0 })).completed + d.n_bytes < 2 ^ 64
  pub sum_fits : c + d.n_bytes < 2 ^ 64
