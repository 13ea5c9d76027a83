-- What is not complete, over what the tracker keeps.
use Rattle.std.specs.Prelude.{ℕ, ◌≡◌, ◌<◌, ◌≤◌, Bool, true, false, cond, ◌||◌, nat_eq, List, length, find, Option, Some}
use Rattle.std.specs.Prelude.{None, option_map, unwrap_or, slice_index_or}
use Rattle.std.specs.List.{flat_map, list_any}
use Rattle.std.specs.Ordering.{nat_cmp}
use Rattle.std.specs.BTreeSet.{contains}
use Rattle.xet_base.specs.declared.merklehash.MerkleHash.{MerkleHash}
use Rattle.xet_base.specs.Hashes.{hash_eq}
use Rattle.xet_progress_state.specs.declared.error.Incomplete.{Incomplete}
use Rattle.xet_progress_state.specs.declared.error.Incomplete.TheVariants.{File}
use Rattle.xet_progress_state.specs.declared.file.TrackedFile.{TrackedFile}
use Rattle.xet_progress_state.specs.declared.xorb.TrackedXorb.{TrackedXorb}
use Rattle.xet_progress_state.specs.declared.marks.Marks.{Marks}
use Rattle.xet_progress_state.specs.declared.step.FileXorbDependency.{FileXorbDependency}
use Rattle.xet_progress_state.specs.declared.step.TrackerStep.{TrackerStep}
use Rattle.xet_progress_state.specs.declared.step.TrackerStep.TheVariants.{RegisterDependencies}
use Rattle.xet_progress_state.specs.Counts.{named, is_completed}

abbrev pub open_in : ℕ × TrackedFile → Option Incomplete
open_in f = cond (nat_eq f.1.completed f.1.total) None (Some (File f.0 f.1.completed f.1.total))

-- the entry of a xorb is completed
abbrev pub done_in : List TrackedXorb → MerkleHash → Bool
done_in xs h = unwrap_or (option_map (λ x. x.completed) (find (λ x. hash_eq x.hash h) xs)) false

-- each file below the mark is complete or among the reopened ones, and these are below the mark
pub record Marked (fs : List TrackedFile) (m : Marks) : Type 0 where
  pub complete : (f : ℕ) (d : TrackedFile) → f < m.mark → contains nat_cmp m.reopened f ≡ false
      → (slice_index_or fs f d).total ≤ (slice_index_or fs f d).completed
  pub below : (f : ℕ) → contains nat_cmp m.reopened f ≡ true → f < m.mark
  pub within : m.mark ≤ length fs

-- the other files are the same
abbrev pub SameBut : ℕ → List TrackedFile → List TrackedFile → Type 0
SameBut id fs gs = (length gs ≡ length fs)
    × ((f : ℕ) (d : TrackedFile) → (f ≡ id → ⊥) → slice_index_or gs f d ≡ slice_index_or fs f d)

-- no file has another total, or less completed
pub record Risen (fs gs : List TrackedFile) : Type 0 where
  pub count : length gs ≡ length fs
  pub same_total : (f : ℕ) (d : TrackedFile) → f < length fs
      → (slice_index_or gs f d).total ≡ (slice_index_or fs f d).total
  pub no_less : (f : ℕ) (d : TrackedFile) → f < length fs
      → (slice_index_or fs f d).completed ≤ (slice_index_or gs f d).completed

-- the hash is among some
abbrev pub has : List MerkleHash → MerkleHash → Bool
has ns h = list_any (λ y. hash_eq y h) ns

-- some names with those of dependencies
abbrev pub WithNames : List MerkleHash → List FileXorbDependency → List MerkleHash → Type 0
WithNames ns ds ms = (h : MerkleHash) → has ms h ≡ (has ns h || has (named (RegisterDependencies ds)) h)

-- the kept names are those that the calls gave, but for completed xorbs
abbrev pub NamesStand : List TrackerStep → List MerkleHash → Type 0
NamesStand cs ns = (h : MerkleHash) → is_completed cs h ≡ false → has ns h ≡ has (flat_map named cs) h
