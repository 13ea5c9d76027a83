-- What adding the members of a document to a store gives.
use Rattle.std.specs.Prelude.{◌≡◌, ◌⊎◌, ◌++◌, Bool, true, false, List, [], Option, None, Some, option_map}
use Rattle.serde_json.specs.Data.{Members}
use Rattle.xet_base.specs.declared.mdb_shard.Xorb.{Xorb}
use Rattle.xet_base.specs.declared.stored.StoredFile.{StoredFile}
use Rattle.xet_base.specs.Store.{Store, IsValid}
use Rattle.xet_document.specs.Document.{xorbs_of_members, files_of_members}

abbrev pub with_xorbs : Store → List Xorb → Store
with_xorbs s xs = record s { xorbs = s.xorbs ++ xs }

abbrev pub with_files : Store → List StoredFile → Store
with_files s fs = record s { files = s.files ++ fs }

-- the store with the listed xorbs behind its own, where all are listed in their form
abbrev pub with_xorbs_of : Store → Members → Option Store
with_xorbs_of s ms = option_map (with_xorbs s) (xorbs_of_members ms)

-- the same of files
abbrev pub with_files_of : Store → Members → Option Store
with_files_of s ms = option_map (with_files s) (files_of_members ms)

-- the listed xorbs were added, and the store is valid; or there is no valid store with them, whatever its files are
abbrev pub AddsXorbs : Store → Members → Bool → Store → Type 0
AddsXorbs s ms true t = (with_xorbs_of s ms ≡ Some t) × IsValid t
AddsXorbs s ms false t = (u : Store) → with_xorbs_of s ms ≡ Some u
    → (fs : List StoredFile) → IsValid (record u { files = fs }) → ⊥

-- the same of files
abbrev pub AddsFiles : Store → Members → Bool → Store → Type 0
AddsFiles s ms true t = (with_files_of s ms ≡ Some t) × IsValid t
AddsFiles s ms false t = (u : Store) → with_files_of s ms ≡ Some u → IsValid u → ⊥

-- the listed xorbs were added, and then the listed files; or there is no valid store with them
abbrev pub AddsBoth : Store → Members → Members → Bool → Store → Type 0
AddsBoth s xs fs true t = (m : Store) × AddsXorbs s xs true m × AddsFiles m fs true t
AddsBoth s xs fs false t = AddsXorbs s xs false t ⊎ ((m : Store) × AddsXorbs s xs true m × AddsFiles m fs false t)

abbrev pub no_store : Store
no_store = record { xorbs = []; files = [] }

-- the store of the listed xorbs and files, or none where there is no valid one
abbrev pub IsStoreOf : Members → Members → Option Store → Type 0
IsStoreOf xs fs None = AddsBoth no_store xs fs false no_store
IsStoreOf xs fs (Some t) = AddsBoth no_store xs fs true t

-- ---- the same of lists

-- these xorbs were added, and the store is valid; or there is no valid store with them, whatever its files are
abbrev pub TakesXorbs : Store → List Xorb → Bool → Store → Type 0
TakesXorbs s xs true t = (t ≡ with_xorbs s xs) × IsValid t
TakesXorbs s xs false t = (fs : List StoredFile) → IsValid (record (with_xorbs s xs) { files = fs }) → ⊥

-- these files were added, and the store is valid; or there is no valid store with them
abbrev pub TakesFiles : Store → List StoredFile → Bool → Store → Type 0
TakesFiles s fs true t = (t ≡ with_files s fs) × IsValid t
TakesFiles s fs false t = IsValid (with_files s fs) → ⊥
