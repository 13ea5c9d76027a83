-- What a list of accepted calls of the tracker counts.
use Rattle.std.specs.Prelude.{ℕ, ◌+◌, ◌*◌, ◌/◌, Bool, false, cond, not, ◌&&◌, nat_eq, List, [], ◌∷◌, map, filter, find}
use Rattle.std.specs.Prelude.{Option, option_map, unwrap_or}
use Rattle.std.specs.List.{flat_map, sum_by, list_any, enumerate_from}
use Rattle.xet_base.specs.declared.merklehash.MerkleHash.{MerkleHash}
use Rattle.xet_base.specs.Hashes.{hash_eq}
use Rattle.xet_base.specs.Lists.{firsts}
use Rattle.xet_progress_state.specs.declared.step.FileXorbDependency.{FileXorbDependency}
use Rattle.xet_progress_state.specs.declared.step.TrackerStep.{TrackerStep}
use Rattle.xet_progress_state.specs.declared.step.TrackerStep.TheVariants.{RegisterNewFile, IncrementFileSize}
use Rattle.xet_progress_state.specs.declared.step.TrackerStep.TheVariants.{RegisterNewXorb, RegisterDependencies}
use Rattle.xet_progress_state.specs.declared.step.TrackerStep.TheVariants.{RegisterXorbUploadCompletion}
use Rattle.xet_progress_state.specs.declared.step.TrackerStep.TheVariants.{RegisterXorbUploadProgress}
use Rattle.xet_progress_state.specs.declared.step.TrackerStep.TheVariants.{RegisterXorbUploadProgressBackground}

-- the file that a call registers, by its fixed size
abbrev pub new_file : TrackerStep → List (Option ℕ)
new_file (RegisterNewFile n) = n ∷ []
new_file _ = []

-- how much it adds to the size of a file
abbrev pub growth : ℕ → TrackerStep → ℕ
growth f (IncrementFileSize g k) = cond (nat_eq g f) k 0
growth f _ = 0

-- the xorb that it registers, with its size
abbrev pub new_xorb : TrackerStep → List (MerkleHash × ℕ)
new_xorb (RegisterNewXorb h s) = (h, s) ∷ []
new_xorb _ = []

-- the dependencies that it registers
abbrev pub new_dependencies : TrackerStep → List FileXorbDependency
new_dependencies (RegisterDependencies ds) = ds
new_dependencies _ = []

-- it completes a xorb
abbrev pub completes : MerkleHash → TrackerStep → Bool
completes h (RegisterXorbUploadCompletion g) = hash_eq g h
completes h _ = false

-- it reports progress of a xorb
abbrev pub progresses : MerkleHash → TrackerStep → Bool
progresses h (RegisterXorbUploadProgress g k) = hash_eq g h
progresses h (RegisterXorbUploadProgressBackground g k) = hash_eq g h
progresses h _ = false

-- the progress that it reports of a xorb
abbrev pub progress_by : MerkleHash → TrackerStep → ℕ
progress_by h (RegisterXorbUploadProgress g k) = cond (hash_eq g h) k 0
progress_by h (RegisterXorbUploadProgressBackground g k) = cond (hash_eq g h) k 0
progress_by h _ = 0

-- the xorbs that a call names, but for those of external dependencies
abbrev pub named : TrackerStep → List MerkleHash
named (RegisterNewXorb h s) = h ∷ []
named (RegisterDependencies ds) = map (λ d. d.xorb_hash) (filter (λ d. not d.is_external) ds)
named _ = []

-- the fixed size of each file, in the order of the ids
abbrev pub sizes : List TrackerStep → List (Option ℕ)
sizes cs = flat_map new_file cs

-- the sum of what the calls add to the size of a file
abbrev pub grown : List TrackerStep → ℕ → ℕ
grown cs f = sum_by (growth f) cs

-- the files: id and fixed size
abbrev pub files : List TrackerStep → List (ℕ × Option ℕ)
files cs = enumerate_from 0 (sizes cs)

-- a file's total: its fixed size, or the sum of its increments
abbrev pub total_of : List TrackerStep → ℕ × Option ℕ → ℕ
total_of cs f = unwrap_or f.1 (grown cs f.0)

-- each registration of a xorb
abbrev pub registrations : List TrackerStep → List (MerkleHash × ℕ)
registrations cs = flat_map new_xorb cs

-- the registered xorbs
abbrev pub xorbs : List TrackerStep → List MerkleHash
xorbs cs = firsts hash_eq (map (λ x. x.0) (registrations cs))

-- the size of a registered xorb: that of its first registration
abbrev pub size_of : List TrackerStep → MerkleHash → Option ℕ
size_of cs h = option_map (λ x. x.1) (find (λ x. hash_eq x.0 h) (registrations cs))

-- and 0 where it is not registered
abbrev pub size_or_zero : List TrackerStep → MerkleHash → ℕ
size_or_zero cs h = unwrap_or (size_of cs h) 0

-- all dependencies, in order
abbrev pub dependencies : List TrackerStep → List FileXorbDependency
dependencies cs = flat_map new_dependencies cs

-- the bytes of a dependency, where it is one of a file; an external one of a file; one of a file that waits for a xorb
abbrev pub of_file : ℕ → FileXorbDependency → ℕ
of_file f d = cond (nat_eq d.file_id f) d.n_bytes 0

abbrev pub external_of : ℕ → FileXorbDependency → ℕ
external_of f d = cond (nat_eq d.file_id f && d.is_external) d.n_bytes 0

abbrev pub part_of : ℕ → MerkleHash → FileXorbDependency → ℕ
part_of f h d = cond (nat_eq d.file_id f && (not d.is_external && hash_eq d.xorb_hash h)) d.n_bytes 0

-- the bytes of all dependencies of a file, of its external ones, and of its part in a xorb
abbrev pub registered : List TrackerStep → ℕ → ℕ
registered cs f = sum_by (of_file f) (dependencies cs)

abbrev pub external : List TrackerStep → ℕ → ℕ
external cs f = sum_by (external_of f) (dependencies cs)

abbrev pub part : List TrackerStep → ℕ → MerkleHash → ℕ
part cs f h = sum_by (part_of f h) (dependencies cs)

-- a call completed the xorb
abbrev pub is_completed : List TrackerStep → MerkleHash → Bool
is_completed cs h = list_any (completes h) cs

-- the progress of a xorb, summed
abbrev pub progress : List TrackerStep → MerkleHash → ℕ
progress cs h = sum_by (progress_by h) cs

-- the calls up to the last one that reports progress of a xorb
abbrev pub up_to_progress : MerkleHash → List TrackerStep → List TrackerStep
up_to_progress h [] = []
up_to_progress h (c ∷ cs) = cond (list_any (progresses h) (c ∷ cs)) (c ∷ up_to_progress h cs) []

-- n times c over a size, rounded down, and 0 for size 0
abbrev pub share : ℕ → ℕ → ℕ → ℕ
share n c size = cond (nat_eq size 0) 0 (n * c / size)

-- what counts of a file's part in a xorb: all of it where the xorb is completed, else its share at the last progress
abbrev pub counted : List TrackerStep → ℕ → MerkleHash → ℕ
counted cs f h =
    let before = up_to_progress h cs in
    cond (is_completed cs h) (part cs f h) (share (part before f h) (progress before h) (size_or_zero cs h))

-- the completed bytes of a file
abbrev pub completed_of : List TrackerStep → ℕ → ℕ
completed_of cs f = external cs f + sum_by (counted cs f) (xorbs cs)

-- the sums over all files, and over all xorbs
abbrev pub all_total : List TrackerStep → ℕ
all_total cs = sum_by (total_of cs) (files cs)

abbrev pub all_completed : List TrackerStep → ℕ
all_completed cs = sum_by (λ f. completed_of cs f.0) (files cs)

abbrev pub all_sizes : List TrackerStep → ℕ
all_sizes cs = sum_by (size_or_zero cs) (xorbs cs)

-- completed and total over all files
abbrev pub tracker_counts : List TrackerStep → ℕ × ℕ
tracker_counts cs = (all_completed cs, all_total cs)
