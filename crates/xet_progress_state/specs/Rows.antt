-- Lists of accepted calls whose counts were worked out by hand.
use Rattle.std.specs.Prelude.{ℕ, List, [], ◌∷◌, ◌++◌, Some, true, false, replicate}
use Rattle.xet_base.specs.declared.merklehash.MerkleHash.{MerkleHash}
use Rattle.xet_progress_state.specs.declared.step.TrackerStep.{TrackerStep}
use Rattle.xet_progress_state.specs.declared.step.TrackerStep.TheVariants.{RegisterNewFile, RegisterNewXorb}
use Rattle.xet_progress_state.specs.declared.step.TrackerStep.TheVariants.{RegisterDependencies}
use Rattle.xet_progress_state.specs.declared.step.TrackerStep.TheVariants.{RegisterXorbUploadProgress}

abbrev pub hash : ℕ → MerkleHash
hash n = record { 0 = replicate 31 0 ++ n ∷ [] }

abbrev pub waiting : ℕ → ℕ → ℕ → TrackerStep
waiting f x n = RegisterDependencies (record { file_id = f; xorb_hash = hash x; n_bytes = n; is_external = false } ∷ [])

abbrev pub outside : ℕ → ℕ → ℕ → TrackerStep
outside f x n = RegisterDependencies (record { file_id = f; xorb_hash = hash x; n_bytes = n; is_external = true } ∷ [])

-- an external part counts at once, the other one at completion
abbrev pub external_and_waiting : List TrackerStep
external_and_waiting =
    RegisterNewFile (Some 200) ∷ RegisterNewFile (Some 300) ∷ RegisterNewXorb
    (hash 1) 1000 ∷ waiting 0 1 100 ∷ outside 1 1 200 ∷ []

-- progress in thirds
abbrev pub thirds : List TrackerStep
thirds = RegisterNewFile (Some 100) ∷ RegisterNewXorb (hash 7) 3 ∷ waiting 0 7 100 ∷ RegisterXorbUploadProgress
    (hash 7) 1 ∷ []

-- two files wait for one xorb
abbrev pub shared : List TrackerStep
shared =
    RegisterNewFile (Some 100) ∷ RegisterNewFile (Some 100) ∷ RegisterNewXorb
    (hash 1) 200 ∷ waiting 0 1 100 ∷ waiting 1 1 100 ∷ RegisterXorbUploadProgress (hash 1) 50 ∷ []

-- a part after the last progress waits for the next one
abbrev pub late_part : List TrackerStep
late_part = RegisterNewFile (Some 100) ∷ RegisterNewXorb (hash 1) 10 ∷ waiting 0 1 40 ∷ RegisterXorbUploadProgress
    (hash 1) 5 ∷ waiting 0 1 60 ∷ []
