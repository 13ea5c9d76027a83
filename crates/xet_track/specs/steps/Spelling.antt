-- The call that a line spells, as the code holds it.
use Rattle.std.specs.Prelude.{ℕ, cond, List, [], ◌∷◌, Option, Some, None, codes}
use Rattle.std.specs.Str.{bytes_eq}
use Rattle.xet_base.specs.declared.merklehash.MerkleHash.{MerkleHash}
use Rattle.xet_progress_state.specs.declared.step.TrackerStep.{TrackerStep}
use Rattle.xet_progress_state.specs.declared.step.TrackerStep.TheVariants.{RegisterDependencies, RegisterNewXorb}
use Rattle.xet_progress_state.specs.declared.step.TrackerStep.TheVariants.{RegisterXorbUploadProgress}
use Rattle.xet_progress_state.specs.declared.step.TrackerStep.TheVariants.{RegisterXorbUploadProgressBackground}
use Rattle.xet_track.specs.declared.read.Spelled.{Spelled}
use Rattle.xet_track.specs.declared.read.Spelled.TheVariants.{Step, Dependency}

-- a call, and the call that registers one dependency
abbrev pub call_of : Spelled → TrackerStep
call_of (Step c) = c
call_of (Dependency d) = RegisterDependencies (d ∷ [])

-- `xorb`, `progress` and `background`, of a xorb and a number of its bytes
abbrev pub xorb_step_of : List ℕ → MerkleHash → ℕ → Option TrackerStep
xorb_step_of w h n =
    cond (bytes_eq w (codes "xorb")) (Some (RegisterNewXorb h n))
    (cond (bytes_eq w (codes "progress")) (Some (RegisterXorbUploadProgress h n))
    (cond (bytes_eq w (codes "background")) (Some (RegisterXorbUploadProgressBackground h n)) None))
