-- What a tracker is told of a xorb that is cut, and of its files.
use Rattle.std.specs.Prelude.{◌≡◌, ◌<◌, false, ltb, List, [], ◌∷◌, length, map, Result, OnOk}
use Rattle.std.specs.List.{filter}
use Rattle.xet_base.specs.declared.merklehash.MerkleHash.{MerkleHash}
use Rattle.xet_progress_state.specs.declared.step.FileXorbDependency.{FileXorbDependency}
use Rattle.xet_progress_state.specs.declared.step.TrackerStep.{TrackerStep}
use Rattle.xet_progress_state.specs.declared.step.TrackerStep.TheVariants.{RegisterDependencies, RegisterNewXorb}
use Rattle.xet_waiting.specs.declared.raw_xorb.PendingFile.{PendingFile}
use Rattle.xet_waiting.specs.declared.raw_xorb.RawXorbData.{RawXorbData}
use Rattle.xet_upload_parts.specs.TrackerCalls.{CalledSome, with_calls}

-- what a file has in the xorb that its waiting chunks became
abbrev pub part_of : MerkleHash → PendingFile → FileXorbDependency
part_of h p = record { file_id = p.file_id; xorb_hash = h; n_bytes = p.bytes_in_xorb; is_external = false }

-- the same of each file that has something in it
abbrev pub parts_of : MerkleHash → List PendingFile → List FileXorbDependency
parts_of h ps = filter (λ d. ltb 0 d.n_bytes) (map (part_of h) ps)

-- the calls for a xorb that is cut
abbrev pub note_calls : RawXorbData → List PendingFile → List TrackerStep
note_calls raw ps = RegisterNewXorb raw.xorb.hash raw.xorb_info.num_bytes
    ∷ RegisterDependencies (parts_of raw.xorb.hash ps) ∷ []

-- the tracker was told of a xorb that is cut; one without chunks isn't told
pub record NotesCut {E : Type 0} (before after : List TrackerStep) (raw : RawXorbData) (ps : List PendingFile)
    (answer : Result (Unit {0}) E) : Type 0 where
  pub empty : length raw.xorb.chunks ≡ 0 → after ≡ before
  pub some : CalledSome before after (note_calls raw ps)
  pub ok : OnOk answer (0 < length raw.xorb.chunks → after ≡ with_calls before (note_calls raw ps))
