-- What a call reads into a file: part after part, each by a run of its own.
use Rattle.std.specs.Prelude.{ℕ, ◌≡◌, ◌≢◌, ◌⊎◌, ◌+◌, ◌-◌, ◌≤◌, List, [], ◌∷◌, length, false, Option, None, Some, Result}
use Rattle.std.specs.Prelude.{Ok, Err}
use Rattle.xet_base.specs.declared.cas_types.FileRange.{FileRange}
use Rattle.xet_base.specs.declared.merklehash.MerkleHash.{MerkleHash}
use Rattle.xet_outside.specs.Places.{PlaceCall, at_place}
use Rattle.xet_outside.specs.Told.{Rose, SinkTold, Took}
use Rattle.xet_outside.specs.declared.sink.SinkError.{SinkError}
use Rattle.xet_error.specs.declared.error.FileReconstructionError.{FileReconstructionError}
use Rattle.xet_error.specs.declared.error.FileReconstructionError.TheVariants as error
use Rattle.xet_events.specs.Events.{written}
use Rattle.xet_terms.specs.declared.reconstruction_config.ReconstructionConfig.{ReconstructionConfig}
use Rattle.xet_ties.specs.Legal.{Legal}
use Rattle.xet_ties.specs.Setup.{RunTold, setup_of}
use Rattle.xet_reconstruct.specs.Ran.{RanUnder, limit_of}
use Rattle.xet_reconstruct.specs.ToFile.{StandsAt}
use Rattle.xet_resume.specs.declared.resume_error.ResumeError.{ResumeError}
use Rattle.xet_resume.specs.declared.resume_error.ResumeError.TheVariants as resume_error

-- ---- one part

-- the errors after which a file may have taken bytes that the run didn't count
abbrev pub MayTakeMore : Result ℕ FileReconstructionError → Type 0
MayTakeMore (Err error.OutOfMemory) = Unit {0}
MayTakeMore (Err error.IoError) = Unit {0}
MayTakeMore answer = ⊥

-- the file took bytes, of which so many were counted, all but for two errors, and no more than the part has; what it
-- took stands in it from the part's start on
pub record PartTook (part : FileRange) (before after : SinkTold) (count : ℕ)
    (answer : Result ℕ FileReconstructionError) : Type 0 where
  pub taken : List ℕ
  pub took : Took before.took after.took taken
  pub counted : count ≤ length taken
  pub all : (count ≡ length taken) ⊎ MayTakeMore answer
  pub within : part.start + count ≤ part.end
  pub stands : StandsAt false part.start before after

-- the file's place was set, and a run of its own gave this answer, which is legal; its core counted so many bytes as
-- written
pub record PartRun (config : ReconstructionConfig) (file : MerkleHash) (part : FileRange) (before after : RunTold)
    (count : ℕ) (answer : Result ℕ FileReconstructionError) : Type 0 where
  pub ready : SinkTold
  pub placed : PlaceCall before.sink ready (at_place part.start) (Ok tt)
  pub ran : RanUnder (limit_of None config) (setup_of file part config) (record before { sink = ready }) after answer
  pub core : count ≡ written ran.events
  pub legal : Legal (setup_of file part config) (record before { sink = ready }) after answer
  pub took : PartTook part before.sink after.sink count answer

-- the part was read whole
abbrev pub PartDone : ReconstructionConfig → MerkleHash → FileRange → RunTold → RunTold → Type 0
PartDone config file part before after =
    PartRun config file part before after (part.end - part.start) (Ok (part.end - part.start))

-- the file's place could not be set, and nothing else was asked: it found no memory, or it failed
pub record IsUnplaced (part : FileRange) (before after : RunTold) (e : FileReconstructionError) : Type 0 where
  pub sink : SinkTold
  pub failure : SinkError
  pub call : PlaceCall before.sink sink (at_place part.start) (Err failure)
  pub rest : after ≡ record before { sink = sink }
  pub is : ((e ≡ error.OutOfMemory) × (sink.faults ≡ before.sink.faults))
      ⊎ ((e ≡ error.IoError) × Rose before.sink.faults sink.faults)

-- its run answered this error, or it had none
abbrev pub EndsBy : ReconstructionConfig → MerkleHash → FileRange → RunTold → RunTold → ℕ → FileReconstructionError
    → Type 0
EndsBy config file part before after count e =
    PartRun config file part before after count (Err e) ⊎ (IsUnplaced part before after e × (count ≡ 0))

-- how a part may end a call, with so many of its bytes written: by an error, or it is short. Want of memory has an
-- error of its own
abbrev pub PartEnds : ReconstructionConfig → MerkleHash → FileRange → RunTold → RunTold → ℕ → ResumeError → Type 0
PartEnds config file part before after count resume_error.OutOfMemory =
    EndsBy config file part before after count error.OutOfMemory
PartEnds config file part before after count (resume_error.Run e) =
    (e ≢ error.OutOfMemory) × EndsBy config file part before after count e
PartEnds config file part before after count (resume_error.Short expected actual) =
    (expected ≡ part.end - part.start) × (actual ≢ expected) × (count ≡ actual)
    × PartRun config file part before after count (Ok actual)

-- ---- all parts

-- the parts were read in order up to this place: all of them, or up to one that ended the call
abbrev pub Fills : ReconstructionConfig → MerkleHash → List FileRange → ℕ → RunTold → RunTold → ℕ
    → Option ResumeError → Type 0
Fills config file [] end before after reached None = (after ≡ before) × (reached ≡ end)
Fills config file [] end before after reached (Some e) = ⊥
Fills config file (p ∷ ps) end before after reached stop =
    ((between : RunTold) × PartDone config file p before between
    × Fills config file ps end between after reached stop)
    ⊎ ((e : ResumeError) × (stop ≡ Some e) × (count : ℕ) × (reached ≡ p.start + count)
    × PartEnds config file p before after count e)
