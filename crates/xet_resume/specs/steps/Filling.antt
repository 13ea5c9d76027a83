-- What the parts of a call say.
use Rattle.std.specs.Prelude.{ℕ, ◌≡◌, ◌⊎◌, ◌+◌, ◌-◌, ◌≤◌, ◌==◌, cond, List, [], ◌∷◌, length, None, Result, Ok}
use Rattle.std.specs.Prelude.{Err, IfOk}
use Rattle.std.specs.Prelude.{max}
use Rattle.std.specs.Prelude.{min}
use Rattle.xet_base.specs.declared.cas_types.FileRange.{FileRange}
use Rattle.xet_base.specs.declared.merklehash.MerkleHash.{MerkleHash}
use Rattle.xet_outside.specs.Places.{IsWritten}
use Rattle.xet_outside.specs.Told.{SinkTold, Took}
use Rattle.xet_error.specs.declared.error.FileReconstructionError.{FileReconstructionError}
use Rattle.xet_events.specs.Events.{written}
use Rattle.xet_terms.specs.declared.reconstruction_config.ReconstructionConfig.{ReconstructionConfig}
use Rattle.xet_ties.specs.Legal.{Legal}
use Rattle.xet_ties.specs.Setup.{RunTold, setup_of}
use Rattle.xet_reconstruct.specs.Ran.{RanUnder, limit_of}
use Rattle.xet_resume.specs.declared.part.Stopped.{Stopped}
use Rattle.xet_resume.specs.declared.resume_error.ResumeError.TheVariants as resume_error
use Rattle.xet_resume.specs.Errors.{of_run}
use Rattle.xet_resume.specs.Fills.{MayTakeMore, PartDone, PartEnds}

-- what a gap and a range have in common
abbrev pub common : FileRange → FileRange → FileRange
common g r = record { start = max g.start r.start; end = min g.end r.end }

-- from this moment on what a sink takes stands at its place
abbrev pub Follows : SinkTold → Type 0
Follows now = (later : SinkTold) (bytes : List ℕ) → Took now.took later.took bytes → later.link ≡ now.link
    → IsWritten now later bytes

-- a run of a part into a file whose place was set, with how many bytes its core counted as written
pub record RanPart (config : ReconstructionConfig) (file : MerkleHash) (part : FileRange) (before after : RunTold)
    (count : ℕ) (answer : Result ℕ FileReconstructionError) : Type 0 where
  pub ran : RanUnder (limit_of None config) (setup_of file part config) before after answer
  pub core : count ≡ written ran.events
  pub legal : Legal (setup_of file part config) before after answer
  pub taken : List ℕ
  pub took : Took before.sink.took after.sink.took taken
  pub counted : count ≤ length taken
  pub all : (count ≡ length taken) ⊎ MayTakeMore answer
  pub within : part.start + count ≤ part.end
  pub is : IfOk answer (λ k. k ≡ count)

-- how such a run ends a part
abbrev pub ended_by : FileRange → ℕ → Result ℕ FileReconstructionError → Result (Unit {0}) Stopped
ended_by part count (Ok k) = cond (k == part.end - part.start) (Ok tt)
    (Err (record { count = count; error = resume_error.Short (part.end - part.start) k }))
ended_by part count (Err e) = Err (record { count = count; error = of_run e })

-- a part was read whole, or ends the call
abbrev pub PartAnswer : ReconstructionConfig → MerkleHash → FileRange → RunTold → RunTold
    → Result (Unit {0}) Stopped → Type 0
PartAnswer config file part before after (Ok u) = PartDone config file part before after
PartAnswer config file part before after (Err s) = PartEnds config file part before after s.count s.error

-- all of these parts were read whole, one after another
abbrev pub AllDone : ReconstructionConfig → MerkleHash → List FileRange → RunTold → RunTold → Type 0
AllDone config file [] before after = after ≡ before
AllDone config file (p ∷ ps) before after = (between : RunTold) × PartDone config file p before between
    × AllDone config file ps between after
