-- Sinks and sources that follow a script.
use Rattle.std.specs.Prelude.{ℕ, ◌≡◌, ◌++◌, ◌-◌, ◌^◌, Bool, true, false, List, length, take, min, max, Option, Some}
use Rattle.std.specs.Prelude.{None, Result, Ok, Err, IfOk, IsErrOf}
use Rattle.xet_outside.specs.declared.sink.SinkError.{SinkError}
use Rattle.xet_outside.specs.declared.sink.SinkError.TheVariants as sink_error
use Rattle.xet_outside.specs.declared.source.SourceFault.{SourceFault}
use Rattle.xet_sinks.specs.declared.script_sink.SinkStep.{SinkStep}
use Rattle.xet_sinks.specs.declared.script_sink.SinkStep.TheVariants as sink_step
use Rattle.xet_sinks.specs.declared.script_source.SourceStep.{SourceStep}
use Rattle.xet_sinks.specs.declared.script_source.SourceStep.TheVariants as source_step

-- how many bytes a step lets a write take at most; after the steps all that a count can name
abbrev pub step_most : Option SinkStep → ℕ
step_most None = 2 ^ 64 - 1
step_most (Some (sink_step.Take k)) = max k 1
step_most (Some sink_step.Fail) = 0
step_most (Some (sink_step.FailAfter k)) = k

-- whether a write by the step fails
abbrev pub step_fails : Option SinkStep → Bool
step_fails None = false
step_fails (Some (sink_step.Take k)) = false
step_fails (Some sink_step.Fail) = true
step_fails (Some (sink_step.FailAfter k)) = true

-- a write of some bytes follows the step, unless it finds no memory
pub record FollowsSink (step : Option SinkStep) (before after : List ℕ) (piece : List ℕ)
    (answer : Result ℕ SinkError) : Type 0 where
  pub takes : IfOk answer (λ k. (k ≡ min (step_most step) (length piece)) × (step_fails step ≡ false))
  pub fails : IsErrOf answer sink_error.Failed
      → (after ≡ before ++ take (step_most step) piece) × (step_fails step ≡ true)

-- a read by a step, with so many bytes left and a buffer for so many
abbrev pub read_by : Option SourceStep → ℕ → ℕ → Result ℕ SourceFault
read_by None left room = Ok (min left room)
read_by (Some (source_step.Give k)) left room = Ok (min left (min room (max k 1)))
read_by (Some source_step.Fail) left room = Err (record {})
