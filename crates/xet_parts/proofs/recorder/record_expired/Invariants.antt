use Rattle.xet_ties.specs.Recordings.{expired_event}
use Rattle.xet_ties.proofs.CallerLemmas.{SoFar}
use Rattle.xet_parts.proofs.recorder.record_expired.Given as goal

abbrev pub invariant-loop-step : goal.invariant-loop-step
invariant-loop-step g l = SoFar (expired_event l.lane) l.steps l.step-index l.initial.core l.core
