use Rattle.xet_ties.specs.Recordings.{wrote_event}
use Rattle.xet_ties.proofs.CallerLemmas.{SoFar}
use Rattle.xet_parts.proofs.recorder.record_window.Given as goal

abbrev pub invariant-loop-length : goal.invariant-loop-length
invariant-loop-length g l = SoFar wrote_event l.lengths l.length-index l.initial.core l.core
