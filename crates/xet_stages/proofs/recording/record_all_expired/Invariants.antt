use Rattle.xet_ties.specs.Recordings.{expired_on}
use Rattle.xet_stages.proofs.RoundRecords.{LanesLeft}
use Rattle.xet_stages.proofs.recording.record_all_expired.Given as goal

abbrev pub invariant-loop-end : goal.invariant-loop-end
invariant-loop-end g l = LanesLeft expired_on l.ends l.end-index l.lane l.initial.core l.core
