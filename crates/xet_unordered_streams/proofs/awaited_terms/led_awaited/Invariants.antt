use Rattle.std.specs.Prelude.{map, take}
use Rattle.xet_leader.specs.LedTerms.{ahead, task_of}
use Rattle.xet_unordered_streams.specs.steps.Awaiting.{AwaitedBy, waiting_of}
use Rattle.xet_unordered_streams.proofs.awaited_terms.led_awaited.Given as goal

-- so far those of the first terms
abbrev pub invariant-loop-skip : goal.invariant-loop-skip
invariant-loop-skip g l = AwaitedBy (waiting_of l.stepper.events (take l.skip (map task_of (ahead l.leader)))) l.found
