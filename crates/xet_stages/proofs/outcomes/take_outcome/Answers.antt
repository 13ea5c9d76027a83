use Rattle.std.proofs.Common.{ℕ, List, subst, sym}
use Rattle.xet_stages.specs.RoundRecords.{RoundMayBe, lanes_of, window_events}
use Rattle.xet_stages.proofs.KeptOutcomes.{outcome_short, outcome_stops, outcome_took, outcome_unkept}
use Rattle.xet_stages.proofs.outcomes.take_outcome.Goals as goal

pub record_round-requires-clause-lanes : goal.record_round-requires-clause-lanes
record_round-requires-clause-lanes g c = c.requires.lanes

pub record_round-requires-clause-allowed : goal.record_round-requires-clause-allowed
record_round-requires-clause-allowed g c =
    subst (λ (ns : List ℕ). RoundMayBe c.args.core.now (lanes_of c.args.joined.ends.items)
    (window_events c.args.joined.wrote ns)) (sym c.as_slice.ensures) c.requires.allowed

pub returns-in-Err-clause-took : goal.returns-in-Err-clause-took
returns-in-Err-clause-took g c = tt

pub returns-in-Err-clause-fails : goal.returns-in-Err-clause-fails
returns-in-Err-clause-fails g c = outcome_short c.args.tries c.args.lengths c.as_slice.result.now c.args.joined _ _
    c.args.leader.now c.in-Err.error c.as_slice.ensures c.in-Err.ensures

pub returns-in-Some-clause-took : goal.returns-in-Some-clause-took
returns-in-Some-clause-took g c = tt

pub returns-in-Some-clause-fails : goal.returns-in-Some-clause-fails
returns-in-Some-clause-fails g c = outcome_stops c.args.tries c.args.lengths c.as_slice.result.now c.args.joined _ _
    c.args.leader.now c.in-Some.error c.as_slice.ensures c.in-Ok.ensures c.in-Some.ensures

pub returns-in-None-clause-took : goal.returns-in-None-clause-took
returns-in-None-clause-took g c = outcome_took c.args.tries c.args.lengths c.as_slice.result.now c.args.joined _ _
    c.args.leader.now c.keep_outcome.new.leader c.keep_outcome.result c.as_slice.ensures c.in-Ok.ensures
    c.in-None.ensures c.keep_outcome.ensures.kept

pub returns-in-None-clause-fails : goal.returns-in-None-clause-fails
returns-in-None-clause-fails g c = outcome_unkept c.args.tries c.args.lengths c.as_slice.result.now c.args.joined _ _
    c.args.leader.now c.keep_outcome.result c.as_slice.ensures c.in-Ok.ensures c.in-None.ensures
    c.keep_outcome.ensures.fails
