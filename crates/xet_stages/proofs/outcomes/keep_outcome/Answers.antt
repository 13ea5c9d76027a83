use Rattle.std.proofs.Common.{inl, refl}
use Rattle.xet_stages.proofs.KeptOutcomes.{keep_fails, kept_outcome}
use Rattle.xet_stages.proofs.outcomes.keep_outcome.Goals as goal

pub returns-in-Err-count_expired-clause-fails : goal.returns-in-Err-count_expired-clause-fails
returns-in-Err-count_expired-clause-fails g c = keep_fails c.args.tries c.args.ends.items c.args.leader.now _
    c.in-Ok.places c.as_slice.result.now c.in-Err-count_expired.error c.in-Ok.ensures c.as_slice.ensures.value
    c.in-Err-count_expired.ensures.err

pub returns-clause-kept : goal.returns-clause-kept
returns-clause-kept g c =
    kept_outcome c.args.tries c.len.result c.args.lengths c.args.ends.items c.args.leader.now _ _ c.advance.new.leader
    c.in-Ok.places c.as_slice.result.now _ c.in-Ok.ensures c.as_slice.ensures.value
    c.in-Ok-count_expired.ensures.ok c.advance.ensures c.len.ensures refl refl

pub returns-in-Err-clause-kept : goal.returns-in-Err-clause-kept
returns-in-Err-clause-kept g c = tt

pub returns-in-Err-clause-fails : goal.returns-in-Err-clause-fails
returns-in-Err-clause-fails g c = inl c.from.ensures

pub returns-in-Err-count_expired-clause-kept : goal.returns-in-Err-count_expired-clause-kept
returns-in-Err-count_expired-clause-kept g c = tt

pub returns-clause-fails : goal.returns-clause-fails
returns-clause-fails g c = tt
