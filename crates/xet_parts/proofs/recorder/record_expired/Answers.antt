use Rattle.std.proofs.Common.{◌∙◌, ◌++◌, ap, subst, sym}
use Rattle.xet_events.specs.Allowed.{AllowedAfter}
use Rattle.xet_ties.specs.declared.lane_step.LaneStep.{LaneStep}
use Rattle.xet_ties.specs.Recordings.{expired_event}
use Rattle.xet_ties.proofs.CallerLemmas.{short_at, so_all, so_more, so_next, so_none}
use Rattle.xet_parts.proofs.recorder.record_expired.Goals as goal

pub loop-step-init : goal.loop-step-init
loop-step-init g c = so_none (expired_event c.args.lane) c.args.steps.now c.args.core.now c.requires

pub record_late-requires : goal.record_late-requires
record_late-requires g c =
    subst (λ (s : LaneStep). AllowedAfter c.loop-step.core (expired_event c.args.lane s)) (sym c.step-item.is)
    (so_next (expired_event c.args.lane) c.args.steps.now c.loop-step.step-index c.step-item.result c.args.core.now
    c.loop-step.core c.loop-step-test.true c.loop-step.invariant)

pub loop-step-preserved : goal.loop-step-preserved
loop-step-preserved g c =
    so_more (expired_event c.args.lane) c.args.steps.now c.loop-step.step-index c.step-item.result c.args.core.now
    c.loop-step.core c.record_late.new.core c.loop-step-test.true
    (c.in-Ok.ensures.all ∙ ap (λ (s : LaneStep). c.loop-step.core ++ expired_event c.args.lane s) c.step-item.is)
    c.loop-step.invariant

pub returns-in-Err : goal.returns-in-Err
returns-in-Err g c = short_at (expired_event c.args.lane) c.args.steps.now c.loop-step.step-index c.step-item.result
    c.args.core.now c.loop-step.core _ c.in-Err.error c.loop-step-test.true c.step-item.is c.in-Err.ensures
    c.loop-step.invariant

pub returns : goal.returns
returns g c = so_all (expired_event c.args.lane) c.args.steps.now c.loop-step.step-index
    c.args.core.now c.loop-step.core c.loop-step-test.false c.loop-step.invariant
