use Rattle.xet_events.proofs.Plans.{one_more}
use Rattle.xet_events.proofs.plan_source.copied_terms.Goals as goal

pub loop-at-preserved : goal.loop-at-preserved
loop-at-preserved g c =
    let more = one_more (g.S.PlanSource.terms c.args.source.now) c.loop-at.at c.term.result c.term.ensures in
    cc (more, c.in_ok-push.ensures.ok, c.loop-at.invariant)
