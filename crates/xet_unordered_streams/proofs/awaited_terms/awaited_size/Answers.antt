use Rattle.std.proofs.Common.{◌∙◌, ap, sym}
use Rattle.xet_leader.specs.Led.{Led}
use Rattle.xet_unordered_streams.proofs.AheadTerms.{plan_found}
use Rattle.xet_unordered_streams.proofs.Awaiting.{size_absent, size_kept}
use Rattle.xet_unordered_streams.proofs.awaited_terms.awaited_size.Goals as goal

pub returns-then-is_kept : goal.returns-then-is_kept
returns-then-is_kept g c =
    let p = c.index.result.now in
    size_kept c.args.leader.now c.args.stepper.now.events c.args.skip c.in-Some.found c.in-Some.ensures p
    (plan_found c.leader.inside.plans.items c.args.leader.now (ap (λ (l : Led). l.plans) c.leader.view_is) c.args.skip
    c.in-Some.found c.in-Some.ensures p c.index.ensures) (sym c.is_kept.ensures ∙ c.if-is_kept.true)

pub returns : goal.returns
returns g c =
    let p = c.index.result.now in
    size_absent c.args.leader.now c.args.stepper.now.events c.args.skip c.in-Some.found c.in-Some.ensures p
    (plan_found c.leader.inside.plans.items c.args.leader.now (ap (λ (l : Led). l.plans) c.leader.view_is) c.args.skip
    c.in-Some.found c.in-Some.ensures p c.index.ensures) c.saturating_sub.result
    (sym c.is_kept.ensures ∙ c.if-is_kept.false) c.saturating_sub.ensures
