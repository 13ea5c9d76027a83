use Rattle.std.proofs.Common.{◌-◌, ◌∙◌, ap, arith, refl, sym}
use Rattle.xet_leader.specs.Led.{Led}
use Rattle.xet_unordered_streams.proofs.Looking.{awaited_there}
use Rattle.xet_unordered_streams.proofs.due_terms.awaited_at.Goals as goal

pub plan_of-plan-requires : goal.plan_of-plan-requires
plan_of-plan-requires g c = (c.args.number - c.leader.inside.finished, c.in-Some.ensures)

pub returns : goal.returns
returns g c =
    let f = ap (λ (l : Led). l.finished) c.leader.view_is in
    let a = ap (λ (l : Led). l.admitted) c.leader.view_is in
    awaited_there c.args.leader.now c.args.stepper.now.events (c.args.number - c.leader.inside.finished)
    c.in-Some.found c.in-Some.ensures _ (omega (arith, f, a)) c.if-range.false
    (c.plan_of-plan.ensures (c.args.number - c.leader.inside.finished) c.in-Some.ensures) refl
    (sym c.is_kept.ensures ∙ c.if-is_kept.false)
