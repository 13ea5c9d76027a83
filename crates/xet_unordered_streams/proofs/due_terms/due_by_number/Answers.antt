use Rattle.std.proofs.Common.{◌-◌, ap, arith}
use Rattle.xet_leader.specs.Led.{Led}
use Rattle.xet_unordered_streams.specs.Placing.{is_early}
use Rattle.xet_unordered_streams.proofs.Looking.{due_hinted}
use Rattle.xet_unordered_streams.proofs.due_terms.due_by_number.Goals as goal

pub returns : goal.returns
returns g c =
    let f = ap (λ (l : Led). l.finished) c.leader.view_is in
    let a = ap (λ (l : Led). l.admitted) c.leader.view_is in
    due_hinted c.args.leader.now (is_early c.args.early.now) c.args.from (c.args.number - c.leader.inside.finished)
    c.due_at.result (omega (arith, f, a)) c.due_at.ensures
