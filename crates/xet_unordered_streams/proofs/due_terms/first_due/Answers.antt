use Rattle.std.proofs.Common.{ap, arith}
use Rattle.xet_leader.specs.Led.{Led}
use Rattle.xet_unordered_streams.specs.Placing.{is_early}
use Rattle.xet_unordered_streams.proofs.Looking.{due_first, none_of_all, none_so_far, refused_first}
use Rattle.xet_unordered_streams.proofs.due_terms.first_due.Goals as goal

pub loop-skip-init : goal.loop-skip-init
loop-skip-init g c = λ i h. absurd (omega (arith, h))

pub due_at-requires : goal.due_at-requires
due_at-requires g c =
    let f = ap (λ (l : Led). l.finished) c.leader.view_is in
    let a = ap (λ (l : Led). l.admitted) c.leader.view_is in
    omega (arith, f, a)

pub returns-in-Ok-Some : goal.returns-in-Ok-Some
returns-in-Ok-Some g c =
    let f = ap (λ (l : Led). l.finished) c.leader.view_is in
    let a = ap (λ (l : Led). l.admitted) c.leader.view_is in
    due_first c.args.leader.now (is_early c.args.early.now) c.args.from c.loop-skip.skip c.in-Ok-Some.due (omega (arith, f, a))
    (rw c.in-Ok-Some.field-0-is at c.in-Ok-Some.ensures)

pub returns-in-Err : goal.returns-in-Err
returns-in-Err g c =
    let f = ap (λ (l : Led). l.finished) c.leader.view_is in
    let a = ap (λ (l : Led). l.admitted) c.leader.view_is in
    refused_first c.args.leader.now (is_early c.args.early.now) c.args.from c.loop-skip.skip c.in-Err.error (omega (arith, f, a))
    c.in-Err.ensures

pub loop-skip-preserved : goal.loop-skip-preserved
loop-skip-preserved g c =
    none_so_far c.args.leader.now (is_early c.args.early.now) c.args.from c.loop-skip.skip c.loop-skip.invariant
    (rw c.in-Ok-None.field-0-is at c.in-Ok-None.ensures)

pub returns : goal.returns
returns g c =
    let f = ap (λ (l : Led). l.finished) c.leader.view_is in
    let a = ap (λ (l : Led). l.admitted) c.leader.view_is in
    none_of_all c.args.leader.now (is_early c.args.early.now) c.loop-skip.skip (omega (arith, f, a))
    c.loop-skip.invariant
