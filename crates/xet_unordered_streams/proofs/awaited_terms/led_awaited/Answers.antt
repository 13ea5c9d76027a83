use Rattle.std.proofs.Common.{ap, arith, refl}
use Rattle.std.specs.Prelude.{map}
use Rattle.xet_leader.specs.Led.{Led}
use Rattle.xet_leader.specs.LedTerms.{ahead, task_of}
use Rattle.xet_unordered_streams.proofs.Awaiting.{counted, counted_all, counted_first}
use Rattle.xet_unordered_streams.proofs.awaited_terms.led_awaited.Goals as goal

pub loop-skip-init : goal.loop-skip-init
loop-skip-init g c = counted_first c.args.stepper.now.events (map task_of (ahead c.args.leader.now)) _ refl refl

pub awaited_size-size-requires : goal.awaited_size-size-requires
awaited_size-size-requires g c =
    let f = ap (λ (l : Led). l.finished) c.leader.view_is in
    let a = ap (λ (l : Led). l.admitted) c.leader.view_is in
    omega (arith, f, a)

pub loop-skip-preserved : goal.loop-skip-preserved
loop-skip-preserved g c =
    counted c.args.leader.now c.args.stepper.now.events c.loop-skip.skip c.awaited_size-size.result
    c.awaited_size-size.ensures c.loop-skip.found c.with_one-found.result (omega arith) c.loop-skip.invariant
    c.with_one-found.ensures

pub returns : goal.returns
returns g c =
    let f = ap (λ (l : Led). l.finished) c.leader.view_is in
    let a = ap (λ (l : Led). l.admitted) c.leader.view_is in
    counted_all c.args.leader.now c.args.stepper.now.events c.loop-skip.skip c.loop-skip.found (omega (arith, f, a))
    c.loop-skip.invariant
