use Rattle.std.proofs.Common.{refl}
use Rattle.xet_leader.proofs.LookSteps.{looks_all, looks_step, ready_at, short_at, short_here}
use Rattle.xet_leader.proofs.looks.look_up_places.Goals as goal

pub loop-place-init : goal.loop-place-init
loop-place-init g c = (refl, refl, refl, c.with_hint-left.ensures)

pub look_up_place-requires-clause-running : goal.look_up_place-requires-clause-running
look_up_place-requires-clause-running g c = (ready_at _ _ _ _ _ _ c.args.places.now c.loop-place.left
    c.loop-place.place-index (record { plan = 0; block = 0 }) c.loop-place-test.true c.requires
    c.loop-place.invariant).0

pub look_up_place-requires-clause-can : goal.look_up_place-requires-clause-can
look_up_place-requires-clause-can g c = (ready_at _ _ _ _ _ _ c.args.places.now c.loop-place.left
    c.loop-place.place-index (record { plan = 0; block = 0 }) c.loop-place-test.true c.requires
    c.loop-place.invariant).1

pub returns-in-Err : goal.returns-in-Err
returns-in-Err g c = short_at _ _ _ _ _ _ _ _ _ c.args.places.now c.loop-place.left c.loop-place.place-index
    c.in-Err.error c.loop-place.invariant c.in-Err.ensures.err c.in-Err.ensures.memory

pub returns-in-Err-add_left : goal.returns-in-Err-add_left
returns-in-Err-add_left g c = short_here _ _ _ _ _ _ _ _ _ c.args.places.now c.loop-place.left
    c.loop-place.place-index (record { plan = 0; block = 0 }) c.in-Ok.found c.in-Err-add_left.error
    c.loop-place-test.true c.loop-place.invariant c.in-Ok.ensures.ok c.in-Err-add_left.ensures.memory

pub loop-place-preserved : goal.loop-place-preserved
loop-place-preserved g c = looks_step _ _ _ _ _ _ _ _ _ c.args.places.now c.loop-place.left c.add_left.new.left
    c.loop-place.place-index (record { plan = 0; block = 0 }) c.in-Ok.found c.loop-place-test.true
    c.loop-place.invariant c.in-Ok.ensures.ok c.in-Ok-add_left.ensures.added

pub returns : goal.returns
returns g c = looks_all _ _ _ _ _ _ c.args.places.now c.loop-place.left c.loop-place.place-index
    c.loop-place-test.false c.loop-place.invariant
