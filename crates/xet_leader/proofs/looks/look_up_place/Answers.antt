use Rattle.xet_leader.proofs.LookSteps.{block_allowed, block_within, place_done, place_err, place_within}
use Rattle.xet_leader.proofs.looks.look_up_place.Goals as goal

pub index_mut-requires : goal.index_mut-requires
index_mut-requires g c = place_within c.args.core.now c.args.plans.now.items c.args.plans.now.len
    c.plan_index-at.result c.args.place c.args.plans.now.ok.0 c.plan_index-at.ensures c.requires.can

pub look_up_in-requires-clause-within : goal.look_up_in-requires-clause-within
look_up_in-requires-clause-within g c = block_within c.args.core.now c.args.plans.now.items c.plan_index-at.result
    c.index_mut.result.now c.args.place c.plan_index-at.ensures c.index_mut.ensures.value c.requires.can

pub look_up_in-requires-clause-allowed : goal.look_up_in-requires-clause-allowed
look_up_in-requires-clause-allowed g c = block_allowed c.args.core.now c.args.plans.now.items c.plan_index-at.result
    c.index_mut.result.now c.args.place c.plan_index-at.ensures c.index_mut.ensures.value c.requires.running
    c.requires.can

pub returns-clause-ok : goal.returns-clause-ok
returns-clause-ok g c = place_done _ _ _ _ c.args.plans.now.items c.plan_index-at.result c.index_mut.result.now
    c.look_up_in.new.plan c.args.place c.look_up_in.result c.plan_index-at.ensures c.index_mut.ensures.value
    c.requires.can c.look_up_in.ensures

pub returns-clause-err : goal.returns-clause-err
returns-clause-err g c = place_err _ _ _ _ c.index_mut.result.now c.look_up_in.new.plan c.args.place
    c.look_up_in.result c.look_up_in.ensures

pub returns-clause-memory : goal.returns-clause-memory
returns-clause-memory g c = c.look_up_in.ensures.looked.memory
