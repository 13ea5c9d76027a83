use Rattle.std.proofs.Common.{refl}
use Rattle.xet_leader.specs.Led.{setup_of_job}
use Rattle.xet_streams.proofs.Stepped.{step_served}
use Rattle.xet_streams.proofs.Steps.{planned_carries, planned_some, some_on, step_none, step_vain}
use Rattle.xet_streams.proofs.stepping.take_step.Goals as goal

pub serve-requires-clause-some : goal.serve-requires-clause-some
serve-requires-clause-some g c = some_on g.C.Client.told _ _
    (c.in-Ok-Some.ensures.planned (g.K.ChunkCache.told c.args.cache.now)).plans.goes.lasts.goes_on c.requires.some

pub serve-requires-clause-carries : goal.serve-requires-clause-carries
serve-requires-clause-carries g c = planned_carries (setup_of_job c.args.job) _ _ _ _ c.requires.carries
    (c.in-Ok-Some.ensures.planned (g.K.ChunkCache.told c.args.cache.now))

pub serve-requires-clause-next : goal.serve-requires-clause-next
serve-requires-clause-next g c = (planned_some (setup_of_job c.args.job) _ _ _ _ _ c.in-Ok-Some.field-0-is
    (c.in-Ok-Some.ensures.planned (g.K.ChunkCache.told c.args.cache.now))).next_is

pub returns-in-Ok-Some-clause-taken : goal.returns-in-Ok-Some-clause-taken
returns-in-Ok-Some-clause-taken g c = step_served (setup_of_job c.args.job) _ _ _ _ _ _ _ c.requires.carries refl
    (planned_some (setup_of_job c.args.job) _ _ _ _ _ c.in-Ok-Some.field-0-is
    (c.in-Ok-Some.ensures.planned (g.K.ChunkCache.told c.args.cache.now))) c.serve.result c.serve.ensures.served

pub returns-in-Ok-Some-clause-placed : goal.returns-in-Ok-Some-clause-placed
returns-in-Ok-Some-clause-placed g c = c.serve.ensures.placed

pub returns-in-Ok-None-clause-taken : goal.returns-in-Ok-None-clause-taken
returns-in-Ok-None-clause-taken g c = step_none (setup_of_job c.args.job) _ _ _ _ _ c.in-Ok-None.field-0-is
    c.requires.carries refl (c.in-Ok-None.ensures.planned (g.K.ChunkCache.told c.args.cache.now))

pub returns-in-Err-clause-taken : goal.returns-in-Err-clause-taken
returns-in-Err-clause-taken g c = step_vain (setup_of_job c.args.job) _ _ _ _ c.in-Err.error
    (c.in-Err.ensures.fails (g.K.ChunkCache.told c.args.cache.now))
