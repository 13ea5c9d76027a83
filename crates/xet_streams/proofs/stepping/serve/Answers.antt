use Rattle.std.specs.Prelude.{map}
use Rattle.xet_leader.specs.Led.{setup_of_job}
use Rattle.xet_streams.proofs.Steps.{admitted_carries, admitted_open, served_by, served_short}
use Rattle.xet_streams.proofs.stepping.serve.Goals as goal

pub deliver-requires-clause-carries : goal.deliver-requires-clause-carries
deliver-requires-clause-carries g c = admitted_carries (setup_of_job c.args.job) _ _ _ _
    (map g.C.Client.told c.args.clients.now) (g.K.ChunkCache.told c.args.cache.now) _ _ c.args.next c.requires.carries
    c.requires.next (c.in-Ok.ensures (setup_of_job c.args.job) c.requires.carries c.requires.next
    (map g.C.Client.told c.args.clients.now) (g.K.ChunkCache.told c.args.cache.now)).ok

pub deliver-requires-clause-next : goal.deliver-requires-clause-next
deliver-requires-clause-next g c = admitted_open (setup_of_job c.args.job) _ _ _ _
    (map g.C.Client.told c.args.clients.now) (g.K.ChunkCache.told c.args.cache.now) _ _ c.args.next c.requires.carries
    c.requires.next (c.in-Ok.ensures (setup_of_job c.args.job) c.requires.carries c.requires.next
    (map g.C.Client.told c.args.clients.now) (g.K.ChunkCache.told c.args.cache.now)).ok

pub returns-in-Ok-clause-served : goal.returns-in-Ok-clause-served
returns-in-Ok-clause-served g c = served_by (setup_of_job c.args.job) _ _ _ _
    (map g.C.Client.told c.args.clients.now) (g.K.ChunkCache.told c.args.cache.now) _ _ c.args.next c.requires.carries
    c.requires.next _ c.deliver.result (c.in-Ok.ensures (setup_of_job c.args.job) c.requires.carries c.requires.next
    (map g.C.Client.told c.args.clients.now) (g.K.ChunkCache.told c.args.cache.now)).ok c.deliver.ensures.delivered

pub returns-in-Ok-clause-placed : goal.returns-in-Ok-clause-placed
returns-in-Ok-clause-placed g c = c.deliver.ensures.placed

pub returns-in-Err-clause-served : goal.returns-in-Err-clause-served
returns-in-Err-clause-served g c = served_short (setup_of_job c.args.job) _ _ _ _
    (map g.C.Client.told c.args.clients.now) (g.K.ChunkCache.told c.args.cache.now) _ _ c.args.next c.requires.carries
    c.requires.next c.in-Err.error (c.in-Err.ensures (setup_of_job c.args.job) c.requires.carries c.requires.next
    (map g.C.Client.told c.args.clients.now) (g.K.ChunkCache.told c.args.cache.now))
