use Rattle.std.specs.Prelude.{map}
use Rattle.std.proofs.lemmas.List.{length-map}
use Rattle.xet_streams.proofs.PullWays.{refused_pull}
use Rattle.xet_streams.proofs.stepper.Stepper.pull_open.Goals as goal

pub returns-in-Some-clause-pull : goal.returns-in-Some-clause-pull
returns-in-Some-clause-pull g c = refused_pull c.args.self.now c.refuse.new.self
    (map g.C.Client.told c.args.clients.now) (g.K.ChunkCache.told c.args.cache.now) c.in-Some.setting c.refuse.result
    c.requires (c.in-Some.ensures (map g.C.Client.told c.args.clients.now)
    (length-map c.args.clients.now g.C.Client.told)) c.refuse.ensures.told c.refuse.ensures.allowed
