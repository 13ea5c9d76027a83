use Rattle.std.proofs.Common.{refl, subst, Option}
use Rattle.std.specs.Prelude.{IfSome, map}
use Rattle.xet_leader.specs.Led.{Led, setup_of_job}
use Rattle.xet_stream_rules.specs.Streams.{Carries, nobody}
use Rattle.xet_streams.proofs.AnyBlocks.{provides_at}
use Rattle.xet_streams.proofs.parts.provides_over.Goals as goal

pub provide-requires-clause-carries : goal.provide-requires-clause-carries
provide-requires-clause-carries g c =
    subst (λ (o : Option Led). IfSome o (Carries nobody (setup_of_job c.args.job) c.args.core.now)) c.in-Some.is
    c.requires.held

pub provide-requires-clause-missing : goal.provide-requires-clause-missing
provide-requires-clause-missing g c absent = c.requires.missing

pub returns : goal.returns
returns g c = record {
  led = c.in-Some.leader;
  now = c.provide.new.leader;
  before = c.in-Some.is;
  after = refl;
  provides = provides_at (setup_of_job c.args.job) _ _ _ _ (map g.C.Client.told c.args.clients.now)
      (map g.C.Client.told c.provide.new.clients) (g.K.ChunkCache.told c.args.cache.now)
      (g.K.ChunkCache.told c.provide.new.cache) c.args.place c.provide.result c.provide.ensures.provides
      c.provide.ensures.fails;
}
