use Rattle.std.proofs.Common.{ap, refl}
use Rattle.xet_leader.specs.Led.{Led}
use Rattle.xet_streams.proofs.Steps.{place_read}
use Rattle.xet_streams.proofs.stepping.place_of.Goals as goal

pub returns : goal.returns
returns g c = record {
  plan = c.index.result.now;
  at = place_read c.leader.inside.plans.items c.args.leader.now (ap (λ (l : Led). l.plans) c.leader.view_is) c.args.next
      c.requires c.index.result.now c.index.ensures;
  plan_is = refl;
  block_is = refl;
}
