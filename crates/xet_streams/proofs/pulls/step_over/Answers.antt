use Rattle.std.proofs.Common.{inl, refl}
use Rattle.std.specs.Prelude.{map}
use Rattle.xet_streams.proofs.Starting.{begun_starts}
use Rattle.xet_streams.proofs.pulls.step_over.Goals as goal

pub take_step-requires-clause-carries : goal.take_step-requires-clause-carries
take_step-requires-clause-carries g c =
    (begun_starts c.args.job c.args.core.now (map g.C.Client.told c.args.clients.now) c.args.leader.now
    c.begin.new.leader c.in-Some.leader c.args.reached.now c.requires.holds c.requires.first c.in-Ok.ensures
    c.in-Some.is).carries

pub take_step-requires-clause-marked : goal.take_step-requires-clause-marked
take_step-requires-clause-marked g c =
    (begun_starts c.args.job c.args.core.now (map g.C.Client.told c.args.clients.now) c.args.leader.now
    c.begin.new.leader c.in-Some.leader c.args.reached.now c.requires.holds c.requires.first c.in-Ok.ensures
    c.in-Some.is).marked

pub returns-clause-over : goal.returns-clause-over
returns-clause-over g c = inl (record {
  led = c.in-Some.leader;
  now = c.take_step.new.leader;
  start = (begun_starts c.args.job c.args.core.now (map g.C.Client.told c.args.clients.now) c.args.leader.now
      c.begin.new.leader c.in-Some.leader c.args.reached.now c.requires.holds c.requires.first c.in-Ok.ensures
      c.in-Some.is).start;
  is = refl;
  takes = c.take_step.ensures.taken;
})
