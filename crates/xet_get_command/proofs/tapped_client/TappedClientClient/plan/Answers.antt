use Rattle.std.proofs.Common.{refl}
use Rattle.xet_outside.specs.Told.{Query}
use Rattle.xet_connections.proofs.CallerLemmas.{honest_plan, given_plan}
use Rattle.xet_base.proofs.CallerLemmas.{err-of}
use Rattle.xet_get_command.proofs.TapCalls.{plan_given, plan_refused}
use Rattle.xet_get_command.proofs.TapRuns.{unexpired_plan}
use Rattle.xet_get_command.proofs.tapped_client.TappedClientClient.plan.Goals as goal

pub invariant_of-self-2 : goal.invariant_of-self-2
invariant_of-self-2 g c =
    let s = c.args.self.now in
    let q : Query = (c.args.file.now, c.args.range) in
    let call = c.in_ok-answer.ensures.call in
    record {
      given = given_plan (g.T.Tap.told s.start.value) (g.T.Tap.told s.tap) s.log c.and_plan-self.result q
          c.in_ok-answer.answer c.and_plan-self.ensures s.given;
      plans = honest_plan s.inner.store.now c.plan.new.self.store.now s.log c.and_plan-self.result q
          c.in_ok-answer.answer call.store c.and_plan-self.ensures (call.honest s.inner.store.now refl) s.plans;
      unexpired = unexpired_plan s.log c.and_plan-self.result q c.in_ok-answer.answer c.and_plan-self.ensures s.unexpired;
    }

pub returns-in_err-answer : goal.returns-in_err-answer
returns-in_err-answer g c =
    let s = c.args.self.now in
    rw (err-of _ _ c.from_residual.ensures)
    (plan_refused s.inner.store.now c.plan.new.self.store.now c.plan.ensures.store s.log (g.T.Tap.told s.start.value) (g.T.Tap.told s.tap) c.args.file.now c.args.range _ c.in_err-answer.ensures.error)

pub returns : goal.returns
returns g c =
    let s = c.args.self.now in
    plan_given s.inner.store.now c.plan.new.self.store.now c.plan.ensures.store s.log (g.T.Tap.told s.start.value) (g.T.Tap.told s.tap) c.args.file.now c.args.range
    c.and_plan-self.result c.in_ok-answer.answer c.and_plan-self.ensures (c.in_ok-answer.ensures.call.honest s.inner.store.now refl)
