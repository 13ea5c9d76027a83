use Rattle.std.proofs.Common.{Some, ap, arith, refl, rules}
use Rattle.xet_store.specs.declared.client_log.ClientLog.{ClientLog}
use Rattle.xet_connections.proofs.TapConnections.{given_block, honest_block, said_grew}
use Rattle.xet_connections.proofs.tap_client.TapClientClient.block.Goals as goal

pub invariant_of-self-2 : goal.invariant_of-self-2
invariant_of-self-2 g c =
    let s = c.args.self.now in
    let call = c.in_ok-block.ensures.call in
    record {
      given = given_block (g.T.Tap.told s.start.value) (g.T.Tap.told s.tap.now)
          (g.T.Tap.told c.pass.new.self) s.log c.and_block-self.result c.args.request.now c.in-Bytes.block
          c.in_ok-pass.field-0 c.and_block-self.ensures c.in_ok-pass.ensures s.given;
      plans = honest_block s.inner.store.now c.block.new.self.store.now s.log c.and_block-self.result c.args.request.now
          c.in_ok-pass.field-0 call.store c.and_block-self.ensures s.plans;
    }

pub returns : goal.returns
returns g c = record {
  store = search rules;
  honest = search rules;
  asked = ap (λ (l : ClientLog). Some l.asked) c.and_block-self.ensures;
  said = said_grew (g.T.Tap.told c.args.self.now.start.value) c.args.self.now.log c.and_block-self.result _ (ap (λ
      (l : ClientLog). l.said) c.and_block-self.ensures);
  unsaid = tt;
  served = c.in_ok-pass.ensures.passed;
  unserved = tt;
  faults = omega arith;
  failed = λ x. cc;
  unfailed = refl;
  expiries = omega arith;
  link = search rules;
  expired = λ e. cc;
}
