use Rattle.xet_connections.proofs.TapConnections.{given_none, honest_none}
use Rattle.xet_connections.proofs.tap_client.TapClient.new.Goals as goal

pub invariant_of-result : goal.invariant_of-result
invariant_of-result g c = record {
  given = rw c.of-start.ensures (given_none (g.T.Tap.told c.args.tap.now) c.new.result c.new.ensures);
  plans = honest_none c.args.inner.store.now c.new.result c.new.ensures;
}
