use Rattle.std.proofs.Common.{rules}
use Rattle.xet_leader.proofs.Counting.{stale_added, stale_there}
use Rattle.xet_leader.proofs.expiries.add_stale.Goals as goal

pub returns-then-is_some : goal.returns-then-is_some
returns-then-is_some c = stale_there c.args.number c.args.stale.now c.position.result c.position.ensures
    (search rules)

pub returns : goal.returns
returns c = stale_added c.args.number c.args.stale.now c.push.new.self c.position.result c.push.result
    c.position.ensures (search rules) c.push.ensures.ok
