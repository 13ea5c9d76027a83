use Rattle.std.proofs.Common.{rules, ◌≡◌, ◌-◌, length, min}
use Rattle.xet_queue.proofs.Joined.{some_is}
use Rattle.xet_queue.proofs.pieces.write_some.Goals as goal

pub returns : goal.returns
returns g c =
    let n : c.min.result ≡ min (length c.args.pieces.now - c.args.at) 24 = search rules in
    rw (← some_is c.args.pieces.now c.args.at c.min.result n) c.write_vectored.ensures
