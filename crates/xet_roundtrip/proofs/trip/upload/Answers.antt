use Rattle.std.proofs.Common.{rules}
use Rattle.xet_roundtrip.proofs.Trips.{gives_back, no_clash}
use Rattle.xet_roundtrip.proofs.trip.upload.Goals as goal

pub unreachable-requires : goal.unreachable-requires
unreachable-requires g c =
    let clash = c.send.ensures.clash (search rules) in
    no_clash c.args.size _ c.requires (rw c.from.ensures at clash) (search rules)

pub returns-in-Ok : goal.returns-in-Ok
returns-in-Ok g c =
    let sent = rw c.in-Ok.is at c.send.ensures.sent in
    gives_back c.args.size _ c.in-Ok.sent.info c.in-Ok.sent.store c.requires (rw c.from.ensures at sent) (search rules)
