use Rattle.std.proofs.Common.{map, rules}
use Rattle.xet_outside.specs.Told.{CacheTold}
use Rattle.xet_serve.proofs.Shorts.{first_asked, first_unasked}
use Rattle.xet_serve.proofs.short_range.fetch_shortly.Goals as goal

pub returns-then-cached : goal.returns-then-cached
returns-then-cached g c = λ (cache : CacheTold).
    first_unasked c.args.config.now.tries c.args.file c.args.range
    (record { clients = map g.C.Client.told c.args.clients.now; cache = cache }) _

pub returns : goal.returns
returns g c = λ (cache : CacheTold).
    first_asked c.args.config.now.tries c.args.file c.args.range _ _ g.C.Client.told c.args.clients.now
    c.index-clients-0.result c.fetch_once.new.client cache _ (search rules) (search rules) c.fetch_once.ensures
