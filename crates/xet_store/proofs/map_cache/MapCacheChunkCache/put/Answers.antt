use Rattle.std.proofs.Common.{◌≡◌, false, rules}
use Rattle.std.specs.Prelude.{is_some}
use Rattle.xet_store.proofs.MapCaches.{numbered, put_added, put_left, put_refused}
use Rattle.xet_store.proofs.map_cache.MapCacheChunkCache.put.Goals as goal

pub returns-then-is_some-clause-exact : goal.returns-then-is_some-clause-exact
returns-then-is_some-clause-exact c =
    let number = numbered c.args.self.now.entries (record { xorb = c.args.xorb.now; range = c.args.range }) c.position.result c.position.ensures in
    put_left c.args.self.now.entries c.args.xorb.now c.args.range c.args.block.now c.position.result number (search rules)

pub returns-in_default-clause-exact : goal.returns-in_default-clause-exact
returns-in_default-clause-exact c =
    let absent : is_some c.position.result ≡ false = search rules in
    let number = numbered c.args.self.now.entries (record { xorb = c.args.xorb.now; range = c.args.range }) c.position.result c.position.ensures in
    put_refused c.args.self.now.entries c.args.xorb.now c.args.range c.args.block.now c.position.result number absent

pub returns-in-Ok-push-clause-exact : goal.returns-in-Ok-push-clause-exact
returns-in-Ok-push-clause-exact c =
    let absent : is_some c.position.result ≡ false = search rules in
    let number = numbered c.args.self.now.entries (record { xorb = c.args.xorb.now; range = c.args.range }) c.position.result c.position.ensures in
    put_added c.args.self.now.entries c.push.new.self c.args.xorb.now c.args.range c.args.block.now c.position.result number absent (search rules)

pub returns-in-Err-clause-exact : goal.returns-in-Err-clause-exact
returns-in-Err-clause-exact c =
    let absent : is_some c.position.result ≡ false = search rules in
    let number = numbered c.args.self.now.entries (record { xorb = c.args.xorb.now; range = c.args.range }) c.position.result c.position.ensures in
    let kept : c.push.new.self ≡ c.args.self.now.entries = search rules in
    rw kept (put_refused c.args.self.now.entries c.args.xorb.now c.args.range c.args.block.now c.position.result number absent)
