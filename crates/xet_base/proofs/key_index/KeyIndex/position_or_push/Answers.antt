use Rattle.std.proofs.Common.{◌≡◌, length, None, position, rules, Some}
use Rattle.std.specs.BTreeMap.{Updates}
use Rattle.std.specs.Ordering.{is_eq}
use Rattle.xet_base.proofs.Positions.{numbers_push}
use Rattle.xet_base.proofs.key_index.KeyIndex.position_or_push.Goals as goal

pub invariant_of-self-in_default-there : goal.invariant_of-self-in_default-there
invariant_of-self-in_default-there g c =
    let keys = c.self.inside.keys.items in
    let numbers = c.self.inside.numbers in
    let absent : position (λ y. is_eq (g.K.Ord.cmp y c.args.key)) keys ≡ None = search rules in
    let at_end : c.len-number.result ≡ length keys = search rules in
    let updates : Updates g.K.Ord.cmp numbers c.insert.new.self c.args.key (Some c.len-number.result) = search rules in
    rw (c.push_reserved.ensures.items, c.in_ok-reserve.ensures.items) (numbers_push g.met.K.Ord.total (λ k. k) keys numbers c.insert.new.self c.args.key c.len-number.result c.self.invariant absent at_end updates.0)
