use Rattle.std.proofs.Common.{◌≡◌, length, None, position, rules, Some}
use Rattle.std.specs.BTreeMap.{Updates}
use Rattle.std.specs.Ordering.{is_eq}
use Rattle.xet_base.proofs.Positions.{numbers_push}
use Rattle.xet_base.proofs.keyed_list.KeyedList.push_new.Goals as goal

pub invariant_of-self-in_default-there : goal.invariant_of-self-in_default-there
invariant_of-self-in_default-there g c =
    let values = c.self.inside.values.items in
    let numbers = c.self.inside.numbers in
    let key = g.V.Keyed.key_of in
    let absent : position (λ v. is_eq (g.K.Ord.cmp (key v) (key c.args.value))) values ≡ None = search rules in
    let at_end : c.len-number.result ≡ length values = search rules in
    let updates : Updates g.K.Ord.cmp numbers c.insert.new.self (key c.args.value) (Some c.len-number.result) = search rules in
    rw (c.push_reserved.ensures.items, c.in_ok-reserve.ensures.items) (numbers_push g.met.K.Ord.total key values numbers c.insert.new.self c.args.value c.len-number.result c.self.invariant absent at_end updates.0)
