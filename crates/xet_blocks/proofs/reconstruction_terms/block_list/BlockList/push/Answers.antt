use Rattle.std.proofs.Common.{◌≡◌, length, rules, None}
use Rattle.xet_blocks.specs.steps.BlockKeys.{key_of, place_of_key, rows_of}
use Rattle.xet_blocks.proofs.BlockNumbers.{at_err, numbers_kept, numbers_push, numbers_to}
use Rattle.xet_blocks.proofs.reconstruction_terms.block_list.BlockList.push.Goals as goal

pub invariant_of-self-in_err-number_key : goal.invariant_of-self-in_err-number_key
invariant_of-self-in_err-number_key c =
    let items = c.self.inside.blocks.items in
    numbers_to items _ (rows_of c.number_key.new.rows) c.in_ok-reserve.ensures.items
    (numbers_kept items (rows_of c.self.inside.rows) (rows_of c.number_key.new.rows) c.self.invariant (at_err c.number_key.result _ c.in_err-number_key.was c.number_key.ensures.err))

pub invariant_of-self-2 : goal.invariant_of-self-2
invariant_of-self-2 c =
    let items = c.self.inside.blocks.items in
    let b = c.args.block in
    let absent : place_of_key items (key_of b) ≡ None = search rules in
    let at_end : c.len-number.result ≡ length items = search rules in
    rw (c.push_reserved.ensures.items, c.in_ok-reserve.ensures.items)
    (numbers_push items b (rows_of c.self.inside.rows) (rows_of c.number_key.new.rows) c.key.result c.len-number.result c.key.ensures c.self.invariant absent at_end c.in_ok-number_key.ensures.ok)
