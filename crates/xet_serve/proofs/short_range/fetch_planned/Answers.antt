use Rattle.std.proofs.Common.{arith}
use Rattle.xet_serve.proofs.Shorts.{block_there, only_first, only_unasked}
use Rattle.xet_serve.proofs.short_range.fetch_planned.Goals as goal

pub returns-in_default : goal.returns-in_default
returns-in_default g c = only_unasked c.args.made.now c.args.start _ _

pub returns-in-Some : goal.returns-in-Some
returns-in-Some g c =
    only_first c.args.made.now c.as_slice.result.now _ c.in-Some.block.now c.args.start _ _ _ _ _ c.fetch_term.ensures
    c.as_slice.ensures (omega (arith, c.in-len1.len_at_least, c.in-len1.len_below))
    (block_there c.as_slice-2.result.now c.args.made.now.blocks _ c.in-Some.block.now c.as_slice-2.ensures
    c.in-Some.ensures.lookup.0 c.in-Some.ensures.lookup.1)

pub returns-in-None : goal.returns-in-None
returns-in-None g c = only_unasked c.args.made.now c.args.start _ _
