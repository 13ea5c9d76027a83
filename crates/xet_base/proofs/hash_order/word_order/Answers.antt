use Rattle.std.proofs.Common.{◌∙◌}
use Rattle.xet_base.proofs.Words.{word_cmp-numbers}
use Rattle.xet_base.proofs.hash_order.word_order.Goals as goal

pub returns : goal.returns
returns c =
    rw (c.word.ensures.value, c.word-2.ensures.value) at c.cmp.ensures ∙ word_cmp-numbers c.args.a.now c.args.b.now c.args.at c.told-a c.told-b c.word.ensures.small c.word-2.ensures.small
