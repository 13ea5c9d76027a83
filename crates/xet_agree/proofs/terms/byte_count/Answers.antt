use Rattle.std.proofs.Common.{◌∙◌, [], ap, length}
use Rattle.xet_base.specs.declared.stored.StoredTerm.{StoredTerm}
use Rattle.xet_agree.proofs.Chunks.{counted_more}
use Rattle.xet_agree.proofs.terms.byte_count.Goals as goal

pub loop-term-preserved : goal.loop-term-preserved
loop-term-preserved c =
    let l = c.loop-term in
    let d : StoredTerm = record { xorb = record { 0 = [] }; from = 0; to = 0 } in
    c.saturating_add-count.ensures
    ∙ counted_more c.args.store.now c.args.terms.now l.term-index d l.count c.len.result c.loop-term-test.true l.invariant
    (c.len.ensures.value ∙ ap length c.in_ok-bytes.ensures)
