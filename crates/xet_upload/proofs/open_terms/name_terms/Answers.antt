use Rattle.std.proofs.Common.{arith, ◌<◌, length}
use Rattle.xet_upload.specs.FileDatas.{renamed}
use Rattle.xet_waiting.proofs.CallerLemmas.{mapped_step}
use Rattle.xet_upload.proofs.open_terms.name_terms.Goals as goal

pub loop-term-preserved : goal.loop-term-preserved
loop-term-preserved c =
    let within : c.loop-term.term-index < length c.loop-term.terms = omega arith in
    mapped_step (renamed c.args.hash) c.args.terms.now c.loop-term.terms c.loop-term.term-index c.renamed.result _ c.renamed.result c.loop-term.auto.terms within c.loop-term.invariant.0 c.loop-term.invariant.1 c.renamed.ensures
