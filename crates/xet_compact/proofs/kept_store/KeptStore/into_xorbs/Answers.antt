use Rattle.std.proofs.Common.{◌∙◌}
use Rattle.std.proofs.lemmas.Result.{IfOk-weaker}
use Rattle.xet_compact.proofs.KeptXorbs.{named_kept}
use Rattle.xet_compact.proofs.kept_store.KeptStore.into_xorbs.Goals as goal

pub returns : goal.returns
returns c =
    let me = c.args.self in
    IfOk-weaker c.named_xorbs.result _ _ (λ xorbs named. named ∙ named_kept me.raw.now me.index me.kept c.requires)
    c.named_xorbs.ensures
