use Rattle.std.proofs.Common.{refl, ◌≡◌, ◌∙◌}
use Rattle.std.specs.Prelude.{Err, Ok}
use Rattle.xet_base.proofs.CallerLemmas.{err-of}
use Rattle.xet_clean_parts.proofs.Learned.{backs-learned, learn-none, learned-all, loop-no, loop-stopped, loop-yes}
use Rattle.xet_upload_session.proofs.CallerLemmas.{has-listed}
use Rattle.xet_clean_parts.proofs.deduplication_interface.ask_each.Goals as goal
use Rattle.xet_clean_parts.proofs.deduplication_interface.ask_each.Goals.{else-branch, then-branch}

pub loop-chunk-init : goal.loop-chunk-init
loop-chunk-init g c = (learn-none _, refl, (refl, refl))

pub returns-in_err-ask : goal.returns-in_err-ask
returns-in_err-ask g c =
    let e : c.from_residual.result ≡ Err c.in_err-ask.field-0.0 = err-of _ _ c.from_residual.ensures in
    let call = loop-stopped _ _ _ c.args.chunks.now c.loop-chunk.chunk-index _ _ c.loop-chunk-test.true refl _ c.loop-chunk.invariant.0 _ (rw c.in_err-ask.was at c.ask.ensures.call) in
    rw e (record { learns = call; backs = backs-learned _ _ _ _ call (has-listed _ c.args.session.now.lists c.args.session.now.waits); untold = c.ask.ensures.untold ∙ c.loop-chunk.invariant.1; group = (c.ask.ensures.group.0 ∙ c.loop-chunk.invariant.2.0, c.ask.ensures.group.1 ∙ c.loop-chunk.invariant.2.1) })

pub loop-chunk-preserved : goal.loop-chunk-preserved
loop-chunk-preserved g c =
    let was : c.ask.result ≡ Ok c.in_ok-ask.field-0 = c.in_ok-ask.was in
    let asks = rw was at c.ask.ensures.call in
    elim c.if-branch.branch [
      | then-branch w ↦ rw w.found-is (loop-yes _ _ _ c.args.chunks.now c.loop-chunk.chunk-index _ _ c.loop-chunk-test.true refl _ c.loop-chunk.invariant.0 _ asks w.if-branch.true, c.ask.ensures.untold ∙ c.loop-chunk.invariant.1, (c.ask.ensures.group.0 ∙ c.loop-chunk.invariant.2.0, c.ask.ensures.group.1 ∙ c.loop-chunk.invariant.2.1))
      | else-branch w ↦ rw w.found-is (loop-no _ _ _ c.args.chunks.now c.loop-chunk.chunk-index _ _ c.loop-chunk-test.true refl _ c.loop-chunk.invariant.0 _ asks w.if-branch.false, c.ask.ensures.untold ∙ c.loop-chunk.invariant.1, (c.ask.ensures.group.0 ∙ c.loop-chunk.invariant.2.0, c.ask.ensures.group.1 ∙ c.loop-chunk.invariant.2.1))
    ]

pub returns : goal.returns
returns g c =
    let call = learned-all _ _ c.args.chunks.now c.loop-chunk.chunk-index _ c.loop-chunk-test.false c.loop-chunk.auto.chunk-index-end c.loop-chunk.invariant.0 in
    record { learns = call; backs = backs-learned _ _ _ _ call (has-listed _ c.args.session.now.lists c.args.session.now.waits); untold = c.loop-chunk.invariant.1; group = c.loop-chunk.invariant.2 }
