use Rattle.std.proofs.Common.{sym, ◌∙◌}
use Rattle.xet_base.proofs.CallerLemmas.{err-of}
use Rattle.xet_shard_interface.proofs.Staging.{stages-dry, stages-flushed, stages-memory, stages-waits}
use Rattle.xet_shard_interface.proofs.shard_interface.SessionShardInterface.add_uploaded_xorb_block.Goals as goal

pub returns-then-self : goal.returns-then-self
returns-then-self g c = stages-dry _ _ _ c.if-self.true

pub returns-in_err-keep : goal.returns-in_err-keep
returns-in_err-keep g c = rw (err-of _ _ c.from_residual.ensures) (stages-memory _ _ _ _ c.if-self.false c.in_err-keep.ensures.err)

pub returns-then-is_due : goal.returns-then-is_due
returns-then-is_due g c =
    stages-flushed _ _ _ _ c.if-self.false _ c.in_ok-keep.ensures.ok (sym c.is_due.ensures ∙ c.if-is_due.true) _ c.flush.ensures

pub returns : goal.returns
returns g c = stages-waits _ _ _ _ c.if-self.false c.in_ok-keep.ensures.ok (sym c.is_due.ensures ∙ c.if-is_due.false)
