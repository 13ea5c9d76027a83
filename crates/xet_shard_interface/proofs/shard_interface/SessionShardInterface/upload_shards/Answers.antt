use Rattle.std.proofs.Common.{◌≡◌, refl, ap, ◌∙◌}
use Rattle.std.specs.Prelude.{Err}
use Rattle.xet_base.proofs.CallerLemmas.{err-of}
use Rattle.xet_shard_interface.specs.Puts.{sizes}
use Rattle.xet_shard_interface.proofs.Puts.{uploads-refused, uploads-dry, uploads-done, uploads-stopped}
use Rattle.xet_shard_interface.proofs.shard_interface.SessionShardInterface.upload_shards.Goals as goal

pub returns-in_err-shards : goal.returns-in_err-shards
returns-in_err-shards g c =
    let e : c.from_residual.result ≡ Err c.in_err-shards.field-0.0 = err-of _ _ c.from_residual.ensures in
    rw e (uploads-refused _ _ _ _ _ (rw c.in_err-shards.was at c.session_shards.ensures))

pub returns-then-self : goal.returns-then-self
returns-then-self g c =
    uploads-dry _ _ _ _ c.in_ok-shards.shards (rw c.in_ok-shards.was at c.session_shards.ensures)
    c.sum_of-sum.result (c.sum_of-sum.ensures ∙ ap sizes c.as_slice.ensures) c.if-self.true

pub returns-in_err-put_shards : goal.returns-in_err-put_shards
returns-in_err-put_shards g c =
    let e : c.from_residual-in_err-put_shards.result ≡ Err c.in_err-put_shards.field-0.0 = err-of _ _ c.from_residual-in_err-put_shards.ensures in
    rw e (uploads-stopped _ _ _ _ c.in_ok-shards.shards (rw c.in_ok-shards.was at c.session_shards.ensures)
    _ _ _ _ c.if-self.false _ refl (rw (c.in_err-put_shards.was, c.as_slice-2.ensures) at c.put_shards.ensures))

pub returns : goal.returns
returns g c =
    uploads-done _ _ _ _ c.in_ok-shards.shards (rw c.in_ok-shards.was at c.session_shards.ensures)
    _ _ _ _ c.if-self.false _ _ (c.sum_of-sum.ensures ∙ ap sizes c.as_slice.ensures) (rw (c.in_ok-put_shards.was, c.as_slice-2.ensures) at c.put_shards.ensures) c.forget_resumed.ensures.call c.forget_resumed.ensures.forgot
