use Rattle.std.proofs.Common.{inl, inr, refl, ◌≡◌}
use Rattle.std.specs.Prelude.{Err, Ok}
use Rattle.xet_base.proofs.CallerLemmas.{err-of}
use Rattle.xet_shard_interface.specs.Interfaces.{shards_told}
use Rattle.xet_session_end.proofs.ending.end_session.Goals as goal

pub returns-in_err-cut : goal.returns-in_err-cut
returns-in_err-cut g c =
    let e : c.from_residual.result ≡ Err c.in_err-cut.field-0.0 = err-of _ _ c.from_residual.ensures in
    rw (e, c.in_err-cut.was) (record { uncut = (refl, refl); so = tt })

pub returns-in_err-add_finished : goal.returns-in_err-add_finished
returns-in_err-add_finished g c =
    let e : c.from_residual-in_err-add_finished.result ≡ Err c.in_err-add_finished.field-0.0 =
    err-of _ _ c.from_residual-in_err-add_finished.ensures in
    rw (e, c.in_ok-cut.was) (record {
      uncut = tt;
      so = inl (c.in_err-add_finished.field-0.0, refl, refl, rw c.in_err-add_finished.was at c.add_finished.ensures);
    })

pub returns-in_err-bytes : goal.returns-in_err-bytes
returns-in_err-bytes g c =
    let e : c.from_residual-in_err-bytes.result ≡ Err c.in_err-bytes.field-0.0 =
    err-of _ _ c.from_residual-in_err-bytes.ensures in
    rw (e, c.in_ok-cut.was) (record {
      uncut = tt;
      so = inr (record {
        added = shards_told g.R.ShardStore.told c.add_finished.new.shards;
        adds = rw c.in_ok-add_finished.was at c.add_finished.ensures;
        put = Err c.in_err-bytes.field-0.0;
        uploads = rw c.in_err-bytes.was at c.upload_shards.ensures;
        counts = (refl, refl);
      });
    })

pub returns : goal.returns
returns g c =
    rw c.in_ok-cut.was (record {
      uncut = tt;
      so = inr (record {
        added = shards_told g.R.ShardStore.told c.add_finished.new.shards;
        adds = rw c.in_ok-add_finished.was at c.add_finished.ensures;
        put = Ok c.in_ok-bytes.bytes;
        uploads = rw c.in_ok-bytes.was at c.upload_shards.ensures;
        counts = (c.count_shards.ensures, refl);
      });
    })
