use Rattle.std.proofs.Common.{refl, ◌≡◌}
use Rattle.std.specs.Prelude.{Err}
use Rattle.xet_base.proofs.CallerLemmas.{err-of}
use Rattle.xet_shard_interface.specs.Interfaces.{shards_told}
use Rattle.xet_upload_session.specs.Telling.{told_by}
use Rattle.xet_upload_session.proofs.CutTracking.{tracks-err, tracks-later}
use Rattle.xet_upload_session.proofs.Ends.{backs-finalized, listed-counted, listed-err, listed-files, listed-ok, retold}
use Rattle.xet_upload_session.proofs.Tests.{has-listed, tested-storable}
use Rattle.xet_upload_session.proofs.session.FileUploadSession.finalize_with_file_info.Goals as goal

pub returns-in_err-metrics : goal.returns-in_err-metrics
returns-in_err-metrics g c =
    let e : c.from_residual.result ≡ Err c.in_err-metrics.field-0.0 = err-of _ _ c.from_residual.ensures in
    let call = retold _ _ _ _ (rw c.in_err-metrics.was at c.finalize.ensures.call) in
    rw e (record { call = call; tracks = tracks-err _ _ _ _ _ (rw c.in_err-metrics.was at c.finalize.ensures.tracks); untold = c.finalize.ensures.untold; group = c.finalize.ensures.group; counts = tt; files = tt; backs = backs-finalized _ _ _ _ (has-listed _ c.args.self.now.lists c.args.self.now.waits) call (tested-storable _ c.finalize.new.self.waits) })

pub returns-in-Err : goal.returns-in-Err
returns-in-Err g c =
    let n = record (told_by c.finalize.new.self) { shards = shards_told g.R.ShardStore.told c.session_file_info_list.new.self } in
    let call = listed-err _ _ n _ _ (rw c.in_ok-metrics.was at c.finalize.ensures.call) refl _ c.session_file_info_list.ensures _ c.in-Err.is in
    record {
      call = call;
      tracks = tracks-later _ _ _ _ _ _ _ refl (rw c.in_ok-metrics.was at c.finalize.ensures.tracks);
      untold = c.finalize.ensures.untold;
      group = c.finalize.ensures.group;
      counts = tt;
      files = tt;
      backs = backs-finalized _ _ _ _ (has-listed _ c.args.self.now.lists c.args.self.now.waits) call (tested-storable _ c.finalize.new.self.waits);
    }

pub returns-in-Ok : goal.returns-in-Ok
returns-in-Ok g c =
    let k = rw c.in_ok-metrics.was at c.finalize.ensures.call in
    let counted = rw c.in_ok-metrics.was at c.finalize.ensures.counts in
    let n = record (told_by c.finalize.new.self) { shards = shards_told g.R.ShardStore.told c.session_file_info_list.new.self } in
    let call = listed-ok _ _ n _ _ k refl _ c.session_file_info_list.ensures _ c.in-Ok.is in
    record {
      call = call;
      tracks = tracks-later _ _ _ _ _ _ _ refl (rw c.in_ok-metrics.was at c.finalize.ensures.tracks);
      untold = c.finalize.ensures.untold;
      group = c.finalize.ensures.group;
      counts = listed-counted _ _ n _ _ k refl _ c.session_file_info_list.ensures counted;
      files = listed-files _ _ n _ _ k refl _ c.session_file_info_list.ensures _ c.in-Ok.is;
      backs = backs-finalized _ _ _ _ (has-listed _ c.args.self.now.lists c.args.self.now.waits) call (tested-storable _ c.finalize.new.self.waits);
    }
