use Rattle.std.proofs.Common.{refl}
use Rattle.xet_shard_interface.specs.Interfaces.{shards_told}
use Rattle.xet_upload_session.specs.Telling.{told_by}
use Rattle.xet_upload_session.proofs.CutTracking.{cut-untold, ends-tracked, first-end}
use Rattle.xet_upload_session.proofs.Ends.{backs-finalized, finalizes-again, finalizes-behind}
use Rattle.xet_upload_session.proofs.Tests.{has-listed, tested-storable}
use Rattle.xet_upload_session.proofs.session.FileUploadSession.finalize.Goals as goal

pub returns-then-self : goal.returns-then-self
returns-then-self g c =
    let call = finalizes-again _ _ c.if-self.true in
    record { call = call; tracks = cut-untold _ _ _ _ _ refl refl; untold = λ q. refl; group = (refl, refl); counts = tt; backs = backs-finalized _ _ _ _ (has-listed _ c.args.self.now.lists c.args.self.now.waits) call (tested-storable _ c.args.self.now.waits) }

pub returns : goal.returns
returns g c =
    let m = told_by c.checkpoint-cut.new.self in
    let n = record m {
      uploader = g.U.Uploader.told c.end_session.new.uploader;
      shards = shards_told g.R.ShardStore.told c.end_session.new.shards;
      metrics = c.end_session.new.metrics;
      failed = c.end_session.new.failed;
    } in
    let ends = rw c.as_slice.ensures.value at c.end_session.ensures in
    let both = finalizes-behind (told_by c.args.self.now) m n c.args.now c.checkpoint-cut.result c.end_session.result c.if-self.false refl c.checkpoint-cut.ensures.call ends in
    record {
      call = both.0;
      tracks = ends-tracked _ m n m.finished _ _ c.checkpoint-cut.result c.end_session.result refl ends c.checkpoint-cut.ensures.tracks;
      untold = λ q. first-end _ c.if-self.false q;
      group = c.checkpoint-cut.ensures.group;
      counts = both.1;
      backs = backs-finalized _ _ _ _ (has-listed _ c.args.self.now.lists c.args.self.now.waits) both.0 (tested-storable _ c.checkpoint-cut.new.self.waits);
    }
